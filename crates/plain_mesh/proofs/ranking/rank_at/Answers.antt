-- Each address of the grid is one of the deepest grid.
use Rattle.std.proofs.Common.{◌+◌, ◌*◌, ◌^◌, ◌≤◌, arith}
use Rattle.std.proofs.Math.Pow.{pow_mono}
use Rattle.plain_mesh.proofs.ranking.rank_at.Goals as goal

pub unwrap-requires : goal.unwrap-requires
unwrap-requires c =
    let n_high = c.n-valid.ensures.in_grid.1 in
    let few : 2 * c.args.scene.now.grid.n + 1 ≤ 29 = omega arith in
    let deepest : 2 ^ (2 * c.args.scene.now.grid.n + 1) ≤ 2 ^ 29 = pow_mono few in
    c.at.ensures.valid.1 (c.requires.low, omega arith)
