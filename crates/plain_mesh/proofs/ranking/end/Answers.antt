-- A grid has splittable triangles, and fewer than 2 ^ 30.
use Rattle.std.proofs.Common.{◌+◌, ◌*◌, ◌^◌, ◌≤◌, arith}
use Rattle.std.proofs.Math.Pow.{pow_mono}
use Rattle.plain_mesh.proofs.ranking.end.Goals as goal

pub returns-clause-low : goal.returns-clause-low
returns-clause-low c =
    let high = c.n.ensures.in_grid.1 in
    let few : 2 * c.n.result + 1 ≤ 29 = omega arith in
    let most : 2 ^ (2 * c.n.result + 1) ≤ 2 ^ 29 = pow_mono few in
    let some : 1 ≤ 2 * c.n.result + 1 = omega arith in
    let least : 2 ^ 1 ≤ 2 ^ (2 * c.n.result + 1) = pow_mono some in
    omega arith
