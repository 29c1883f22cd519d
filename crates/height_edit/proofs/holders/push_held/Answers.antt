use Rattle.std.proofs.Common.{◌+◌, ◌*◌, ◌^◌, ◌<◌, ◌≤◌, arith}
use Rattle.std.proofs.Math.Pow.{pow_mono}
use Rattle.height_edit.proofs.HolderLemmas.{level-below}
use Rattle.height_edit.proofs.holders.push_held.Goals as goal

pub triangle-tri-requires-clause-high : goal.triangle-tri-requires-clause-high
triangle-tri-requires-clause-high c =
    let small : 2 * c.args.n + 2 ≤ 30 = omega arith in
    let most : 2 ^ (2 * c.args.n + 2) ≤ 2 ^ 30 = pow_mono small in
    let high : c.args.number < 2 ^ (2 * c.args.n + 2) = c.requires.high in omega arith

pub holds_point-requires-clause-level : goal.holds_point-requires-clause-level
holds_point-requires-clause-level c =
    level-below c.level_laws.ensures.below c.args.n c.args.number c.triangle-tri.result c.triangle-tri.ensures
    c.requires.low c.requires.high
