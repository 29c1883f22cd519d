use Rattle.std.proofs.Common.{◌≡◌, ◌≤◌, ◌<◌, arith}
use Rattle.mesh_defs.specs.Triangle.{level_of}
use Rattle.wedgie_tree.proofs.table.base.Goals as goal

pub returns-clause-level : goal.returns-clause-level
returns-clause-level c =
    let is : c.unwrap.result ≡ c.args.number = rw c.unwrap.ensures at c.at.ensures.value in
    let low : 2 ≤ c.unwrap.result = omega arith in
    let first : level_of c.unwrap.result < 1 = (c.level_laws.ensures.below c.unwrap.result 1 low).1 (omega arith) in
    omega arith
