use Rattle.std.proofs.Common.{length, arith}
use Rattle.wedgie_tree.proofs.AreaLemmas.{address_laws}
use Rattle.wedgie_tree.proofs.FineLemmas.{AreWithin, AreWithin-at, IsAt-right}
use Rattle.wedgie_tree.proofs.fine.right_of.Goals as goal

pub overflow_add-result : goal.overflow_add-result
overflow_add-result c =
    let within : AreWithin c.args.places (length c.args.grid.now.heights) =
    AreWithin-at address_laws c.args.grid.now c.args.tri c.args.places c.points-few.ensures.valid c.requires.at in
    omega (
      arith,
      within.v0,
      within.v1,
      c.points-few.ensures.valid.count,
      c.points-few.ensures.value,
      c.points-few.ensures.high,
    )

pub returns : goal.returns
returns c =
    IsAt-right address_laws c.args.grid.now.n c.args.tri c.args.places (omega arith) c.requires.splittable c.requires.at
