use Rattle.std.proofs.Common.{arith, refl}
use Rattle.mesh_within.proofs.verdict.judge.Goals as goal

pub greatest_deviation-requires-clause-corner : goal.greatest_deviation-requires-clause-corner
greatest_deviation-requires-clause-corner c = λ h less.
    let mesh = c.in_default.ensures.none.0 refl in
    let at = mesh.corner h less in
    (at.0, record { column = at.1.column; row = omega (arith, at.1.row, c.in_ok-rows.ensures.len, c.deref_mut.ensures.len) })
