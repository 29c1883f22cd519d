-- An error that is the bound is the greatest.
use Rattle.std.proofs.Common.{arith}
use Rattle.fit_mesh.proofs.error.worst_within.Goals as goal

pub returns-then-is_reached : goal.returns-then-is_reached
returns-then-is_reached c =
    let reached = c.is_reached.ensures c.if-is_reached.true in
    let bound = c.requires.bound in
    omega arith
