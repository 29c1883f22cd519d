-- The points so far lie in the square.
use Rattle.std.proofs.Common.{◌^◌, All}
use Rattle.bintree_laws.specs.Corners.{IsInSquare}
use Rattle.mesh_tests.proofs.certificates.points_on.Given as goal

abbrev pub invariant-loop-x : goal.invariant-loop-x
invariant-loop-x l = All (IsInSquare (2 ^ l.n)) l.points.items
