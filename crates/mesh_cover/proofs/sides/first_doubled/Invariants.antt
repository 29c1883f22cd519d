use Rattle.mesh_cover.specs.Conforming.{AreRows}
use Rattle.mesh_cover.proofs.sides.first_doubled.Given as goal

abbrev pub invariant-loop-h : goal.invariant-loop-h
invariant-loop-h l = AreRows l.right l.top l.points l.corners l.across l.rows l.h
