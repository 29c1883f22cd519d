use Rattle.std.proofs.Common.{◌-◌, drop}
use Rattle.mesh_laws.specs.Turn.{HasTurns}
use Rattle.strip_order.proofs.turning.turns.Given as goal

abbrev pub invariant-loop-at : goal.invariant-loop-at
invariant-loop-at l = HasTurns l.fn.n (drop (l.at - 1) l.fn.order) l.left l.right
