use Rattle.std.proofs.Common.{◌≡◌, take}
use Rattle.cull_marks.proofs.planes.Planes.put.Given as goal

-- the planes so far are in force
abbrev pub invariant-loop-plane : goal.invariant-loop-plane
invariant-loop-plane l = l.self-inside.list.items ≡ take l.plane-index l.other
