use Rattle.obj_write.specs.Scan.{IsClear}
use Rattle.obj_write.proofs.scan.first_left.Given as goal

-- the places so far are clear
abbrev pub invariant-loop-at : goal.invariant-loop-at
invariant-loop-at l = IsClear l.numbers l.from l.at
