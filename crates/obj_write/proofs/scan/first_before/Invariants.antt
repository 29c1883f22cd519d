use Rattle.std.proofs.Common.{◌-◌, ◌≤◌, length}
use Rattle.obj_write.specs.Scan.{IsClear}
use Rattle.obj_write.proofs.scan.first_before.Given as goal

-- the places so far are clear
abbrev pub invariant-loop-at : goal.invariant-loop-at
invariant-loop-at l = record {
  later : l.from ≤ l.at;
  within : l.at ≤ length l.numbers;
  clear : IsClear l.numbers l.from l.at;
}

abbrev pub decreases-loop-at : goal.decreases-loop-at
decreases-loop-at l = l.end - l.at
