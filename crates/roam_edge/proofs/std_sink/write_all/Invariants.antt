use Rattle.std.proofs.Common.{◌≡◌, ℕ, ◌≤◌, ◌-◌, List, ◌++◌, length, take, Some}
use Rattle.roam_edge.proofs.std_sink.write_all.Given as goal

abbrev pub invariant-loop-done : goal.invariant-loop-done
invariant-loop-done g l = record {
  within : l.done ≤ length l.piece;
  unchanged : l.faults ≡ l.initial.faults;
  handed : (all : List ℕ) → g.W.Write.contents l.initial.writer ≡ Some all →
      g.W.Write.contents l.writer ≡ Some (all ++ take l.done l.piece);
}

abbrev pub decreases-loop-done : goal.decreases-loop-done
decreases-loop-done g l = length l.piece - l.done
