-- So far each bit that is set is set in the other table too.
use Rattle.std.proofs.Common.{◌≡◌, ℕ, ◌+◌, ◌-◌, ◌<◌, ◌≤◌, true}
use Rattle.mosaic_rounds.specs.Bits.{has_bit}
use Rattle.mosaic_rounds.proofs.bits.exceeds.Given as goal

abbrev pub invariant-loop-done : goal.invariant-loop-done
invariant-loop-done l = record {
  within : l.done ≤ l.count;
  none : (k : ℕ) → k < l.done → has_bit l.words (l.i + k) ≡ true → has_bit l.others (l.j + k) ≡ true;
}

abbrev pub decreases-loop-done : goal.decreases-loop-done
decreases-loop-done l = l.count - l.done
