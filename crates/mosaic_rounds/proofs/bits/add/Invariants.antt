-- So far the first bits are added.
use Rattle.std.proofs.Common.{◌≡◌, ℕ, ◌+◌, ◌-◌, ◌<◌, ◌≤◌, ◌&&◌, ◌||◌, nat_lt, length}
use Rattle.mosaic_rounds.specs.Bits.{has_bit}
use Rattle.mosaic_rounds.proofs.bits.add.Given as goal

abbrev pub invariant-loop-done : goal.invariant-loop-done
invariant-loop-done l = record {
  within : l.done ≤ l.count;
  room : length l.words ≡ length l.initial.words;
  added : (k : ℕ) → has_bit l.words (l.fn.i + k)
      ≡ (has_bit l.initial.words (l.fn.i + k) || (nat_lt k l.done && has_bit l.fn.others (l.fn.j + k)));
  before : (k : ℕ) → k < l.fn.i → has_bit l.words k ≡ has_bit l.initial.words k;
}

abbrev pub decreases-loop-done : goal.decreases-loop-done
decreases-loop-done l = l.count - l.done
