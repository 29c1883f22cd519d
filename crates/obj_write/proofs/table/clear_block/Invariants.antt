use Rattle.std.proofs.Common.{◌≡◌, ℕ, ◌<◌, ◌≤◌, length, get_or}
use Rattle.obj_write.proofs.table.clear_block.Given as goal

-- the places from the start on are 0 so far, and the others are as they were
abbrev pub invariant-loop-k : goal.invariant-loop-k
invariant-loop-k l = record {
  places : length l.numbers ≡ length l.initial.numbers;
  cleared : (i : ℕ) → l.start ≤ i → i < l.k → get_or l.numbers i 0 ≡ 0;
  before : (i : ℕ) → i < l.start → get_or l.numbers i 0 ≡ get_or l.initial.numbers i 0;
  behind : (i : ℕ) → l.k ≤ i → get_or l.numbers i 0 ≡ get_or l.initial.numbers i 0;
}
