use Rattle.std.proofs.Common.{◌≡◌, ℕ, List, ◌<◌, ◌≤◌, length, get_or}
use Rattle.obj_write.specs.Table.{IsCounted}
use Rattle.obj_write.proofs.table.number_block.Given as goal

-- the places of the block so far are counted, and the others are as they were
abbrev pub invariant-loop-k : goal.invariant-loop-k
invariant-loop-k l = record {
  few : l.count ≤ l.k;
  places : length l.numbers ≡ length l.initial.numbers;
  counted : (marks : List ℕ) → IsCounted marks l.initial.numbers l.before l.start →
      IsCounted marks l.numbers l.count l.k;
  before : (i : ℕ) → i < l.start → get_or l.numbers i 0 ≡ get_or l.initial.numbers i 0;
  behind : (i : ℕ) → l.k ≤ i → get_or l.numbers i 0 ≡ get_or l.initial.numbers i 0;
}
