use Rattle.std.proofs.Common.{◌≡◌, ◌/◌, ◌<◌, ◌≤◌, ℕ, length, take, get_or}
use Rattle.obj_write.specs.Table.{AreFlagged}
use Rattle.obj_write.specs.Patch.{with_changes}
use Rattle.obj_write.proofs.patch.put_changes.Given as goal

-- the changes so far are put, and flagged
abbrev pub invariant-loop-change : goal.invariant-loop-change
invariant-loop-change l = record {
  numbers : l.numbers ≡ with_changes l.n (take l.change-index l.changes) l.initial.numbers;
  places : length l.numbers ≡ length l.initial.numbers;
  flagged : AreFlagged l.numbers l.used;
  flags : length l.used ≡ length l.initial.used;
  front : (k : ℕ) → k / 64 < l.first → get_or l.numbers k 0 ≡ get_or l.initial.numbers k 0;
  first : l.first ≤ length l.initial.used;
}
