use Rattle.std.proofs.Common.{◌≡◌, ℕ, ◌<◌, false, length, get_or}
use Rattle.obj_write.specs.Table.{AreFlagged}
use Rattle.obj_write.proofs.table.clear.Given as goal

-- the flags so far are not set any more
abbrev pub invariant-loop-block : goal.invariant-loop-block
invariant-loop-block l = record {
  places : length l.numbers ≡ length l.initial.numbers;
  flags : length l.used ≡ length l.initial.used;
  flagged : AreFlagged l.numbers l.used;
  unused : (k : ℕ) → k < l.block → get_or l.used k false ≡ false;
}
