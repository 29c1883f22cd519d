use Rattle.std.proofs.Common.{◌≡◌, length}
use Rattle.obj_write.specs.Table.{AreFlagged, IsCounted, block_end}
use Rattle.obj_write.proofs.table.number_blocks.Given as goal

-- the blocks so far are counted
abbrev pub invariant-loop-block : goal.invariant-loop-block
invariant-loop-block l = record {
  places : length l.numbers ≡ length l.initial.numbers;
  flagged : AreFlagged l.numbers l.used;
  counted : IsCounted l.initial.numbers l.numbers l.count (block_end l.numbers l.block);
}
