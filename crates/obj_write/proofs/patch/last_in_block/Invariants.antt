use Rattle.std.proofs.Common.{◌≡◌, ◌≢◌, take}
use Rattle.obj_write.specs.Patch.{last_number}
use Rattle.obj_write.proofs.patch.last_in_block.Given as goal

-- the last number of the block so far
abbrev pub invariant-loop-k : goal.invariant-loop-k
invariant-loop-k l = record {
  none : l.last ≡ 0 → last_number 0 (take l.k l.numbers) ≡ last_number 0 (take l.start l.numbers);
  some : l.last ≢ 0 → last_number 0 (take l.k l.numbers) ≡ l.last;
}
