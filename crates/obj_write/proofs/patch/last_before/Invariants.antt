use Rattle.std.proofs.Common.{◌≡◌, ◌-◌, take}
use Rattle.obj_write.specs.Table.{block_end}
use Rattle.obj_write.specs.Patch.{last_number}
use Rattle.obj_write.proofs.patch.last_before.Given as goal

-- no number stands in the blocks so far
abbrev pub invariant-loop-back : goal.invariant-loop-back
invariant-loop-back l = last_number 0 (take (block_end l.numbers (l.block - l.back)) l.numbers)
    ≡ last_number 0 (take (block_end l.numbers l.block) l.numbers)
