use Rattle.std.proofs.Common.{◌≡◌, ◌++◌, take}
use Rattle.height_edit.proofs.holders.append.Given as goal

abbrev pub invariant-loop-i : goal.invariant-loop-i
invariant-loop-i l = l.all.items ≡ l.initial.all.items ++ take l.i l.level
