use Rattle.std.proofs.Common.{◌≡◌, ◌≤◌, ◌+◌, ◌*◌, ◌++◌, length, take}
use Rattle.std.specs.List.{flat_map}
use Rattle.roam_gen.specs.Written.{spaced_number}
use Rattle.roam_gen.proofs.writing.text_of.Given as goal

abbrev pub invariant-loop-number : goal.invariant-loop-number
invariant-loop-number l = record {
  text : l.text.items ≡ l.word ++ flat_map spaced_number (take l.number-index l.numbers);
  short : length l.text.items ≤ 8 + 21 * l.number-index;
}
