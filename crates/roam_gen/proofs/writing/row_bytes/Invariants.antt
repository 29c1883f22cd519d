use Rattle.std.proofs.Common.{◌≡◌, ◌*◌, length, take}
use Rattle.std.specs.List.{flat_map}
use Rattle.text_laws.specs.Words.{two_bytes}
use Rattle.roam_gen.proofs.writing.row_bytes.Given as goal

abbrev pub invariant-loop-sample : goal.invariant-loop-sample
invariant-loop-sample l = record {
  text : l.bytes.items ≡ flat_map two_bytes (take l.sample-index l.row);
  long : length l.bytes.items ≡ 2 * l.sample-index;
}
