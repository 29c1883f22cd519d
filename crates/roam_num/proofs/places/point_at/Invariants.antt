use Rattle.std.proofs.Common.{◌≡◌, ◌+◌, length, drop}
use Rattle.roam_num.specs.Places.{until_point}
use Rattle.roam_num.proofs.places.point_at.Given as goal

abbrev pub invariant-loop-byte : goal.invariant-loop-byte
invariant-loop-byte l =
    record {
      counted : l.before ≡ l.byte-index;
      ahead : l.byte-index + length (until_point (drop l.byte-index l.bytes)) ≡ length (until_point l.bytes);
    }
