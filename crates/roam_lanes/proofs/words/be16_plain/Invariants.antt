use Rattle.std.proofs.Common.{◌≡◌, ◌*◌, take}
use Rattle.text_laws.specs.Words.{words_of}
use Rattle.roam_lanes.proofs.words.be16_plain.Given as goal

-- the samples of the first i places are written
abbrev pub invariant-loop-i : goal.invariant-loop-i
invariant-loop-i l = take l.i l.out ≡ words_of (take (2 * l.i) l.bytes)
