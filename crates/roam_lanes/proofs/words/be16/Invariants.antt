use Rattle.std.proofs.Common.{◌≡◌, ◌*◌, take}
use Rattle.text_laws.specs.Words.{words_of}
use Rattle.roam_lanes.proofs.words.be16.Given as goal

-- the samples of the first k blocks are written
abbrev pub invariant-loop-k : goal.invariant-loop-k
invariant-loop-k l = take (8 * l.k) l.out ≡ words_of (take (16 * l.k) l.bytes)
