use Rattle.std.proofs.Common.{◌≡◌, ◌<◌, ℕ, get_or}
use Rattle.roam_gen.proofs.heights.clear.Given as goal

abbrev pub invariant-loop-height : goal.invariant-loop-height
invariant-loop-height l = (k : ℕ) → k < l.height-index → get_or l.row k 0 ≡ 0
