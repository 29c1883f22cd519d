-- No level before this one has so many points.
use Rattle.std.proofs.Common.{ℕ, ◌<◌}
use Rattle.roam_embed.specs.Grid.{IsPointCount}
use Rattle.roam_embed.proofs.make.level_of_count.Given as goal

abbrev pub invariant-loop-n : goal.invariant-loop-n
invariant-loop-n l = (k : ℕ) → k < l.n → IsPointCount l.points k → ⊥
