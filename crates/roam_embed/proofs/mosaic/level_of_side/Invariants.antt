-- No level before this one has so many points a side.
use Rattle.std.proofs.Common.{ℕ, ◌<◌}
use Rattle.roam_embed.specs.Mosaics.{IsSide}
use Rattle.roam_embed.proofs.mosaic.level_of_side.Given as goal

abbrev pub invariant-loop-n : goal.invariant-loop-n
invariant-loop-n l = (k : ℕ) → k < l.n → IsSide l.side k → ⊥
