-- So far the first points are there, and what they say.
use Rattle.std.proofs.Common.{◌≡◌, ◌↔◌, ℕ, ◌<◌, IsTrue, slice_index_or}
use Rattle.mosaic_rounds.specs.BorderPoints.{has_split}
use Rattle.mosaic_rounds.specs.Place.{IsBorderPlace}
use Rattle.mosaic_rounds.proofs.SaidLemmas.{IsSaidTo}
use Rattle.mosaic_rounds.proofs.border_points.BorderPoints.put.Given as goal

abbrev pub invariant-loop-place : goal.invariant-loop-place
invariant-loop-place l =
    (l.self.n ≡ l.fn.self.n)
    × ((k : ℕ) (d : ℕ) → k < l.place-index → IsBorderPlace l.fn.self.n (slice_index_or l.border k d))
    × ((a : ℕ) → IsTrue (has_split l.self a) ↔ IsSaidTo l.fn.self.n l.border l.place-index a)
