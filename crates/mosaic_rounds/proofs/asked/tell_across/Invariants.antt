-- So far the list has what is asked for at the first places.
use Rattle.std.proofs.Common.{◌≡◌, ◌⊎◌, ◌↔◌, ℕ, ◌+◌, ◌<◌, ◌≤◌, length, take, IsTrue}
use Rattle.mesh_defs.specs.ClosedSet.{among}
use Rattle.mosaic_rounds.specs.Across.{IsAcross}
use Rattle.mosaic_rounds.specs.Border.{place_of}
use Rattle.mosaic_rounds.proofs.AskedLemmas.{IsApart}
use Rattle.mosaic_rounds.proofs.asked.tell_across.Given as goal

abbrev pub invariant-loop-place : goal.invariant-loop-place
invariant-loop-place l =
    (length l.list ≡ length l.initial.list) × (l.fn.count ≤ l.next) × (l.next + 1 ≤ l.fn.count + l.place)
    × ((a : ℕ) → IsTrue (among (take l.next l.list) a)
    ↔ (IsTrue (among (take l.fn.count l.initial.list) a)
    ⊎ (IsAcross l.fn.shape l.fn.words l.fn.t l.fn.side a × (place_of a < l.place))))
    × (IsApart l.fn.shape l.fn.words l.fn.t l.fn.side (take l.fn.count l.initial.list) (take l.next l.list))
