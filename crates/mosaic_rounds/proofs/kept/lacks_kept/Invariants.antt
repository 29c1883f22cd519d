-- So far each bit of the first sides that is that of a triangle is one of the mesh.
use Rattle.std.proofs.Common.{◌≡◌, ℕ, ◌+◌, ◌*◌, ◌^◌, ◌<◌, ◌≤◌, true}
use Rattle.mosaic_rounds.specs.Bits.{has_bit}
use Rattle.mosaic_rounds.proofs.kept.lacks_kept.Given as goal

abbrev pub invariant-loop-side : goal.invariant-loop-side
invariant-loop-side l =
    (side : ℕ) → side < l.side → (p : ℕ) → 1 ≤ p → p < 2 ^ l.fn.n →
    has_bit l.fn.words (l.fn.first + (side * 2 ^ l.fn.n + p)) ≡ true →
    has_bit l.fn.fresh (side * 2 ^ l.fn.n + p) ≡ true
