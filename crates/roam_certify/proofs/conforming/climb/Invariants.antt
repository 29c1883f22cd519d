-- The addresses from the counter up were visited.
use Rattle.std.proofs.Common.{◌≡◌, ℕ, List, All, length}
use Rattle.mesh_defs.specs.Triangle.{IsAddress}
use Rattle.mesh_laws.specs.Sweep.{is_flagged}
use Rattle.roam_certify.specs.Climb.{AreParentsFlagged, IsClimbed}
use Rattle.roam_certify.proofs.conforming.climb.Given as goal

abbrev pub invariant-loop-number : goal.invariant-loop-number
invariant-loop-number l = record {
  room : length l.flags ≡ length l.fn.flags;
  climbed : (triangles : List ℕ) → All (IsAddress l.n) triangles →
      AreParentsFlagged triangles triangles (is_flagged l.fn.flags) →
      IsClimbed triangles (is_flagged l.flags) l.number;
}
