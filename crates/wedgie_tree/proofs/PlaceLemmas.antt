-- Where corners lie, for the sums that must fit and for the heights that are read.
use Rattle.std.proofs.Common.{◌≡◌, ℕ, ◌+◌, ◌*◌, ◌%◌, ◌^◌, ◌≤◌, sym, arith, subst}
use Rattle.std.proofs.lemmas.Nat.{one_shl}
use Rattle.mesh_defs.specs.declared.point.Corners.{Corners}
use Rattle.mesh_defs.specs.Triangle.{corners_of}
use Rattle.bintree_laws.specs.Corners.{IsWithin, IsInSquare}

-- the corners of an address lie within the square
pub IsWithin-of : ((n a : ℕ) → IsWithin (2 ^ n) (corners_of n a)) → (n a : ℕ) (c : Corners) → c ≡ corners_of n a →
    IsWithin (2 ^ n) c
IsWithin-of within n a c is = let P : Corners → Type 0 = λ d. IsWithin (2 ^ n) d in subst P (sym is) (within n a)
