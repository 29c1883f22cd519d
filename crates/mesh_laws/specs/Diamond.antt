-- Diamonds of a closed set: a split triangle with its mate, how one is added, and which can be taken away.
-- Source: Duchaineau et al., "ROAMing Terrain", IEEE Visualization 1997, the parts on diamonds and the merge queue.
-- Words: IsInDiamond, IsChildless, CanSplit, CanMerge, IsWithDiamond, IsWithoutDiamond.
use Rattle.std.specs.Prelude.{◌≡◌, ℕ, ◌+◌, ◌*◌, ◌⊎◌, ◌↔◌, Bool, false, IsTrue, List, Contains}
use Rattle.mesh_defs.specs.Triangle.{IsSplittable, IsMate}
use Rattle.mesh_defs.specs.ClosedSet.{leaves_of, among}
use Rattle.mesh_defs.specs.GridSet.{IsAscending}

-- b is a or the mate of a
abbrev pub IsInDiamond : (n a b : ℕ) → Type 0
IsInDiamond n a b = (b ≡ a) ⊎ IsMate n a b

-- neither child of a is a member
abbrev pub IsChildless : (ℕ → Bool) → ℕ → Type 0
IsChildless has a = (has (2 * a) ≡ false) × (has (2 * a + 1) ≡ false)

-- the diamond of a can be split alone: its triangles are splittable leaves
pub record CanSplit (n : ℕ) (has : ℕ → Bool) (a : ℕ) : Type 0 where
  pub splittable : IsSplittable n a
  pub leaf : (b : ℕ) → IsInDiamond n a b → Contains (leaves_of n has) b

-- the diamond of a can be merged: it is split, and no child of it is
pub record CanMerge (n : ℕ) (has : ℕ → Bool) (a : ℕ) : Type 0 where
  pub member : IsTrue (has a)
  pub childless : (b : ℕ) → IsInDiamond n a b → IsChildless has b

-- after has the members of before and the diamond of d
pub record IsWithDiamond (n : ℕ) (before : List ℕ) (d : ℕ) (after : List ℕ) : Type 0 where
  pub ascending : IsAscending after
  pub members : (b : ℕ) → IsTrue (among after b) ↔ (IsTrue (among before b) ⊎ IsInDiamond n d b)

-- after has the members of before that are not in the diamond of d
pub record IsWithoutDiamond (n : ℕ) (before : List ℕ) (d : ℕ) (after : List ℕ) : Type 0 where
  pub ascending : IsAscending after
  pub members : (b : ℕ) → IsTrue (among after b) ↔ (IsTrue (among before b) × (IsInDiamond n d b → ⊥))
