-- What the loops keep that test whether a list of triangles is conforming.
-- Words: AreParentsFlagged, IsClimbed, IsCountedBelow, AreLeavesOf.
use Rattle.std.specs.Prelude.{◌≡◌, ℕ, ◌/◌, ◌<◌, ◌≤◌, ◌↔◌, Bool, false, nat_eq, IsTrue, List, length, Contains}
use Rattle.std.specs.List.{IsDistinct}
use Rattle.mesh_defs.specs.Triangle.{IsMate}
use Rattle.mesh_defs.specs.ClosedSet.{IsSubset, among}
use Rattle.mesh_laws.specs.Ancestors.{ancestors_of}

-- flags of the parents of the first entries: nothing but ancestors is flagged
pub record AreParentsFlagged (triangles first : List ℕ) (has : ℕ → Bool) : Type 0 where
  pub within : IsSubset has (ancestors_of triangles)
  pub holds : (e : ℕ) → Contains first e → 4 ≤ e → IsTrue (has (e / 2))

-- Flags of ancestors, once those from k up were visited: nothing else is flagged, the parent of each entry is,
-- and with each from k up its parent.
pub record IsClimbed (triangles : List ℕ) (has : ℕ → Bool) (k : ℕ) : Type 0 where
  pub within : IsSubset has (ancestors_of triangles)
  pub holds : (e : ℕ) → Contains triangles e → 4 ≤ e → IsTrue (has (e / 2))
  pub parent : (a : ℕ) → k ≤ a → IsTrue (has a) → 4 ≤ a → IsTrue (has (a / 2))

-- so many members below k, and each has its mate
pub record IsCountedBelow (n : ℕ) (has : ℕ → Bool) (k count : ℕ) : Type 0 where
  pub members : List ℕ
  pub once : IsDistinct nat_eq members
  pub same : (a : ℕ) → IsTrue (among members a) ↔ ((a < k) × IsTrue (has a))
  pub counted : length members ≡ count
  pub few : count ≤ k
  pub mates : (a b : ℕ) → a < k → IsTrue (has a) → IsMate n a b → IsTrue (has b)

-- no entry twice, and none that is split
pub record AreLeavesOf (has : ℕ → Bool) (triangles : List ℕ) : Type 0 where
  pub distinct : IsDistinct nat_eq triangles
  pub outside : (a : ℕ) → Contains triangles a → has a ≡ false
