-- When a list of triangles is conforming, by the set of their ancestors, as flags and counts can test it.
-- This project's own words.
use Rattle.std.specs.Prelude.{◌≡◌, ℕ, ◌+◌, ◌↔◌, nat_eq, IsTrue, List, length, All, Contains}
use Rattle.std.specs.List.{IsDistinct}
use Rattle.mesh_defs.specs.Triangle.{IsAddress, IsMate}
use Rattle.mesh_defs.specs.ClosedSet.{among}
use Rattle.mesh_laws.specs.Ancestors.{ancestors_of}

-- The entries are triangles of the grid, none twice and none above another; an ancestor's mate is an ancestor;
-- and there are two entries more than ancestors.
pub record IsCut (n : ℕ) (triangles : List ℕ) : Type 0 where
  pub addresses : All (IsAddress n) triangles
  pub distinct : IsDistinct nat_eq triangles
  pub outside : (a : ℕ) → Contains triangles a → IsTrue (ancestors_of triangles a) → ⊥
  pub mates : (a b : ℕ) → IsTrue (ancestors_of triangles a) → IsMate n a b → IsTrue (ancestors_of triangles b)
  pub members : List ℕ
  pub once : IsDistinct nat_eq members
  pub same : (a : ℕ) → IsTrue (among members a) ↔ IsTrue (ancestors_of triangles a)
  pub counted : length triangles ≡ length members + 2
