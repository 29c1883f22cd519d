-- Vertex numbers that are mended where vertices came and went. This project's own words.
-- Words: AreNumbers, AreChanges, with_changes, last_number.
use Rattle.std.specs.Prelude.{◌≡◌, ◌≢◌, ℕ, zero, suc, ◌^◌, if◌then◌else◌, List, [], ◌∷◌, All, slice_set}
use Rattle.mesh_defs.specs.declared.point.Point.{Point}
use Rattle.bintree_laws.specs.Corners.{IsInSquare}
use Rattle.obj_write.specs.declared.patch.VertexChange.{VertexChange}
use Rattle.obj_write.specs.Numbers.{numbers_of}
use Rattle.obj_write.specs.VertexMarks.{grid_place, is_vertex}

-- the numbers of the vertices of some triangles
abbrev pub AreNumbers : ℕ → List ℕ → Type 0
AreNumbers n numbers = (triangles : List ℕ) × (numbers ≡ numbers_of n triangles)

-- Two lists of triangles have the same vertices but for the points of the changes, and the second has those that they
-- show.
pub record AreChanges (n : ℕ) (before after : List ℕ) (changes : List VertexChange) : Type 0 where
  pub told : All (λ c. c.shown ≡ is_vertex n after c.point) changes
  pub others : (p : Point) → IsInSquare (2 ^ n) p → All (λ c. c.point ≢ p) changes →
      is_vertex n after p ≡ is_vertex n before p

-- the numbers, with 1 at the point of each change that is a vertex now, and 0 at that of each other one
abbrev pub with_changes : ℕ → List VertexChange → List ℕ → List ℕ
with_changes n [] numbers = numbers
with_changes n (c ∷ changes) numbers =
    with_changes n changes (slice_set numbers (grid_place n c.point) (if c.shown then 1 else 0))

-- the last number that is not 0, and so much where there is none
abbrev pub last_number : ℕ → List ℕ → ℕ
last_number before [] = before
last_number before (zero ∷ numbers) = last_number before numbers
last_number before (suc k ∷ numbers) = last_number (suc k) numbers
