-- Two meshes side by side: where a triangle ends in the order of a mesh, and what one mesh has alone.
-- All of it is this project's own.
-- Words: IsTriangle, end_of, IsDepthFirst, alone, with_first, IsAloneWritten.
use Rattle.std.specs.Prelude.{◌≡◌, ℕ, ◌+◌, ◌-◌, ◌*◌, ◌^◌, ◌<◌, ◌≤◌, not, List, [], ◌∷◌, length, filter, All, AllPairs}
use Rattle.mesh_defs.specs.Triangle.{level_of}
use Rattle.mesh_defs.specs.ClosedSet.{among}

-- the number is the address of a triangle of some grid
pub record IsTriangle (a : ℕ) : Type 0 where
  pub low : 2 ≤ a
  pub high : a < 2 ^ 30

-- the first address of the deepest level, 28, behind those of the triangles at and below a
abbrev pub end_of : ℕ → ℕ
end_of a = (a + 1) * 2 ^ (28 - level_of a)

-- triangles, each of which ends before all that follow it
pub record IsDepthFirst (triangles : List ℕ) : Type 0 where
  pub addresses : All IsTriangle triangles
  pub ascending : AllPairs (λ a b. end_of a < end_of b) triangles

-- those of a list that the other has not, in their order
abbrev pub alone : List ℕ → List ℕ → List ℕ
alone these those = filter (λ a. not (among those a)) these

-- the list with these entries in its first places, as far as it reaches
abbrev pub with_first : List ℕ → List ℕ → List ℕ
with_first [] whole = whole
with_first (x ∷ entries) [] = []
with_first (x ∷ entries) (_ ∷ whole) = x ∷ with_first entries whole

-- what the one list has alone is counted, and stands in the first places of an array
pub record IsAloneWritten (these those array_before array : List ℕ) (count : ℕ) : Type 0 where
  pub counted : count ≡ length (alone these those)
  pub written : array ≡ with_first (alone these those) array_before
