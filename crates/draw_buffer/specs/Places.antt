-- Triangles at dense places, and what is true of a table of them.
use Rattle.std.specs.Prelude.{◌≡◌, ℕ, ◌^◌, ◌<◌, ◌≤◌, List, length, slice_index}

-- What a contract sees of a table of places: the triangle at each place, the first address that is past the table, and
-- the greatest number of triangles.
pub record PlaceState : Type 0 where
  pub triangles : List ℕ
  pub end : ℕ
  pub most : ℕ

-- the place of each triangle is where it stands
abbrev pub IsPlaceOfEach : List ℕ → List ℕ → Type 0
IsPlaceOfEach triangles places =
    (k : ℕ) → k < length triangles →
    (slice_index triangles k < length places) × (slice_index places (slice_index triangles k) ≡ k)

-- triangles and places agree, and there is room for just the greatest number of triangles
pub record AreSoundPlaces (triangles places : List ℕ) (most capacity : ℕ) : Type 0 where
  pub linked : IsPlaceOfEach triangles places
  pub few : length triangles ≤ most
  pub room : capacity ≡ most
  pub small : most < 2 ^ 32
