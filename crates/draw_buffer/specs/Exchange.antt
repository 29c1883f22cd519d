-- A buffer in the middle of a patch.
use Rattle.std.specs.Prelude.{◌≡◌, ℕ, ◌+◌, ◌*◌, ◌^◌, ◌<◌, ◌≤◌, List, length, map, slice_index, slice_index_or, sum}
use Rattle.std.specs.Prelude.{sum_by}
use Rattle.mesh_defs.specs.HeightField.{side_of}
use Rattle.mesh_defs.specs.declared.level.TheConstants.{GREATEST_LEVEL}
use Rattle.draw_buffer.specs.declared.indices.Indices.{Indices}
use Rattle.draw_buffer.specs.declared.exchange.Waiting.{Waiting}
use Rattle.draw_buffer.specs.Times.{times}
use Rattle.draw_buffer.specs.Places.{PlaceState}
use Rattle.draw_buffer.specs.Vertices.{VertexState}
use Rattle.draw_buffer.specs.Corners.{grid_indices, shown, corner_uses, uses_in}

-- What a contract sees of a buffer in the middle of a patch: the grid, the greatest number of triangles, the triangle
-- at each place and its corners, the triangles that wait for a place, the places that were written, the grid point of
-- each vertex number, how often each is in use, and the numbers that were given out.
pub record ExchangeState : Type 0 where
  pub n : ℕ
  pub most : ℕ
  pub triangles : List ℕ
  pub corners : List Indices
  pub waiting : List Waiting
  pub written : List ℕ
  pub points : List ℕ
  pub uses : List ℕ
  pub given : List ℕ

-- the triangles that wait
abbrev pub addresses_of : List Waiting → List ℕ
addresses_of waiting = map (λ w. w.tri) waiting

-- how often what waits has the number at a corner
unfoldable pub waiting_uses : List Waiting → ℕ → ℕ
waiting_uses waiting v = sum_by (λ w. corner_uses w.corners v) waiting

-- what waits has its corners, and an address within the table
pub record IsReadyToWrite (n end : ℕ) (points : List ℕ) (w : Waiting) : Type 0 where
  pub drawn : shown points w.corners ≡ grid_indices n w.tri
  pub low : w.tri < end

-- what is true of the fields
pub record IsWholeBuffer (n : ℕ) (places : PlaceState) (vertices : VertexState) (corners : List Indices)
    (waiting : List Waiting) (corner_room waiting_room written_room : ℕ) : Type 0 where
  pub n_low : 1 ≤ n
  pub n_high : n ≤ GREATEST_LEVEL
  pub end : places.end ≡ 4 * 2 ^ (2 * n)
  pub point_end : vertices.end ≡ side_of n * side_of n
  pub point_most : vertices.most ≡ 6 * places.most
  pub drawn : map (shown vertices.points) corners ≡ map (grid_indices n) places.triangles
  pub ready : (k : ℕ) (d : Waiting) → k < length waiting →
      IsReadyToWrite n places.end vertices.points (slice_index_or waiting k d)
  pub used : (v : ℕ) → slice_index vertices.uses v ≡ uses_in corners v + waiting_uses waiting v
  pub total : sum vertices.uses ≡ 3 * (length corners + length waiting)
  pub once : (a : ℕ) → times places.triangles a + times (addresses_of waiting) a ≤ 1
  pub few : length places.triangles ≤ places.most
  pub corner_space : corner_room ≡ places.most
  pub waiting_space : waiting_room ≡ places.most
  pub written_space : written_room ≡ places.most

-- what is not told to be written is as before
pub record KeepsUntold (before after : ExchangeState) : Type 0 where
  pub grows : (k : ℕ) → times after.written k ≡ 0 → times before.written k ≡ 0
  pub within : (k : ℕ) → k < length after.triangles → times after.written k ≡ 0 → k < length before.triangles
  pub triangles_stay : (k : ℕ) → k < length after.triangles → times after.written k ≡ 0
      → slice_index after.triangles k ≡ slice_index before.triangles k
  pub corners_stay : (k : ℕ) (d : Indices) → k < length after.triangles → times after.written k ≡ 0
      → slice_index_or after.corners k d ≡ slice_index_or before.corners k d

-- The numbers that are given out only become more, and one that was not given out has the point that it had. What is in
-- use stays so, and is not given out.
pub record IsGiven (before after : ExchangeState) : Type 0 where
  pub grows : (v : ℕ) → times after.given v ≡ 0 → times before.given v ≡ 0
  pub points_stay : (v : ℕ) → times after.given v ≡ 0 → slice_index after.points v ≡ slice_index before.points v
  pub used : (v : ℕ) → 0 < slice_index before.uses v
      → (0 < slice_index after.uses v) × (times after.given v ≡ times before.given v)
