-- What a contract sees of a drawing buffer.
use Rattle.std.specs.Prelude.{◌≡◌, ℕ, ◌<◌, List, length, slice_index, slice_index_or}
use Rattle.draw_buffer.specs.declared.indices.Indices.{Indices}
use Rattle.draw_buffer.specs.Exchange.{ExchangeState}
use Rattle.draw_buffer.specs.Times.{times}

-- What a contract sees of a drawing buffer: the grid, the greatest number of triangles, the triangle at each place and
-- the vertex numbers of its corners, the places that the last patch wrote, the grid point of each vertex number, as its
-- place in the list of heights, and the numbers that the last patch gave out.
pub record BufferState : Type 0 where
  pub n : ℕ
  pub most : ℕ
  pub triangles : List ℕ
  pub corners : List Indices
  pub written : List ℕ
  pub points : List ℕ
  pub given : List ℕ

-- what is seen of it between two patches
abbrev pub buffer_of : ExchangeState → BufferState
buffer_of e = record {
  n = e.n;
  most = e.most;
  triangles = e.triangles;
  corners = e.corners;
  written =
      e.written;
  points = e.points;
  given = e.given;
}

-- a place that was not written has the triangle and the corners that it had, and a number that was not given out its
-- grid point
pub record IsKept (before after : BufferState) : Type 0 where
  pub within : (k : ℕ) → k < length after.triangles → times after.written k ≡ 0 → k < length before.triangles
  pub triangle : (k : ℕ) → k < length after.triangles → times after.written k ≡ 0
      → slice_index after.triangles k ≡ slice_index before.triangles k
  pub corner : (k : ℕ) (d : Indices) → k < length after.triangles → times after.written k ≡ 0
      → slice_index_or after.corners k d ≡ slice_index_or before.corners k d
  pub point : (v : ℕ) → times after.given v ≡ 0 → slice_index after.points v ≡ slice_index before.points v
