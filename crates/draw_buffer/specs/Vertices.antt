-- Vertex numbers, given out and taken back by use.
use Rattle.std.specs.Prelude.{◌≡◌, ℕ, ◌+◌, ◌^◌, ◌<◌, ◌≤◌, nat_lt, List, length, slice_index, sum, count_by}
use Rattle.draw_buffer.specs.Times.{times, same}
use Rattle.draw_buffer.specs.Corners.{shown, corner_uses}
use Rattle.draw_buffer.specs.declared.indices.Indices.{Indices}

-- What a contract sees of a table of vertices: the grid point of each number, how often each number is in use, the
-- numbers that were given out since the patch began, the first grid point that is past the table, and how many uses
-- there may be.
pub record VertexState : Type 0 where
  pub points : List ℕ
  pub uses : List ℕ
  pub given : List ℕ
  pub end : ℕ
  pub most : ℕ

-- how many of the numbers are in use
unfoldable pub busy : List ℕ → ℕ
busy uses = count_by (λ u. nat_lt 0 u) uses

-- the number that is noted for the point of each number in use is that number
abbrev pub IsNumbered : List ℕ → List ℕ → List ℕ → Type 0
IsNumbered points uses numbers =
    (v : ℕ) → 0 < slice_index uses v →
    (slice_index points v < length numbers) × (slice_index numbers (slice_index points v) ≡ v)

-- the free numbers are those of no use, each once
pub record AreFree (uses free : List ℕ) : Type 0 where
  pub low : (i : ℕ) → i < length free → slice_index free i < length uses
  pub unused : (i : ℕ) → i < length free → slice_index uses (slice_index free i) ≡ 0
  pub distinct : (v : ℕ) → times free v ≤ 1
  pub count : busy uses + length free ≡ length uses

-- points, uses and numbers agree, and there is room for as many uses as there may be
pub record AreSound (points uses numbers free : List ℕ)
    (most point_room use_room free_room given_room : ℕ) : Type 0 where
  pub numbered : IsNumbered points uses numbers
  pub vacant : AreFree uses free
  pub long : length points ≡ length uses
  pub few : length points ≤ most
  pub small : most < 2 ^ 32
  pub point_space : point_room ≡ most
  pub use_space : use_room ≡ most
  pub free_space : free_room ≡ most
  pub given_space : given_room ≡ most

-- v has the point, and a use more; what is in use keeps its point and is not given out, and each number that is not told
-- to be given out keeps its point
pub record IsTaken (before after : VertexState) (point v : ℕ) : Type 0 where
  pub here : slice_index after.points v ≡ point
  pub uses : (w : ℕ) → slice_index after.uses w ≡ slice_index before.uses w + same v w
  pub total : sum after.uses ≡ sum before.uses + 1
  pub stay : (w : ℕ) → 0 < slice_index before.uses w → slice_index after.points w ≡ slice_index before.points w
  pub told : (w : ℕ) → times after.given w ≡ 0 → slice_index after.points w ≡ slice_index before.points w
  pub grows : (w : ℕ) → times after.given w ≡ 0 → times before.given w ≡ 0
  pub used : (w : ℕ) → 0 < slice_index before.uses w → times after.given w ≡ times before.given w
  pub few : length after.given ≤ length before.given + 1
  pub end : after.end ≡ before.end
  pub most : after.most ≡ before.most

-- the same of three numbers
pub record AreTaken (before after : VertexState) (places x : Indices) : Type 0 where
  pub here : shown after.points x ≡ places
  pub uses : (w : ℕ) → slice_index after.uses w ≡ slice_index before.uses w + corner_uses x w
  pub total : sum after.uses ≡ sum before.uses + 3
  pub stay : (w : ℕ) → 0 < slice_index before.uses w → slice_index after.points w ≡ slice_index before.points w
  pub told : (w : ℕ) → times after.given w ≡ 0 → slice_index after.points w ≡ slice_index before.points w
  pub grows : (w : ℕ) → times after.given w ≡ 0 → times before.given w ≡ 0
  pub used : (w : ℕ) → 0 < slice_index before.uses w → times after.given w ≡ times before.given w
  pub few : length after.given ≤ length before.given + 3
  pub end : after.end ≡ before.end
  pub most : after.most ≡ before.most
