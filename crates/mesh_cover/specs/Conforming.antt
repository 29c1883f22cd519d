-- A conforming mesh as arrays: the points and heights of its vertices, the vertex of each corner, and the partner of each edge;
-- and the first place where a mesh is not conforming.
-- Words: corner_in, height_in, IsCorner, IsTurned, IsJoined, IsConforming, IsFirst, IsFault, AreRows, IsMarkStep.
use Rattle.std.specs.Prelude.{◌≡◌, ℕ, ◌+◌, ◌*◌, ◌/◌, ◌<◌, ◌≤◌, ◌⊎◌, Bool, true, false, cond, List, length, slice_index, slice_index_or}
use Rattle.mesh_defs.specs.declared.point.Point.{Point}
use Rattle.mesh_cover.specs.declared.fault.Fault.{Fault}
use Rattle.mesh_cover.specs.declared.fault.Fault.TheVariants.{OffGrid, Flipped, Unpaired, Doubled, Bare}
use Rattle.mesh_cover.specs.Cover.{IsCounterclockwise}
use Rattle.mesh_cover.specs.Mesh.{next_corner, IsWithin, IsSeam, rise_at}
use Rattle.mesh_cover.specs.Sums.{sum_below}

-- the point of corner h, by the number of its vertex
abbrev pub corner_in : List Point → List ℕ → ℕ → Point
corner_in points corners h = slice_index_or points (slice_index corners h) (record { x = 0; y = 0 })

-- its height
abbrev pub height_in : List ℕ → List ℕ → ℕ → ℕ
height_in heights corners h = slice_index heights (slice_index corners h)

-- corner h is a vertex, in the rectangle
abbrev pub IsCorner : ℕ → ℕ → List Point → List ℕ → ℕ → Type 0
IsCorner right top points corners h =
    (slice_index corners h < length points) × IsWithin right top (corner_in points corners h)

-- triangle t turns left
abbrev pub IsTurned : List Point → List ℕ → ℕ → Type 0
IsTurned points corners t =
    IsCounterclockwise (corner_in points corners (t * 3)) (corner_in points corners (t * 3 + 1)) (corner_in points corners (t * 3 + 2))

-- where edge h has a partner other than itself, both ends have the heights that they have there
abbrev pub HasOneHeight : (ℕ → ℕ) → (ℕ → ℕ) → ℕ → Type 0
HasOneHeight height across h =
    (across h ≡ h) ⊎ ((height h ≡ height (next_corner (across h))) × (height (next_corner h) ≡ height (across h)))

-- edge h has a partner that leads back to it, and is the same edge the other way round, its heights too; or it lies on a side
pub record IsJoined (right top count : ℕ) (corner : ℕ → Point) (height across : ℕ → ℕ) (h : ℕ) : Type 0 where
  pub below : across h < count * 3
  pub back : across (across h) ≡ h
  pub seam : IsSeam right top corner across h
  pub level : HasOneHeight height across h

-- how many edges of the right side before edge h have row y
abbrev pub rises_before : ℕ → List Point → List ℕ → List ℕ → ℕ → ℕ → ℕ
rises_before right points corners across h y = sum_below h (rise_at right (corner_in points corners) (slice_index across) y)

-- A conforming mesh: each corner is a vertex of the rectangle, each triangle turns left, each edge is joined, and each row of the
-- right side lies in exactly one edge.
pub record IsConforming (right top : ℕ) (points : List Point) (heights corners across : List ℕ) : Type 0 where
  pub corner : (h : ℕ) → h < length corners → IsCorner right top points corners h
  pub turned : (t : ℕ) → t < length corners / 3 → IsTurned points corners t
  pub joined : (h : ℕ) → h < length corners →
      IsJoined right top (length corners / 3) (corner_in points corners) (height_in heights corners) (slice_index across) h
  pub sides : (y : ℕ) → y < top → rises_before right points corners across (length corners) y ≡ 1

-- h is the first of so many numbers without P
pub record IsFirst (P : ℕ → Type 0) (n h : ℕ) : Type 0 where
  pub below : h < n
  pub wrong : P h → ⊥
  pub before : (k : ℕ) → k < h → P k

-- no row lies in two edges of the right side, up to edge h
abbrev pub IsSingle : ℕ → ℕ → List Point → List ℕ → List ℕ → ℕ → Type 0
IsSingle right top points corners across h = (y : ℕ) → y < top → rises_before right points corners across (h + 1) y ≤ 1

-- The first place that is wrong, test after test: a corner, a triangle, an edge, an edge of the right side, a row of that side.
abbrev pub IsFault : ℕ → ℕ → List Point → List ℕ → List ℕ → List ℕ → Fault → Type 0
IsFault right top points heights corners across (OffGrid h) = IsFirst (IsCorner right top points corners) (length corners) h
IsFault right top points heights corners across (Flipped t) = IsFirst (IsTurned points corners) (length corners / 3) t
IsFault right top points heights corners across (Unpaired h) = IsFirst
    (IsJoined right top (length corners / 3) (corner_in points corners) (height_in heights corners) (slice_index across))
    (length corners) h
IsFault right top points heights corners across (Doubled h) = IsFirst (IsSingle right top points corners across) (length corners) h
IsFault right top points heights corners across (Bare y) = IsFirst
    (λ i. rises_before right points corners across (length corners) i ≡ 1) top y

-- ---- marks of rows

-- whether row y is marked
abbrev pub is_marked : List Bool → ℕ → Bool
is_marked rows y = slice_index_or rows y false

-- so far each row is marked that an edge of the right side has, and no row has two
abbrev pub AreRows : ℕ → ℕ → List Point → List ℕ → List ℕ → List Bool → ℕ → Type 0
AreRows right top points corners across rows h = (y : ℕ) → y < top →
    rises_before right points corners across h y ≡ cond (is_marked rows y) 1 0

-- a row's mark before and behind an edge that rises through it so often
abbrev pub IsMarkStep : ℕ → Bool → Bool → Type 0
IsMarkStep rise before after = ((rise ≡ 0) × (after ≡ before)) ⊎ ((rise ≡ 1) × (before ≡ false) × (after ≡ true))
