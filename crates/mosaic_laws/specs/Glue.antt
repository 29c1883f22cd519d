-- One set of the large grid from a set for each tile, and one list from a list for each tile.
-- This project's own form.
-- Words: is_coarse, quarter_in, square_in, quarter_of, square_of, prefix_at, number_at, prefix_of, tile_of, local_of,
-- glue, HaveCentres, IsAgreed, splits_of, IsFineAs, IsPartOf, IsUnionOf.
use Rattle.std.specs.Prelude.{◌≡◌, ◌≢◌, ℕ, zero, suc, ◌+◌, ◌-◌, ◌*◌, ◌/◌, ◌%◌, ◌^◌, ◌<◌, ◌≤◌, Bool, ◌&&◌, ◌||◌, IsTrue}
use Rattle.std.specs.Prelude.{nat_eq, nat_le, nat_lt, List, Contains, count_by}
use Rattle.mesh_defs.specs.declared.point.Point.{Point}
use Rattle.mesh_defs.specs.Triangle.{level_of, IsAddress, IsMate}
use Rattle.mesh_laws.specs.Ancestors.{ancestors_of}
use Rattle.mosaic_laws.specs.Tile.{IsTile, in_tile}

-- the triangles above the quarters of the tiles: those of a level below 2 p + 1
abbrev pub is_coarse : ℕ → ℕ → Bool
is_coarse p a = nat_le 2 a && nat_lt (level_of a) (2 * p + 1)

-- which quarter of its quadrant a grandchild of quarter k of a square is: the first, the second, the third or the last
abbrev pub quarter_in : ℕ → ℕ → ℕ
quarter_in k zero = (k + 3) % 4
quarter_in k (suc zero) = k
quarter_in k (suc (suc zero)) = k
quarter_in k (suc (suc (suc _))) = (k + 1) % 4

-- and which quadrant that is
abbrev pub square_in : ℕ → ℕ → Point
square_in zero zero = record { x = 0; y = 0 }
square_in zero (suc _) = record { x = 1; y = 0 }
square_in (suc zero) zero = record { x = 0; y = 1 }
square_in (suc zero) (suc _) = record { x = 0; y = 0 }
square_in (suc (suc zero)) zero = record { x = 1; y = 1 }
square_in (suc (suc zero)) (suc _) = record { x = 0; y = 1 }
square_in (suc (suc (suc _))) zero = record { x = 1; y = 0 }
square_in (suc (suc (suc _))) (suc _) = record { x = 1; y = 1 }

-- which quarter of its tile the triangle x of level 2 p + 1 is
abbrev pub quarter_of : ℕ → ℕ → ℕ
quarter_of zero x = x % 4
quarter_of (suc p) x = quarter_in (quarter_of p (x / 4)) (x % 4)

-- and which tile that is
abbrev pub square_of : ℕ → ℕ → Point
square_of zero x = record { x = 0; y = 0 }
square_of (suc p) x = record {
  x = 2 * (square_of p (x / 4)).x + (square_in (quarter_of p (x / 4)) (x % 4 / 2)).x;
  y = 2 * (square_of p (x / 4)).y + (square_in (quarter_of p (x / 4)) (x % 4 / 2)).y;
}

-- the triangle so many levels above x
abbrev pub prefix_at : ℕ → ℕ → ℕ
prefix_at zero x = x
prefix_at (suc levels) x = prefix_at levels (x / 2)

-- the address in the tile of x, so many levels below its quarter
abbrev pub number_at : ℕ → ℕ → ℕ → ℕ
number_at zero p x = 4 + quarter_of p x
number_at (suc levels) p x = 2 * number_at levels p (x / 2) + x % 2

-- the triangle of level 2 p + 1 at or above x
abbrev pub prefix_of : ℕ → ℕ → ℕ
prefix_of p x = prefix_at (level_of x - (2 * p + 1)) x

-- the tile that has x
abbrev pub tile_of : ℕ → ℕ → Point
tile_of p x = square_of p (prefix_of p x)

-- the address of x in its tile
abbrev pub local_of : ℕ → ℕ → ℕ
local_of p x = number_at (level_of x - (2 * p + 1)) p x

-- The set of the large grid that has all that is coarse, and in each tile what the tile's set has.
abbrev pub glue : ℕ → (Point → ℕ → Bool) → ℕ → Bool
glue p sets x = nat_le 2 x && (nat_lt (level_of x) (2 * p + 1) || sets (tile_of p x) (local_of p x))

-- The sets of the tiles agree on their borders: of two mates in two tiles the one is a member where the other is.
abbrev pub IsAgreed : ℕ → ℕ → ℕ → ℕ → (Point → ℕ → Bool) → Type 0
IsAgreed columns rows n p sets =
    (t u : Point) (a c : ℕ) → IsTile columns rows t → IsTile columns rows u → t ≢ u → IsAddress n a → IsAddress n c →
    4 ≤ a → 4 ≤ c → IsMate (n + p) (in_tile p t a) (in_tile p u c) → IsTrue (sets t a) → IsTrue (sets u c)

-- what is split in each tile's list
abbrev pub splits_of : (Point → List ℕ) → Point → ℕ → Bool
splits_of lists t = ancestors_of (lists t)

-- no entry is above the quarters of the tiles
abbrev pub IsFineAs : ℕ → List ℕ → Type 0
IsFineAs p triangles = (x : ℕ) → Contains triangles x → 2 * p < level_of x

-- the triangles of the small grid that a list of the large grid has in a tile, each as often
pub record IsPartOf (n p : ℕ) (t : Point) (triangles part : List ℕ) : Type 0 where
  pub addresses : (a : ℕ) → Contains part a → IsAddress n a × (4 ≤ a)
  pub counts : (a : ℕ) → IsAddress n a → 4 ≤ a →
      count_by (λ x. nat_eq x a) part ≡ count_by (λ x. nat_eq x (in_tile p t a)) triangles

-- The list of the large grid that has the entries of all tiles' lists, each as often, and no others; in any order.
pub record IsUnionOf (n p : ℕ) (lists : Point → List ℕ) (triangles : List ℕ) : Type 0 where
  pub fine : (x : ℕ) → Contains triangles x → IsAddress (n + p) x × (2 * p < level_of x)
  pub counts : (t : Point) (a : ℕ) → IsTile (2 ^ p) (2 ^ p) t → IsAddress n a → 4 ≤ a →
      count_by (λ x. nat_eq x (in_tile p t a)) triangles ≡ count_by (λ x. nat_eq x a) (lists t)
