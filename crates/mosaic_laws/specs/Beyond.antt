-- Sets for the tiles beyond a rectangle of tiles, up to the whole square: each tile beyond is a mirror image of the
-- tile of the rectangle that is nearest, or of its mirror image, by turns; so at each side mates across are there.
-- This project's own form.
-- Words: mirrored_if, nearest_in, is_odd_beyond, nearest, image, extended.
use Rattle.std.specs.Prelude.{ℕ, zero, suc, ◌+◌, ◌-◌, ◌%◌, min, Bool, ◌&&◌, ◌||◌, nat_le, nat_lt}
use Rattle.mesh_defs.specs.declared.point.Point.{Point}
use Rattle.mosaic_laws.specs.Mirror.{mirrored}

-- a itself at 0, else its mirror image
abbrev pub mirrored_if : ℕ → ℕ → ℕ → ℕ
mirrored_if zero which a = a
mirrored_if (suc _) which a = mirrored which a

-- the nearest of so many columns, or rows
abbrev pub nearest_in : ℕ → ℕ → ℕ
nearest_in count i = min i (count - 1)

-- 1 in the first, the third .. column beyond, else 0
abbrev pub is_odd_beyond : ℕ → ℕ → ℕ
is_odd_beyond count i = (i + 1 - count) % 2

-- the nearest tile of the rectangle
abbrev pub nearest : ℕ → ℕ → Point → Point
nearest columns rows t = record { x = nearest_in columns t.x; y = nearest_in rows t.y }

-- the triangle of that tile that triangle a of tile t is an image of
abbrev pub image : ℕ → ℕ → Point → ℕ → ℕ
image columns rows t a = mirrored_if (is_odd_beyond rows t.y) 1 (mirrored_if (is_odd_beyond columns t.x) 0 a)

-- the sets of the tiles of a rectangle, and beyond it their images
abbrev pub extended : ℕ → ℕ → (Point → ℕ → Bool) → Point → ℕ → Bool
extended columns rows sets t a =
    nat_le 2 a && (nat_lt a 4 || sets (nearest columns rows t) (image columns rows t a))
