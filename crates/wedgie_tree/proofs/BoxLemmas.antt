-- The ends of boxes: in order, and by the corners.
use Rattle.std.proofs.Common.{◌≡◌, ℕ, ◌*◌, ◌^◌, ◌<◌, ◌≤◌, List, refl, ◌∙◌, arith}
use Rattle.std.proofs.lemmas.Int.{to_z-of_z, ints}
use lib.IntN.{ℤ, pos}
use lib.Signed.{◌≤ℤ◌, mag}
use mir.Syntax.{w64}
use mir.Val.{to_z, of_z}
use Rattle.mesh_defs.specs.declared.point.Corners.{Corners}
use Rattle.mesh_defs.specs.Triangle.{corners_of}
use Rattle.mesh_defs.specs.BoundingBox.{BoundingBox, box_of, low_of, high_of, least_of_3, greatest_of_3}

-- ---- ends as they are stored

-- a natural number that is stored as a signed one and read again
kept : (z : ℤ) (i : ℕ) → z ≡ pos i → mag z < 2 ^ 63 → to_z w64 (of_z w64 z) ≡ pos i
kept z i e fits = to_z-of_z w64 z (record { sfits = fits }) ∙ e

-- numbers below 2 ^ 63 that are in order stay so when they are stored as signed numbers of 64 bits and read
pub ends-ordered : (y z : ℤ) (i j : ℕ) → y ≡ pos i → z ≡ pos j → mag y < 2 ^ 63 → mag z < 2 ^ 63 → i ≤ j →
    to_z w64 (of_z w64 y) ≤ℤ to_z w64 (of_z w64 z)
ends-ordered y z i j ey ez fits_y fits_z le = rw (kept y i ey fits_y, kept z j ez fits_z) (omega (arith, ints))

-- ---- the box of a triangle

-- the box around these corners and between these heights
abbrev pub box_by : ℕ → Corners → ℕ → ℕ → BoundingBox
box_by spacing c low high = record {
  x0 = pos (spacing * least_of_3 c.apex.x c.v0.x c.v1.x);
  x1 = pos (spacing * greatest_of_3 c.apex.x c.v0.x c.v1.x);
  y0 = pos (spacing * least_of_3 c.apex.y c.v0.y c.v1.y);
  y1 = pos (spacing * greatest_of_3 c.apex.y c.v0.y c.v1.y);
  z0 = pos low;
  z1 = pos high;
}

-- it is that of a triangle if they are those of the triangle
pub box_by-triangle : (n : ℕ) (heights : List ℕ) (spacing a low high : ℕ) (c : Corners) → c ≡ corners_of n a →
    low ≡ low_of n heights a → high ≡ high_of n heights a → box_by spacing c low high ≡ box_of n heights spacing a
unfolding box_of
box_by-triangle n heights spacing a low high c is least greatest = rw (is, least, greatest) refl
