-- Mirror images of triangles in their square, and so mates across the sides of tiles: the mate of a triangle with its
-- base on a side is its mirror image in the tile beyond.
-- This project's own form. Words: mirror_quarter, mirror_at, mirrored, turned_over, IsBeyond.
use Rattle.std.specs.Prelude.{◌≡◌, ◌⊎◌, ℕ, zero, suc, ◌+◌, ◌-◌, ◌*◌, ◌/◌, ◌%◌, ◌^◌}
use Rattle.mesh_defs.specs.declared.point.Point.{Point}
use Rattle.mesh_defs.specs.declared.point.Corners.{Corners}
use Rattle.mesh_defs.specs.Triangle.{level_of, corners_of}

-- The quarter of the mirror image, left and right exchanged at 0, else up and down; quarters are numbered from the
-- lower one clockwise.
abbrev pub mirror_quarter : ℕ → ℕ → ℕ
mirror_quarter zero zero = 0
mirror_quarter zero (suc zero) = 3
mirror_quarter zero (suc (suc zero)) = 2
mirror_quarter zero (suc (suc (suc _))) = 1
mirror_quarter (suc _) zero = 2
mirror_quarter (suc _) (suc zero) = 1
mirror_quarter (suc _) (suc (suc zero)) = 0
mirror_quarter (suc _) (suc (suc (suc _))) = 3

-- the mirror image of a, so many levels below its quarter: left children become right ones
abbrev pub mirror_at : ℕ → ℕ → ℕ → ℕ
mirror_at zero which a = 4 + mirror_quarter which (a % 4)
mirror_at (suc levels) which a = 2 * mirror_at levels which (a / 2) + (1 - a % 2)

-- The mirror image of triangle a, 4 or more: left and right exchanged at 0, else up and down.
unfoldable pub mirrored : ℕ → ℕ → ℕ
mirrored which a = mirror_at (level_of a - 1) which a

-- the mirror image of a point in the square of side m
abbrev pub reflected : ℕ → ℕ → Point → Point
reflected zero m p = record { x = m - p.x; y = p.y }
reflected (suc _) m p = record { x = p.x; y = m - p.y }

-- and of a triangle, whose corners stay counterclockwise
abbrev pub turned_over : ℕ → ℕ → Corners → Corners
turned_over which m c =
    record { apex = reflected which m c.apex; v0 = reflected which m c.v1; v1 = reflected which m c.v0 }

-- Triangle a of tile t has its base on the left, right, lower or upper side, u is the tile beyond, and c the mirror
-- image.
abbrev pub IsBeyond : ℕ → Point → Point → ℕ → ℕ → Type 0
IsBeyond n t u a c =
    (((corners_of n a).v0.x ≡ 0) × ((corners_of n a).v1.x ≡ 0) × (t.x ≡ u.x + 1) × (t.y ≡ u.y) × (c ≡ mirrored 0 a))
    ⊎ ((((corners_of n a).v0.x ≡ 2 ^ n) × ((corners_of n a).v1.x ≡ 2 ^ n) × (u.x ≡ t.x + 1) × (t.y ≡ u.y)
    × (c ≡ mirrored 0 a))
    ⊎ ((((corners_of n a).v0.y ≡ 0) × ((corners_of n a).v1.y ≡ 0) × (t.x ≡ u.x) × (t.y ≡ u.y + 1) × (c ≡ mirrored 1 a))
    ⊎ (((corners_of n a).v0.y ≡ 2 ^ n) × ((corners_of n a).v1.y ≡ 2 ^ n) × (t.x ≡ u.x) × (u.y ≡ t.y + 1)
    × (c ≡ mirrored 1 a))))
