-- The thickness of a triangle: its deviation and those of its descendants, added up along the worst way
-- down, in half units of height.
-- Source: the nested wedgies of Duchaineau et al., "ROAMing Terrain", IEEE Visualization 1997, the part on nested
-- bounds; counted here in half units of height, so that it is a whole number.
use Rattle.std.specs.Prelude.{ℕ, zero, suc, ◌+◌, ◌-◌, ◌*◌, max, List}
use Rattle.mesh_defs.specs.declared.point.Point.{Point}
use Rattle.mesh_defs.specs.declared.point.Corners.{Corners}
use Rattle.mesh_defs.specs.HeightField.{height_at}
use Rattle.mesh_defs.specs.Triangle.{level_of, corners_of, midpoint}

-- the height at a point
abbrev pub height_of : ℕ → List ℕ → Point → ℕ
height_of n heights p = height_at n heights p.x p.y

-- how far two numbers are apart
abbrev pub apart : ℕ → ℕ → ℕ
apart i j = (i - j) + (j - i)

-- how far the surface at the base's midpoint is from the middle of the base, in half units of height
abbrev pub deviation : ℕ → List ℕ → Corners → ℕ
deviation n heights c =
    apart (2 * height_of n heights (midpoint c.v0 c.v1)) (height_of n heights c.v0 + height_of n heights c.v1)

-- the thickness of a triangle with this many levels below it
abbrev pub thickness_under : ℕ → ℕ → List ℕ → ℕ → ℕ
thickness_under zero n heights a = 0
thickness_under (suc levels) n heights a =
    max (thickness_under levels n heights (2 * a)) (thickness_under levels n heights (2 * a + 1))
    + deviation n heights (corners_of n a)

-- The thickness of triangle a: 0 for a finest one, else its own deviation and the thicker child's thickness.
unfoldable pub thickness_of : ℕ → List ℕ → ℕ → ℕ
thickness_of n heights a = thickness_under (2 * n - level_of a) n heights a
