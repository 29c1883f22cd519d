-- The thickness and the box of a triangle over what is known of a terrain. A height is a function of the point here;
-- a page has it at its points.
-- Source: the nested bounds of Duchaineau et al., "ROAMing Terrain", IEEE Visualization 1997, the part on nested
-- bounds; that they end at triangles that are not known is this project's own.
-- Words: bend, corner_wedge, joined_wedge, known_wedge, known_box, known_priority, AreSamples, IsAtOrUnder,
-- AreLoadedHeights, IsHalfOff.
use Rattle.std.specs.Prelude.{◌≡◌, ◌⊎◌, ℕ, zero, suc, ◌+◌, ◌-◌, ◌*◌, ◌^◌, ◌≤◌, Bool, true, false, IsTrue, min, max, pos}
use Rattle.std.specs.Prelude.{List}
use Rattle.mesh_defs.specs.declared.point.Point.{Point}
use Rattle.mesh_defs.specs.declared.point.Corners.{Corners}
use Rattle.mesh_defs.specs.Triangle.{level_of, corners_of, midpoint}
use Rattle.mesh_defs.specs.Thickness.{height_of, apart}
use Rattle.mesh_defs.specs.BoundingBox.{BoundingBox, least_of_3, greatest_of_3, distance_of, holds_point}
use Rattle.mesh_defs.specs.View.{View, mark_of}
use Rattle.mesh_defs.specs.Priority.{above, seen_ratio}
use Rattle.bintree_laws.specs.Corners.{IsInSquare}
use Rattle.mesh_laws.specs.Ancestors.{is_above}
use Rattle.page_laws.specs.declared.wedge.KnownWedge.{KnownWedge}
use Rattle.fit_laws.specs.PlaneHeight.{off_plane}
use Rattle.page_laws.specs.Pages.{Pages, is_known, page_point, IsLoadedPoint}

-- how far the surface is from the middle of a triangle's base, in half units of height
abbrev pub bend : (Point → ℕ) → Corners → ℕ
bend height c = apart (2 * height (midpoint c.v0 c.v1)) (height c.v0 + height c.v1)

-- of a triangle by its corners alone
abbrev pub corner_wedge : (Point → ℕ) → Corners → KnownWedge
corner_wedge height c = record {
  thickness = 0;
  low = least_of_3 (height c.apex) (height c.v0) (height c.v1);
  high = greatest_of_3 (height c.apex) (height c.v0) (height c.v1);
}

-- of a triangle by its centre and its children
abbrev pub joined_wedge : (Point → ℕ) → Corners → KnownWedge → KnownWedge → KnownWedge
joined_wedge height c left right = record {
  thickness = max left.thickness right.thickness + bend height c;
  low = min left.low right.low;
  high = max left.high right.high;
}

abbrev pub known_wedge_under : ℕ → ℕ → (Point → ℕ) → (ℕ → Bool) → ℕ → KnownWedge
known_wedge_under zero n height known a = corner_wedge height (corners_of n a)
known_wedge_under (suc levels) n height known a = elim (known a) as (λ _. KnownWedge) [
  | true ↦ joined_wedge height (corners_of n a) (known_wedge_under levels n height known (2 * a))
      (known_wedge_under levels n height known (2 * a + 1))
  | false ↦ corner_wedge height (corners_of n a)
]

-- The wedge of triangle a over what is known: by its centre and its children where it is known, else by its corners.
unfoldable pub known_wedge : ℕ → (Point → ℕ) → (ℕ → Bool) → ℕ → KnownWedge
known_wedge n height known a = known_wedge_under (2 * n - level_of a) n height known a

-- The box of triangle a over what is known: its bounding rectangle times the spacing, and the wedge's heights.
unfoldable pub known_box : ℕ → (Point → ℕ) → (ℕ → Bool) → ℕ → ℕ → BoundingBox
known_box n height known spacing a =
    let c : Corners = corners_of n a in
    record {
      x0 = pos (spacing * least_of_3 c.apex.x c.v0.x c.v1.x);
      x1 = pos (spacing * greatest_of_3 c.apex.x c.v0.x c.v1.x);
      y0 = pos (spacing * least_of_3 c.apex.y c.v0.y c.v1.y);
      y1 = pos (spacing * greatest_of_3 c.apex.y c.v0.y c.v1.y);
      z0 = pos (known_wedge n height known a).low;
      z1 = pos (known_wedge n height known a).high;
    }

-- The priority of triangle a in this view, over what is known.
unfoldable pub known_priority : ℕ → (Point → ℕ) → (ℕ → Bool) → View → ℕ → ℕ
known_priority n height known view a =
    let box : BoundingBox = known_box n height known view.spacing a in
    above view.threshold
    (seen_ratio (mark_of view.planes box) (known_wedge n height known a).thickness (distance_of box view.camera))

-- a page's heights are those of its points
abbrev pub AreSamples : ℕ → ℕ → Point → (Point → ℕ) → List ℕ → Type 0
AreSamples n q t height heights =
    (r : Point) → IsInSquare (2 ^ n) r → height_of n heights r ≡ height (page_point n q t r)

-- b is a, or lies below it
abbrev pub IsAtOrUnder : ℕ → ℕ → Type 0
IsAtOrUnder a b = (b ≡ a) ⊎ IsTrue (is_above a b)

-- the heights of the whole terrain are these where a page is loaded
abbrev pub AreLoadedHeights : Pages → (Point → ℕ) → List ℕ → Type 0
AreLoadedHeights w height heights = (p : Point) → IsLoadedPoint w p → height_of w.large heights p ≡ height p

-- the triangle holds r, and the surface is off its plane there by at most half its thickness over what is known
abbrev pub IsHalfOff : Pages → (Point → ℕ) → List ℕ → ℕ → Point → Type 0
IsHalfOff w height heights a r = IsTrue (holds_point w.large a r)
    × (2 * off_plane w.large heights a r ≤ 2 ^ w.large * (known_wedge w.large height (is_known w) a).thickness)
