-- The wedges of a page: in its own grid, and over finer pages.
-- This project's own. Words: Page, own_wedge, quarter_in, with_quarter, joined_in, half_in, IsAlone.
use Rattle.std.specs.Prelude.{◌≡◌, ℕ, zero, suc, ◌+◌, ◌^◌, ◌<◌, ◌≤◌, Bool, true}
use Rattle.mesh_defs.specs.HeightField.{HeightField}
use Rattle.mesh_defs.specs.declared.point.Corners.{Corners}
use Rattle.mesh_defs.specs.Thickness.{height_of}
use Rattle.page_laws.specs.Pages.{left_quarter, right_quarter, half_corners}
use Rattle.page_laws.specs.Loaded.{joined_wedge, known_wedge}
use Rattle.page_wedges.specs.declared.join.TheConstants.{THICKEST}
use Rattle.page_laws.specs.declared.wedge.KnownWedge.{KnownWedge}

-- A page: its heights as those of a small grid, whether the rising diagonal cuts its square, and the wedges of its
-- quarters over what is known, which finer pages may change.
pub record Page : Type 0 where
  pub field : HeightField
  pub turned : Bool
  pub lower : KnownWedge
  pub left : KnownWedge
  pub upper : KnownWedge
  pub right : KnownWedge

-- the wedge of triangle a by the heights of this field alone
abbrev pub own_wedge : HeightField → ℕ → KnownWedge
own_wedge g a = known_wedge g.n (height_of g.n g.heights) (λ b. true) a

-- the wedge of a quarter, from the lower one clockwise
abbrev pub quarter_in : Page → ℕ → KnownWedge
quarter_in page zero = page.lower
quarter_in page (suc zero) = page.left
quarter_in page (suc (suc zero)) = page.upper
quarter_in page (suc (suc (suc _))) = page.right

-- the page with another wedge of this quarter
abbrev pub with_quarter : Page → ℕ → KnownWedge → Page
with_quarter page zero wedge = record page { lower = wedge }
with_quarter page (suc zero) wedge = record page { left = wedge }
with_quarter page (suc (suc zero)) wedge = record page { upper = wedge }
with_quarter page (suc (suc (suc _))) wedge = record page { right = wedge }

-- two wedges joined over these corners in the page's grid
abbrev pub joined_in : HeightField → Corners → KnownWedge → KnownWedge → KnownWedge
joined_in g c left right = joined_wedge (height_of g.n g.heights) c left right

-- the wedge of a half, by those of its two quarters
abbrev pub half_in : Page → ℕ → KnownWedge
half_in page which = joined_in page.field (half_corners (2 ^ page.field.n) page.turned which)
    (quarter_in page (left_quarter page.turned which)) (quarter_in page (right_quarter page.turned which))

-- each quarter has the wedge that it has in the page's grid: there is no finer page
abbrev pub IsAlone : Page → Type 0
IsAlone page = (k : ℕ) → k < 4 → quarter_in page k ≡ own_wedge page.field (4 + k)

-- none of the four is thicker than a quarter of the largest terrain
abbrev pub AreThin : KnownWedge → KnownWedge → KnownWedge → KnownWedge → Type 0
AreThin lower left upper right = (lower.thickness ≤ THICKEST + 131070) × (left.thickness ≤ THICKEST + 131070)
    × (upper.thickness ≤ THICKEST + 131070) × (right.thickness ≤ THICKEST + 131070)
