-- Border points by their places in the heights of a grid, in file order. This project's own form.
-- Words: IsBorderTriangle, centre_place, IsBorderPlace, IsSaidBy.
use Rattle.std.specs.Prelude.{◌≡◌, ◌⊎◌, ℕ, ◌*◌, ◌<◌, IsTrue, List, length, slice_index}
use Rattle.mesh_defs.specs.HeightField.{place_of}
use Rattle.mesh_defs.specs.Triangle.{IsSplittable, HasBorderBase}
use Rattle.mesh_laws.specs.Ancestors.{is_above}
use Rattle.mesh_laws.specs.Vertex.{centre_of}
use Rattle.mosaic_rounds.specs.BorderPoints.{IsKept}

-- a may be split, and has its base on the border
pub record IsBorderTriangle (n a : ℕ) : Type 0 where
  pub splittable : IsSplittable n a
  pub border : HasBorderBase n a

-- the place of a triangle's centre
abbrev pub centre_place : ℕ → ℕ → ℕ
centre_place n a = place_of n (centre_of n a).x (centre_of n a).y

-- the place is that of a point on the border that is no corner of the square
abbrev pub IsBorderPlace : ℕ → ℕ → Type 0
IsBorderPlace n place = (a : ℕ) × IsBorderTriangle n a × (centre_place n a ≡ place)

-- A mesh with these border points, and the centre, has split a: a is 2, or a triangle that has one of the points as its
-- centre, or one above such a triangle.
abbrev pub IsSaidBy : ℕ → List ℕ → ℕ → Type 0
IsSaidBy n border a =
    IsKept n a
    × ((a ≡ 2)
    ⊎ ((k : ℕ) × (c : ℕ) × (k < length border) × IsBorderTriangle n c × (centre_place n c ≡ slice_index border k)
    × IsTrue (is_above a (2 * c))))
