-- A triangle as it lies in space, over a list of heights, and the rectangle around its corners.
-- Words: IsFacet, AreBounds.
use Rattle.std.specs.Prelude.{◌≡◌, ℕ, ◌^◌, ◌≤◌, List}
use Rattle.mesh_defs.specs.declared.point.Corners.{Corners}
use Rattle.mesh_defs.specs.Thickness.{height_of}
use Rattle.mesh_defs.specs.BoundingBox.{least_of_3, greatest_of_3}
use Rattle.mesh_defs.specs.declared.level.TheConstants.{GREATEST_LEVEL}
use Rattle.bintree_laws.specs.Corners.{IsWithin}
use Rattle.fit_laws.specs.PlaneHeight.{area_of}
use Rattle.mesh_measure.specs.declared.shape.Facet.{Facet}
use Rattle.mesh_measure.specs.declared.shape.Bounds.{Bounds}
use Rattle.mesh_measure.specs.Edges.{HasStraightEdges}

-- its corners lie in a grid of at most the largest side, its edges are straight, its heights are those at its corners,
-- and its area is theirs, a power of 2
pub record IsFacet (n : ℕ) (heights : List ℕ) (facet : Facet) : Type 0 where
  pub in_grid : n ≤ GREATEST_LEVEL
  pub within : IsWithin (2 ^ GREATEST_LEVEL) facet.corners
  pub straight : HasStraightEdges facet.corners
  pub apex : facet.apex ≡ height_of n heights facet.corners.apex
  pub v0 : facet.v0 ≡ height_of n heights facet.corners.v0
  pub v1 : facet.v1 ≡ height_of n heights facet.corners.v1
  pub area : facet.area ≡ area_of facet.corners
  pub small : facet.area ≤ 805306368
  pub power : facet.area ≡ 2 ^ facet.log_area
  pub few : facet.log_area ≤ 28

-- the least and greatest coordinates of the corners
pub record AreBounds (c : Corners) (bounds : Bounds) : Type 0 where
  pub left : bounds.left ≡ least_of_3 c.apex.x c.v0.x c.v1.x
  pub right : bounds.right ≡ greatest_of_3 c.apex.x c.v0.x c.v1.x
  pub low : bounds.low ≡ least_of_3 c.apex.y c.v0.y c.v1.y
  pub high : bounds.high ≡ greatest_of_3 c.apex.y c.v0.y c.v1.y
