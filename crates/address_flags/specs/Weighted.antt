-- Where in a triangle a point lies, by how much of it lies at each corner (barycentric coordinates, in whole parts).
-- This project's own form. Words: IsCentred, IsWeighted.
use Rattle.std.specs.Prelude.{◌≡◌, ℕ, ◌+◌, ◌*◌, ◌<◌}
use Rattle.mesh_defs.specs.declared.point.Point.{Point}
use Rattle.mesh_defs.specs.Triangle.{IsAddress, corners_of}
use Rattle.address_flags.specs.declared.place.Place.{Place}

-- nothing of the point lies at the apex, and as much at the one end of the base as at the other
abbrev pub IsCentred : Place → Type 0
IsCentred place = (place.weights.apex ≡ 0) × (place.weights.v0 ≡ place.weights.v1)

-- r is the mean of the corners of a triangle of the grid, by weights of this total, and no corner has all of it
pub record IsWeighted (n total : ℕ) (r : Point) (place : Place) : Type 0 where
  pub address : IsAddress n place.triangle
  pub sum : place.weights.apex + place.weights.v0 + place.weights.v1 ≡ total
  pub x : total * r.x ≡ place.weights.apex * (corners_of n place.triangle).apex.x
      + place.weights.v0 * (corners_of n place.triangle).v0.x + place.weights.v1 * (corners_of n place.triangle).v1.x
  pub y : total * r.y ≡ place.weights.apex * (corners_of n place.triangle).apex.y
      + place.weights.v0 * (corners_of n place.triangle).v0.y + place.weights.v1 * (corners_of n place.triangle).v1.y
  pub off_apex : place.weights.apex < total
  pub off_v0 : place.weights.v0 < total
  pub off_v1 : place.weights.v1 < total
