-- A mesh of triangles of any shape within an error of a height field. This project's own.
-- Words: TinMesh, IsCounted, heights_at, IsMeasured, ArePlaces, IsTin.
use Rattle.std.specs.Prelude.{◌≡◌, ℕ, ◌*◌, ◌/◌, ◌^◌, ◌<◌, ◌≤◌, List, length, map, slice_index}
use Rattle.mesh_defs.specs.declared.point.Point.{Point}
use Rattle.mesh_defs.specs.HeightField.{HeightField, height_at, place_of}
use Rattle.mesh_cover.specs.Mesh.{IsTiling}
use Rattle.mesh_cover.specs.Conforming.{corner_in, IsConforming}
use Rattle.mesh_within.specs.declared.deviation.Deviation.{Deviation}
use Rattle.mesh_within.specs.Deviation.{IsDeviation, IsWithinError}

-- vertices by their grid points; triangles by the vertices of their corners, three after three, and by the places of these in
-- the heights; and how far the surface is from the mesh
pub record TinMesh : Type 0 where
  pub points : List Point
  pub corners : List ℕ
  pub places : List ℕ
  pub deviation : Deviation

-- there are at most 2 ^ 24 triangles, and no more vertices than corners
pub record IsCounted (vertices : List Point) (edges : List ℕ) : Type 0 where
  pub corners : length edges ≤ 50331648
  pub points : length vertices ≤ length edges

-- the heights of grid points
abbrev pub heights_at : HeightField → List Point → List ℕ
heights_at grid points = map (λ (p : Point). height_at grid.n grid.heights p.x p.y) points

-- triangles with these partners are conforming and tile the square, and how far the surface is from them is known
pub record IsMeasured (grid : HeightField) (points : List Point) (heights corners across : List ℕ) (d : Deviation) : Type 0 where
  pub conforming : IsConforming (2 ^ grid.n) (2 ^ grid.n) points heights corners across
  pub tiles : IsTiling (2 ^ grid.n) (2 ^ grid.n) (length corners / 3) (corner_in points corners)
  pub deviation : IsDeviation (2 ^ grid.n) (2 ^ grid.n) grid.heights points heights corners d

-- the places of the corners in the heights
pub record ArePlaces (n : ℕ) (points : List Point) (corners places : List ℕ) : Type 0 where
  pub count : length places ≡ length corners
  pub place : (h : ℕ) → h < length corners →
      slice_index places h ≡ place_of n (corner_in points corners h).x (corner_in points corners h).y

-- The mesh is conforming and tiles the square; its vertices are grid points with the heights of these; it has at most so
-- many triangles; no grid point is farther from a triangle that holds it than the error, and the greatest distance is told.
pub record IsTin (grid : HeightField) (thousandths most : ℕ) (mesh : TinMesh) : Type 0 where
  pub across : List ℕ
  pub measured :
      IsMeasured grid mesh.points (heights_at grid mesh.points) mesh.corners across mesh.deviation
  pub threes : length mesh.corners ≡ length mesh.corners / 3 * 3
  pub placed : ArePlaces grid.n mesh.points mesh.corners mesh.places
  pub few : length mesh.corners / 3 ≤ most
  pub within : IsWithinError (2 ^ grid.n) (2 ^ grid.n) grid.heights mesh.points (heights_at grid mesh.points)
      mesh.corners thousandths
