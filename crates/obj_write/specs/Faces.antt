-- Triangles with the places of their corners, and the fields of the numbers there. This project's own words.
-- Words: IsCornerAt, IsFace, AreFaces, IsKnown.
use Rattle.std.specs.Prelude.{◌≡◌, ℕ, List, All, slice_index, slice_index_or}
use Rattle.mesh_defs.specs.declared.point.Point.{Point}
use Rattle.mesh_defs.specs.Triangle.{level_of, corners_of, midpoint}
use Rattle.obj_write.specs.declared.faces.Corner.{Corner}
use Rattle.obj_write.specs.declared.faces.Face.{Face}
use Rattle.obj_write.specs.Field.{IsFieldOf}
use Rattle.obj_write.specs.VertexMarks.{grid_place}

-- the place is that of the point, and the field that of the number there
pub record IsCornerAt (n : ℕ) (numbers : List ℕ) (p : Point) (c : Corner) : Type 0 where
  pub place_is : c.place ≡ grid_place n p
  pub field_is : IsFieldOf c.field (slice_index numbers c.place)

-- they are the corners of the triangle, and the midpoint of its base
pub record IsFace (n : ℕ) (numbers : List ℕ) (f : Face) : Type 0 where
  pub apex_is : IsCornerAt n numbers (corners_of n f.tri).apex f.apex
  pub v0_is : IsCornerAt n numbers (corners_of n f.tri).v0 f.v0
  pub v1_is : IsCornerAt n numbers (corners_of n f.tri).v1 f.v1
  pub middle_is : IsCornerAt n numbers (midpoint (corners_of n f.tri).v0 (corners_of n f.tri).v1) f.middle

abbrev pub AreFaces : ℕ → List ℕ → List Face → Type 0
AreFaces n numbers faces = All (IsFace n numbers) faces

-- the face of the triangle stands at the place of its level
abbrev pub IsKnown : List Face → ℕ → Type 0
IsKnown faces t = (d : Face) → (slice_index_or faces (level_of t) d).tri ≡ t
