-- The mesh view that is meant by what lines are made of. This project's own words.
-- Words: planes_in, planes_place, wedges_place, mesh_seen, AreBoxesOf.
use Rattle.std.specs.Prelude.{◌≡◌, ℕ, List, [], Option, Some, None, IfSome}
use Rattle.mesh_defs.specs.View.{ViewPlane}
use Rattle.mesh_defs.specs.HeightField.{HeightField}
use Rattle.obj_write.specs.declared.mesh.MeshView.{MeshView}
use Rattle.obj_write.specs.declared.line_view.Marking.{Marking}
use Rattle.obj_write.specs.declared.line_view.LineView.{LineView}

-- the planes in force, none where there is no marking
abbrev pub planes_in : Option Marking → List ViewPlane
planes_in None = []
planes_in (Some m) = m.planes.now

-- where they stand in memory, of which no clause speaks
abbrev pub planes_place : Option Marking → ℕ × ℕ
planes_place None = (0, 0)
planes_place (Some m) = m.planes.ref_ptr

-- where the boxes stand in memory
abbrev pub wedges_place : Option Marking → ℕ × ℕ
wedges_place None = (0, 0)
wedges_place (Some m) = m.wedges.ref_ptr

-- the mesh view with these heights, triangles, numbers, spacing and planes
abbrev pub mesh_seen : LineView → MeshView
mesh_seen v = record {
  wedges = record { now = v.grid.now; ref_ptr = wedges_place v.marking };
  leaves = v.leaves;
  numbers = v.numbers;
  spacing = v.spacing;
  planes = record { now = planes_in v.marking; ref_ptr = planes_place v.marking };
}

-- the boxes of the marking are of this height field
abbrev pub AreBoxesOf : HeightField → Option Marking → Type 0
AreBoxesOf field marking = IfSome marking (λ m. m.wedges.now ≡ field)
