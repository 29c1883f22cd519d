-- Planes that are put in force in the place of others, and the triangles whose priorities that may change.
-- All of it is this project's own.
-- Words: with_planes, mark_under, is_turned.
use Rattle.std.specs.Prelude.{ℕ, Bool, List}
use Rattle.mesh_defs.specs.declared.mark.Mark.{Mark}
use Rattle.mesh_defs.specs.View.{ViewPlane}
use Rattle.mesh_defs.specs.MeshText.{triangle_mark}
use Rattle.mesh_defs.specs.State.{SceneState, State}
use Rattle.view_mesh.specs.Turn.{is_turn}

-- these planes are in force, and no others
abbrev pub with_planes : List ViewPlane → State → State
with_planes planes state = record state { view = record state.view { planes = planes } }

-- the mark of a triangle under these planes
abbrev pub mark_under : SceneState → List ViewPlane → ℕ → Mark
mark_under o planes a = triangle_mark o.grid.n o.grid.heights o.view.spacing planes a

-- the triangle is Outside under the planes in force or under these ones, and not under both
abbrev pub is_turned : SceneState → List ViewPlane → ℕ → Bool
is_turned o planes a = is_turn (mark_under o o.view.planes a) (mark_under o planes a)
