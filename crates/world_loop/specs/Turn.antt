-- Planes that are put in force in the place of others, and the triangles whose priorities that may change.
-- All of it is this project's own.
-- Words: is_turned.
use Rattle.std.specs.Prelude.{ℕ, Bool, List}
use Rattle.mesh_defs.specs.View.{ViewPlane}
use Rattle.page_priority.specs.Loaded.{LoadedState, is_open, loaded_box}
use Rattle.view_mesh.specs.Turn.{turns}

-- the triangle is open, and Outside under the planes in force or under these ones, and not under both
abbrev pub is_turned : LoadedState → List ViewPlane → ℕ → Bool
is_turned s planes = turns (is_open s) (loaded_box s) s.view.planes planes
