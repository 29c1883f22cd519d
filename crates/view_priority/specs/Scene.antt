-- Distances in a scene, and a scene from another place, within other planes or with another threshold.
-- Words: distance_seen, seen_from, seen_within, seen_above.
use Rattle.std.specs.Prelude.{ℕ, List}
use Rattle.mesh_defs.specs.BoundingBox.{CameraAt, box_of, distance_of}
use Rattle.mesh_defs.specs.View.{ViewPlane}
use Rattle.mesh_defs.specs.State.{SceneState}

-- how far the camera is from the box of a triangle
abbrev pub distance_seen : SceneState → ℕ → ℕ
distance_seen s a = distance_of (box_of s.grid.n s.grid.heights s.view.spacing a) s.view.camera

-- the scene from another place
abbrev pub seen_from : CameraAt → SceneState → SceneState
seen_from to s = record s { view = record s.view { camera = to } }

-- the scene with these planes in force, and no others
abbrev pub seen_within : List ViewPlane → SceneState → SceneState
seen_within planes s = record s { view = record s.view { planes = planes } }

-- the scene with this threshold in force
abbrev pub seen_above : ℕ → SceneState → SceneState
seen_above t s = record s { view = record s.view { threshold = t } }
