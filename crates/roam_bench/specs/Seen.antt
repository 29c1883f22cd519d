-- What a gauge over made heights tells, and its readings.
-- Words: priorities_from, far_from, readings_from.
use Rattle.std.specs.Prelude.{ℕ, ◌+◌, ◌-◌, ◌/◌, List, []}
use Rattle.mesh_defs.specs.BoundingBox.{CameraAt, box_of, distance_of}
use Rattle.mesh_defs.specs.Thickness.{thickness_of}
use Rattle.mesh_defs.specs.Priority.{ratio_of, priority_of}
use Rattle.mesh_laws.specs.Stamps.{Readings}
use Rattle.deferred_loop.specs.Choice.{Priorities}
use Rattle.view_priority.specs.Camera.{view_from}

-- the priorities from a camera, where a grid step has 30 world units, and there are no planes
abbrev pub priorities_from : ℕ → List ℕ → CameraAt → Priorities
priorities_from n heights camera = record { n = n; of = priority_of n heights (view_from camera 30 []) }

-- how far a triangle is from the camera
abbrev pub far_from : ℕ → List ℕ → CameraAt → ℕ → ℕ
far_from n heights camera a = distance_of (box_of n heights 30 a) camera

-- the priorities at the distance less an eighth of it, and at the distance with an eighth of it
abbrev pub readings_from : ℕ → List ℕ → CameraAt → Readings
readings_from n heights camera = record {
  slack = λ a. far_from n heights camera a / 8;
  upper = λ a. ratio_of (thickness_of n heights a) (far_from n heights camera a - far_from n heights camera a / 8);
  lower = λ a. ratio_of (thickness_of n heights a) (far_from n heights camera a + far_from n heights camera a / 8);
}
