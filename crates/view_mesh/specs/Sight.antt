-- What a mesh follows: priorities that depend on where a camera is, and what a stamp keeps of them while it moves.
-- Source: Duchaineau et al., "ROAMing Terrain", IEEE Visualization 1997, the part on deferred priority lists; that time
-- is the way of the camera is this project's own.
-- Words: Sight, priority_now, sight_priorities, IsSamePriority, IsBracketed, AreBracketed, IsSound, IsFollowed.
use Rattle.std.specs.Prelude.{◌≡◌, ℕ, ◌+◌, ◌≤◌, false, Some}
use Rattle.mesh_defs.specs.Triangle.{IsAddress}
use Rattle.mesh_defs.specs.BoundingBox.{CameraAt}
use Rattle.mesh_defs.specs.Falling.{IsFalling}
use Rattle.mesh_defs.specs.State.{move_length}
use Rattle.mesh_laws.specs.Stamps.{Stamp, Readings, IsInStamp}
use Rattle.deferred_loop.specs.Choice.{Priorities}
use Rattle.roam_mesh.specs.Mesh.{MeshState, stamp_of}

-- The grid's n: its side is 2 ^ n. Where the camera is, the priority of each triangle from each place, and what a stamp
-- of each triangle would hold if it were taken now.
pub record Sight : Type 0 where
  pub n : ℕ
  pub camera : CameraAt
  pub from : CameraAt → ℕ → ℕ
  pub readings : Readings

-- the priority of a triangle from where the camera is
abbrev pub priority_now : Sight → ℕ → ℕ
priority_now s = s.from s.camera

-- what a gauge tells of it
abbrev pub sight_priorities : Sight → Priorities
sight_priorities s = record { n = s.n; of = priority_now s }

-- the triangle has the same priority in both from every place
abbrev pub IsSamePriority : Sight → Sight → ℕ → Type 0
IsSamePriority before after a = (to : CameraAt) → after.from to a ≡ before.from to a

-- the stamp has the priority of a between its bounds at every place that is reached within what is left of its slack
abbrev pub IsBracketed : Sight → ℕ → ℕ → Stamp → Type 0
IsBracketed s odometer a stamp =
    (to : CameraAt) → odometer + move_length s.camera to ≤ stamp.odometer + stamp.slack →
    IsInStamp stamp (s.from to a)

-- each stamp that is not expired does so
abbrev pub AreBracketed : Sight → ℕ → MeshState → Type 0
AreBracketed s odometer mesh =
    (a : ℕ) (stamp : Stamp) → stamp_of mesh a ≡ Some stamp → stamp.expired ≡ false → IsBracketed s odometer a stamp

-- What a frame asks: priorities do not rise from a triangle to its children, and each reading has the priority between
-- its bounds from every place within its slack.
pub record IsSound (s : Sight) : Type 0 where
  pub falls : IsFalling s.n (priority_now s)
  pub low : (a : ℕ) → IsAddress s.n a → (to : CameraAt) → move_length s.camera to ≤ s.readings.slack a →
      s.readings.lower a ≤ s.from to a
  pub high : (a : ℕ) → IsAddress s.n a → (to : CameraAt) → move_length s.camera to ≤ s.readings.slack a →
      s.from to a ≤ s.readings.upper a

-- What a frame finds: the mesh has followed the sight so far, and what is told now of priorities and readings is what the
-- sight has where the camera is.
pub record IsFollowed (s : Sight) (given : Priorities) (read : Readings) (odometer : ℕ)
    (mesh : MeshState) : Type 0 where
  pub priorities : given ≡ sight_priorities s
  pub readings : read ≡ s.readings
  pub sound : IsSound s
  pub n : mesh.pool.n ≡ s.n
  pub kept : AreBracketed s odometer mesh
