-- The certificate of an engine's heights at a camera: of the best mesh of the budget in force, without planes and at
-- threshold 0. It is that of `roam certify make` for the same grid, camera, budget and spacing. This project's own.
-- Words: unplaned_at, IsCertificateAt, IsCertificateTold.
use Rattle.std.specs.Prelude.{◌≡◌, ◌≢◌, ℕ, ◌+◌, ◌*◌, ◌<◌, ◌≤◌, ◌↔◌, ◌⊎◌, List, ◌++◌, length, drop}
use Rattle.mesh_defs.specs.BoundingBox.{CameraAt}
use Rattle.mesh_defs.specs.BestMesh.{IsBestMesh}
use Rattle.mesh_defs.specs.State.{State, with_camera, with_threshold, without_planes, priority_in}
use Rattle.view_priority.specs.Camera.{IsCamera}
use Rattle.certificate_laws.specs.Certificate.{IsSound}
use Rattle.cert_text.specs.Certificate.{Certificate}
use Rattle.cert_text.specs.CertText.{cert_text}
use Rattle.roam_embed.specs.declared.answer.Answer.{Answer}
use Rattle.roam_embed.specs.declared.answer.Answer.TheVariants.{Done, NoMemory, BadCamera, NoRoom}

-- the state without planes and at threshold 0, seen from a place
abbrev pub unplaned_at : CameraAt → State → State
unplaned_at place state = with_camera place (with_threshold 0 (without_planes state))

-- a sound certificate of the best mesh there, depth first
pub record IsCertificateAt (state : State) (place : CameraAt) (cert : Certificate) : Type 0 where
  pub camera : cert.camera ≡ place
  pub best : IsBestMesh state.grid.n state.budget (priority_in (unplaned_at place state)) cert.leaves
  pub sound : IsSound state.grid.n state.budget (priority_in (unplaned_at place state)) cert.leaves cert.reasons
  pub few : length cert.reasons < state.budget

-- the text is that of a certificate
abbrev pub IsCertificateText : State → CameraAt → List ℕ → Type 0
IsCertificateText state place text = (cert : Certificate) × IsCertificateAt state place cert × (text ≡ cert_text cert)

-- Its text stands in the first places of an array of bytes, and its length is told. The camera's line has 43 bytes at most,
-- that of a leaf 16 and that of a reason 17, so 48 and 33 for each triangle of the budget are room enough.
pub record IsCertificateTold (state : State) (place : CameraAt) (array_before array : List ℕ) (count_before count : ℕ)
    (answer : Answer) : Type 0 where
  pub bad_camera : (answer ≡ BadCamera) ↔ (IsCamera place → ⊥)
  pub others : ((answer ≡ Done) ⊎ ((answer ≡ NoRoom) ⊎ (answer ≡ NoMemory))) ↔ IsCamera place
  pub no_room : answer ≡ NoRoom →
      (text : List ℕ) × IsCertificateText state place text × (length array_before < length text)
  pub written : answer ≡ Done →
      (text : List ℕ) × IsCertificateText state place text × (length text ≤ length array_before)
      × (count ≡ length text) × (array ≡ text ++ drop (length text) array_before)
  pub room : 48 + 33 * state.budget ≤ length array_before → answer ≢ NoRoom
  pub unwritten : (answer ≡ Done → ⊥) → array ≡ array_before
  pub uncounted : (answer ≡ Done → ⊥) → count ≡ count_before
