-- What an engine's first frame has for a certificate; how `certify make` and `certify check` end.
use Rattle.std.proofs.Common.{◌≡◌, ℕ, ◌<◌, ◌≤◌, List, length, Result, Ok, Err, IfOk, refl, sym, ◌∙◌, ap, subst}
use Rattle.mesh_defs.specs.HeightField.{HeightField}
use Rattle.mesh_defs.specs.ClosedSet.{leaves_of, among}
use Rattle.mesh_defs.specs.Priority.{worst_of}
use Rattle.mesh_defs.specs.Falling.{IsFalling}
use Rattle.mesh_defs.specs.BestMesh.{IsBestMesh}
use Rattle.mesh_defs.specs.State.{State, start_state, with_camera, priority_in}
use Rattle.mesh_laws.specs.Frame.{IsFrame}
use Rattle.mesh_laws.proofs.FrameLemmas.{IsBestMesh-frame}
use Rattle.roam_mesh.specs.Mesh.{pool_members}
use Rattle.frame_loop.specs.Engine.{EngineState, IsFrameDone, mesh_seen}
use Rattle.frame_loop.specs.declared.note.FrameNote.{FrameNote}
use Rattle.cert_text.specs.Certificate.{Certificate}
use Rattle.run_words.specs.Words.{Making}
use Rattle.certificate_laws.specs.Certificate.{IsSound}
use Rattle.run_laws.specs.Certify.{IsMade, makes_at}

module _ (state : State) (before after : EngineState) (note : FrameNote) (leaves : List ℕ) (same : before.state ≡ state)
    (done : IsFrameDone before after note)
    (listed : leaves ≡ leaves_of after.state.grid.n (among (pool_members after.mesh.pool))) where
  -- the leaves of a frame are those of its set
  leaves-frame : leaves ≡ leaves_of state.grid.n (among (pool_members after.mesh.pool))
  leaves-frame =
      listed ∙ ap (λ (s : State). leaves_of s.grid.n (among (pool_members after.mesh.pool))) (done.state ∙ same)

  -- which is the frame of the state
  set-frame : IsFrame state.grid.n state.budget (priority_in state)
      (among (pool_members after.mesh.pool)) note.worst note.blocked
  set-frame = subst (λ (s : State). IsFrame s.grid.n s.budget (priority_in s)
      (among (pool_members after.mesh.pool)) note.worst note.blocked) same done.frame

  -- so the note has their worst
  worst-frame : note.worst ≡ worst_of (priority_in state) leaves
  worst-frame = set-frame.greatest ∙ ap (worst_of (priority_in state)) (sym leaves-frame)

  -- and they are the best mesh of the budget
  best-frame : IsFalling state.grid.n (priority_in state) → 2 ≤ state.budget →
      IsBestMesh state.grid.n state.budget (priority_in state) leaves
  best-frame falling low = subst (λ l. IsBestMesh state.grid.n state.budget (priority_in state) l) (sym leaves-frame)
      (IsBestMesh-frame state.grid.n state.budget (priority_in state)
      (among (pool_members after.mesh.pool)) note.worst note.blocked set-frame falling low)

-- so they are where the camera of a command was set before the first frame, and the grid is as it was
module _ (m : Making) (start before after : EngineState) (note : FrameNote)
    (begun : start.state ≡ start_state start.state.grid m.spacing m.budget)
    (moved : before.state ≡ with_camera m.camera start.state) (done : IsFrameDone before after note) where
  same-state : before.state ≡ makes_at m start.state.grid
  same-state = moved ∙ ap (with_camera m.camera) begun

  pub same-grid : after.state.grid ≡ start.state.grid
  same-grid = ap (λ (s : State). s.grid) (done.state ∙ same-state)

  pub made-worst : note.worst ≡ worst_of (priority_in (makes_at m after.state.grid)) (mesh_seen after)
  made-worst =
      subst (λ (w : HeightField). note.worst ≡ worst_of (priority_in (makes_at m w)) (mesh_seen after)) (sym same-grid)
      (worst-frame (makes_at m start.state.grid) before after note (mesh_seen after) same-state done refl)

  pub made-best : IsFalling start.state.grid.n (priority_in (makes_at m start.state.grid)) → 2 ≤ m.budget →
      IsBestMesh after.state.grid.n m.budget (priority_in (makes_at m after.state.grid)) (mesh_seen after)
  made-best falling low =
      subst (λ (w : HeightField). IsBestMesh w.n m.budget (priority_in (makes_at m w)) (mesh_seen after))
      (sym same-grid)
      (best-frame (makes_at m start.state.grid) before after note (mesh_seen after) same-state done refl falling low)

-- a certificate of the best mesh's leaves may be made
pub made-of : {E : Type 0} (m : Making) (grid : HeightField) (leaves : List ℕ) (r : Result Certificate E)
    → IsBestMesh grid.n m.budget (priority_in (makes_at m grid)) leaves → IfOk r (λ cert. cert.camera ≡ m.camera) →
    IfOk r (λ cert. cert.leaves ≡ leaves)
    → IfOk r (λ cert. IsSound grid.n m.budget (priority_in (makes_at m grid)) cert.leaves cert.reasons) →
    IfOk r (λ cert. length cert.reasons < m.budget)
    → IfOk r (λ cert. IsMade m grid cert)
made-of m grid leaves (Ok cert) best place same sound few = record {
  camera = place;
  best = subst (λ l. IsBestMesh grid.n m.budget (priority_in (makes_at m grid)) l) (sym same) best;
  sound = sound;
  few = few;
}
made-of m grid leaves (Err e) best place same sound few = tt
