-- The ways in which the frames of an engine are shown: an engine makes them, and nothing but the frames is told.
use Rattle.std.proofs.Common.{◌≡◌, ℕ, ◌+◌, ◌*◌, ◌^◌, ◌≤◌, true, IsTrue, List, [], length, Result, OnOk, OnErr, refl}
use Rattle.std.proofs.Common.{sym, subst, arith}
use Rattle.mesh_defs.specs.State.{State}
use Rattle.mesh_defs.specs.ClosedSet.{leaves_of, among}
use Rattle.mesh_laws.proofs.LeafLemmas.{leaves-most}
use Rattle.roam_mesh.specs.Mesh.{pool_members}
use Rattle.frame_loop.specs.Engine.{EngineState, IsFrameDone, mesh_seen}
use Rattle.frame_loop.specs.declared.note.FrameNote.{FrameNote}
use Rattle.run_laws.specs.Walk.{Walk}
use Rattle.run_words.specs.Words.{Show, is_of_engine}
use Rattle.run_laws.specs.Picture.{Picture, IsPicture, last_members}
use Rattle.run_laws.specs.Act.{Sinks, Stands, IsCutShort}
use Rattle.run_laws.specs.Outcome.{picture_acts}
use Rattle.run_words.specs.declared.showing.Showing.{Showing}
use Rattle.run_words.specs.declared.showing.Showing.TheVariants.{Meshes, Strips, Measures}
use Rattle.run_engine.specs.EngineFrames.{EngineHasFollowed, IsEngineReady}
use Rattle.run_engine.specs.NoteSeen.{picture_seen}
use Rattle.run_words.specs.ShowView.{show_seen}
use Rattle.run_engine.specs.ShowView.{is_strip}
use Rattle.run_laws.specs.Maker.{TakesFrame}
use Rattle.run_engine.proofs.EngineLemmas.{followed-frame, picture-shown}

-- an engine makes the frames
pub of-engine : (showing : Showing) → IsTrue (is_of_engine (show_seen showing))
of-engine (Meshes prefix) = refl
of-engine (Strips prefix) = refl
of-engine Measures = refl

-- the frame that was made has room for its strip
pub frame-room : (showing : Showing) (old new : EngineState) (room : List ℕ) (note : FrameNote) (lines : ℕ) →
    IsEngineReady showing old room lines → IsFrameDone old new note
    → is_strip showing ≡ true → length (mesh_seen new) ≤ length room
frame-room showing old new room note lines is done strip =
    let members : List ℕ = pool_members new.mesh.pool in
    let few : length (leaves_of old.state.grid.n (among members)) ≤ old.state.budget = done.frame.closure.fits in
    let all : length (leaves_of old.state.grid.n (among members)) ≤ 2 * 4 ^ old.state.grid.n =
    leaves-most old.state.grid.n (among members) in
    let enough = is.room strip in
    let force = is.in_force in
    let fits : length (leaves_of old.state.grid.n (among members)) ≤ length room =
    omega (arith, few, all, enough, force) in
    let P : State → Type 0 = λ s. length (leaves_of s.grid.n (among members)) ≤ length room in
    subst P (sym done.state) fits

-- a frame of an engine is shown, or cut short, as the picture of the walk's state
pub engine-takes : {T E : Type 0} (before now : Sinks) (showing : Showing) (old new : EngineState) (note : FrameNote)
    (answer : Result T E) → IsFrameDone old new note
    → OnOk answer (Stands before now (picture_acts (show_seen showing) new.frames (picture_seen new note)))
    → OnErr answer (IsCutShort before now (picture_acts (show_seen showing) new.frames (picture_seen new note)))
    → (show : Show) (walk : Walk) (pictures : List Picture) → EngineHasFollowed showing old show walk pictures
    → TakesFrame before now show walk pictures (EngineHasFollowed showing new) answer
engine-takes before now showing old new note answer done ok err show walk pictures follows =
    let p : Picture = picture_seen new note in
    let number : new.frames ≡ 1 + length walk.frames =
    (let e = follows.followed.made in let f = done.frames in omega (arith, e, f)) in
    let P : Show → ℕ → Type 0 = λ s k. OnOk answer (Stands before now (picture_acts s k p)) in
    let Q : Show → ℕ → Type 0 = λ s k. OnErr answer (IsCutShort before now (picture_acts s k p)) in
    let R : Show → Type 0 = λ s. IsPicture s (last_members [] pictures) walk.state p in
    let P' : Show → Type 0 = λ s. P s (1 + length walk.frames) in
    let Q' : Show → Type 0 = λ s. Q s (1 + length walk.frames) in
    record {
      picture = p;
      is_picture = subst R follows.same_show
          (picture-shown walk pictures old new follows.followed note done (show_seen showing) (of-engine showing));
      followed = record {
        same_show = follows.same_show;
        followed = followed-frame walk pictures old new follows.followed note done;
      };
      shown = subst P' follows.same_show (subst (P (show_seen showing)) number ok);
      cut_short = subst Q' follows.same_show (subst (Q (show_seen showing)) number err);
    }
