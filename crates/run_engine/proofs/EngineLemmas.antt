-- An engine that follows a walk: where it begins, and what a line does to it.
use Rattle.std.proofs.Common.{◌≡◌, ◌≢◌, ℕ, ◌+◌, ◌*◌, ◌^◌, IsTrue, List, [], ◌∷◌, ◌++◌, length, sym, ◌∙◌, ap, subst}
use Rattle.std.proofs.Common.{arith, append-nil, length-append}
use Rattle.std.proofs.lemmas.List.Sums.{sum_by_push}
use Rattle.std.specs.List.{range_with_len}
use Rattle.mesh_defs.specs.GridSet.{IsAscending}
use Rattle.mesh_defs.specs.HeightField.{HeightField}
use Rattle.mesh_defs.specs.ClosedSet.{among}
use Rattle.mesh_defs.specs.State.{State, start_state, priority_in}
use Rattle.mesh_laws.specs.Frame.{IsFrame}
use Rattle.mesh_laws.proofs.SetListLemmas.{ascending-filter, ascending-range}
use Rattle.mesh_laws.specs.Slots.{split_set}
use Rattle.mesh_laws.specs.Steps.{IsFrameRun}
use Rattle.triangle_pool.specs.Slots.{PoolState}
use Rattle.roam_mesh.specs.Mesh.{pool_members}
use Rattle.frame_loop.specs.Engine.{EngineState, IsFrameDone}
use Rattle.frame_loop.specs.declared.note.FrameNote.{FrameNote}
use Rattle.roam_script.specs.declared.line.Line.{Line}
use Rattle.roam_script.specs.declared.line.Line.TheVariants.{Frame}
use Rattle.run_laws.specs.Walk.{Walk, start_walk, state_after, way_of, after_line}
use Rattle.run_words.specs.Words.{Criterion, Show, is_of_engine}
use Rattle.run_laws.specs.Picture.{Picture, IsPicture, IsFrameFor, IsChangeFor, last_members}
use Rattle.run_laws.proofs.PictureLemmas.{of-budget}
use Rattle.run_laws.proofs.ShownLemmas.{shown_by-none}
use Rattle.run_laws.proofs.StepLemmas.{last_members-append}
use Rattle.run_engine.specs.EngineSeen.{IsApplied, HasFollowed}
use Rattle.run_engine.specs.NoteSeen.{picture_seen}

-- the set of a pool

-- its members ascend
pub members-ascend : (pool : PoolState) → IsAscending (pool_members pool)
members-ascend pool =
    ascending-filter (split_set pool.pairs) (range_with_len 0 (4 * 2 ^ (2 * pool.n)))
    (ascending-range 0 (4 * 2 ^ (2 * pool.n)))

-- an engine that was just made follows the walk before the first line
pub followed-begins : (grid : HeightField) (spacing budget : ℕ) (engine : EngineState) →
    engine.state ≡ start_state grid spacing budget → engine.most ≡ budget
    → pool_members engine.mesh.pool ≡ [] → engine.odometer ≡ 0 → engine.frames ≡ 0 → engine.mesh.pool.splits ≡ 0 →
    engine.mesh.pool.merges ≡ 0
    → HasFollowed (start_walk budget (start_state grid spacing budget)) [] engine
followed-begins grid spacing budget engine state most none odometer frames splits merges = record {
  at_state = state;
  greatest = most;
  gone = odometer;
  made = frames;
  set = none;
  all_splits = splits;
  all_merges = merges;
}

module _ (walk : Walk) (pictures : List Picture) (old new : EngineState)
    (followed : HasFollowed walk pictures old) where
  -- a line was carried out that makes no frame
  pub followed-line : (line : Line) → line ≢ Frame → IsApplied old new line →
      HasFollowed (after_line line walk) pictures new
  followed-line line other out = record {
    at_state = out.next ∙ ap (state_after line) followed.at_state;
    greatest = out.greatest ∙ followed.greatest;
    gone = out.gone ∙ (ap (λ (k : ℕ). k + way_of line old.state) followed.gone
        ∙ ap (λ (s : State). walk.odometer + way_of line s) followed.at_state);
    made = out.made ∙ (followed.made ∙ ap length (sym (append-nil walk.frames)
        ∙ ap (λ (l : List State). walk.frames ++ l) (sym (shown_by-none line walk.state other))));
    set = ap pool_members out.pool ∙ followed.set;
    all_splits = ap (λ (p : PoolState). p.splits) out.pool ∙ followed.all_splits;
    all_merges = ap (λ (p : PoolState). p.merges) out.pool ∙ followed.all_merges;
  }

  module _ (note : FrameNote) (done : IsFrameDone old new note) where
    -- the frame of a line was made
    pub followed-frame : HasFollowed (after_line Frame walk) (pictures ++ picture_seen new note ∷ []) new
    followed-frame = record {
      at_state = done.state ∙ followed.at_state;
      greatest = done.most ∙ followed.greatest;
      gone = done.odometer ∙ (followed.gone ∙ plus-zero walk.odometer);
      made = (let e = followed.made in let f = done.frames in let l = length-append walk.frames (walk.state ∷ []) in
          omega (arith, e, f, l));
      set = sym (last_members-append [] pictures (picture_seen new note));
      all_splits = done.counters.splits_rose ∙ (ap (λ (k : ℕ). k + note.splits) followed.all_splits
          ∙ sym (sum_by_push (λ (p : Picture). p.splits) pictures (picture_seen new note)));
      all_merges = done.counters.merges_rose ∙ (ap (λ (k : ℕ). k + note.merges) followed.all_merges
          ∙ sym (sum_by_push (λ (p : Picture). p.merges) pictures (picture_seen new note)));
    }
      where
        plus-zero : (k : ℕ) → k ≡ k + 0
        plus-zero k = omega arith

    -- what it shows is the picture of the state
    pub picture-shown : (show : Show) → IsTrue (is_of_engine show) →
        IsPicture show (last_members [] pictures) walk.state (picture_seen new note)
    picture-shown show engine =
        let P : State → List ℕ → Type 0 = λ s before.
        IsFrameRun s.grid.n s.budget (priority_in s) before (pool_members new.mesh.pool) note.splits note.merges in
        let Q : State → Type 0 = λ s.
        IsFrame s.grid.n s.budget (priority_in s) (among (pool_members new.mesh.pool)) note.worst note.blocked in
        let R : State → Type 0 = λ s. P s (last_members [] pictures) in
        let F : Criterion → Type 0 =
        λ c. IsFrameFor c walk.state (pool_members new.mesh.pool) note.worst note.blocked in
        let C : Criterion → Type 0 =
        λ c. IsChangeFor c walk.state (last_members [] pictures) (pool_members new.mesh.pool) note.splits note.merges in
        let by_budget = of-budget show engine in
        record {
          of_state = done.state ∙ followed.at_state;
          ascending = members-ascend new.mesh.pool;
          frame = subst F (sym by_budget) (subst Q followed.at_state done.frame);
          change = subst C (sym by_budget) (subst R followed.at_state (subst (P old.state) followed.set done.run));
        }
