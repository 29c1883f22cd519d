-- The least mesh of a tolerance is the picture of a state.
use Rattle.std.proofs.Common.{◌≡◌, ℕ, ◌+◌, List, [], ◌∷◌, length, None, Result, OnOk, OnErr, refl, ◌∙◌, ap, subst}
use Rattle.std.proofs.Common.{arith, length-append}
use Rattle.mesh_defs.specs.ClosedSet.{leaves_of, among}
use Rattle.mesh_defs.specs.MeshText.{vertices_of}
use Rattle.mesh_defs.specs.Priority.{worst_of}
use Rattle.mesh_defs.specs.State.{State, priority_in, text_in}
use Rattle.mesh_laws.proofs.ClosureLemmas.{leaves_of-same, IsLeastClosed-same}
use Rattle.mesh_laws.proofs.SetListLemmas.{list_of, ascending-list_of, among-list_of}
use Rattle.mesh_laws.specs.Least.{is_worse, IsLeastList}
use Rattle.least_mesh.specs.declared.least.LeastNote.{LeastNote}
use Rattle.run_laws.specs.Act.{Act, WholeMesh, ReportText, Sinks, Stands, IsCutShort}
use Rattle.run_laws.specs.Walk.{Walk}
use Rattle.run_words.specs.Words.{Show, as_least}
use Rattle.run_laws.specs.Picture.{Picture, IsPicture, last_members}
use Rattle.run_laws.specs.Outcome.{Outcome, picture_acts}
use Rattle.run_meshes.specs.declared.least_frames.LeastFrames.{LeastFrames}
use Rattle.run_meshes.specs.LeastSeen.{state_seen, LeastFollows, IsLeastNoted, least_acts, least_numbers}
use Rattle.run_laws.specs.Maker.{TakesFrame, LeavesEngine}

module _ (old new : LeastFrames) (prefix : new.prefix.now ≡ old.prefix.now)
    (tolerance : new.tolerance ≡ old.tolerance) where
  -- the same meshes are shown
  same-show : (show : Show) → as_least old.prefix.now old.tolerance ≡ show →
      as_least new.prefix.now new.tolerance ≡ show
  same-show show is =
      ap (λ (p : List ℕ). as_least p new.tolerance) prefix ∙ (ap (λ (t : ℕ). as_least old.prefix.now t) tolerance ∙ is)

  module _ (state : state_seen new ≡ state_seen old) (most : new.most ≡ old.most)
      (frames : new.frames ≡ old.frames + 1) where
    -- the least mesh was made, and is shown or cut short, as the picture of the walk's state
    pub least-takes : {T E : Type 0} (before now : Sinks) (note : LeastNote) (answer : Result T E)
        → IsLeastList old.outlook.grid.n old.tolerance (priority_in (state_seen old)) new.least.leaves
        → note.worst ≡ worst_of (priority_in (state_seen old)) new.least.leaves → IsLeastNoted new note
        → OnOk answer (Stands before now (least_acts new note)) →
        OnErr answer (IsCutShort before now (least_acts new note))
        → (show : Show) (walk : Walk) (pictures : List Picture) → LeastFollows old show walk pictures →
        TakesFrame before now show walk pictures (LeastFollows new) answer
    least-takes before now note answer list worst noted ok err show walk pictures follows =
        let n : ℕ = old.outlook.grid.n in
        let here : State = state_seen old in
        let leaves : List ℕ = new.least.leaves in
        let members : List ℕ = list_of n list.has in
        let same = among-list_of n list.has list.closure.closed in
        let all : leaves ≡ leaves_of n (among members) = list.leaves ∙ leaves_of-same n list.has (among members) same in
        let p : Picture = record {
          state = here;
          members = members;
          worst = note.worst;
          blocked = None;
          splits = 0;
          merges = 0;
        } in
        let seen : IsPicture (as_least old.prefix.now old.tolerance) (last_members [] pictures) here p = record {
          of_state = refl;
          ascending = ascending-list_of n list.has;
          frame = record {
            closure = IsLeastClosed-same n (is_worse n old.tolerance (priority_in here)) list.has
                (among members) same list.closure;
            greatest = worst ∙ ap (worst_of (priority_in here)) all;
            unblocked = refl;
          };
          change = record { no_splits = refl; no_merges = refl };
        } in
        let number : new.frames ≡ 1 + length walk.frames = (let e = follows.made in omega (arith, e, frames)) in
        let level : new.outlook.grid.n ≡ n = ap (λ (s : State). s.grid.n) state in
        let acts : List ℕ → ℕ → State → List ℕ → ℕ → ℕ → List Act = λ prefix_now k s l t v.
        WholeMesh prefix_now k (text_in s l) ∷ (ReportText (least_numbers k t v note.worst) ∷ []) in
        let is_acts : least_acts new note ≡ picture_acts (as_least old.prefix.now old.tolerance)
        (1 + length walk.frames) p =
        ap (λ (l : List ℕ). acts l new.frames (state_seen new) leaves note.triangles note.vertices) prefix
        ∙ (ap (λ (k : ℕ). acts old.prefix.now k (state_seen new) leaves note.triangles note.vertices) number
        ∙ (ap (λ (s : State). acts old.prefix.now (1 + length walk.frames) s leaves note.triangles note.vertices) state
        ∙ (ap (λ (t : ℕ). acts old.prefix.now (1 + length walk.frames) here leaves t note.vertices) noted.triangle_count
        ∙ (ap (λ (v : ℕ). acts old.prefix.now (1 + length walk.frames) here leaves (length leaves) v)
        (noted.vertex_count ∙ ap (λ (k : ℕ). length (vertices_of k leaves)) level)
        ∙ ap (λ (l : List ℕ).
        acts old.prefix.now (1 + length walk.frames) here l (length l) (length (vertices_of n l))) all)))) in
        let P : List Act → Type 0 = λ l. OnOk answer (Stands before now l) in
        let Q : List Act → Type 0 = λ l. OnErr answer (IsCutShort before now l) in
        let P' : Show → Type 0 = λ s. OnOk answer (Stands before now (picture_acts s (1 + length walk.frames) p)) in
        let Q' : Show → Type 0 =
        λ s. OnErr answer (IsCutShort before now (picture_acts s (1 + length walk.frames) p)) in
        let R : State → Type 0 =
        λ s. IsPicture (as_least old.prefix.now old.tolerance) (last_members [] pictures) s p in
        let R' : Show → Type 0 = λ s. IsPicture s (last_members [] pictures) walk.state p in
        record {
          picture = p;
          is_picture = subst R' follows.same_show (subst R follows.at_state seen);
          followed = record {
            same_show = same-show show follows.same_show;
            at_state = state ∙ follows.at_state;
            greatest = most ∙ follows.greatest;
            made = (let l = length-append walk.frames (walk.state ∷ []) in omega (arith, number, l));
          };
          shown = subst P' follows.same_show (subst P is_acts ok);
          cut_short = subst Q' follows.same_show (subst Q is_acts err);
        }

-- the meshes of a tolerance leave none
pub least-leaves : (prefix : List ℕ) (tolerance : ℕ) (follows : Show → Walk → List Picture → Type 0) (end : Outcome)
    → LeavesEngine (as_least prefix tolerance) follows end → None ≡ end.engine
least-leaves prefix tolerance follows end leaves = leaves.left
