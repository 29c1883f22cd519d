-- The headline follows from what stands: each finished mesh is that of a frame line, in order, and is good.
use Rattle.std.proofs.Common.{◌≡◌, ℕ, suc, ◌+◌, ◌≤◌, Bool, true, IsTrue, List, [], ◌∷◌, ◌++◌, length, Option, Some}
use Rattle.std.proofs.Common.{None, IsSome, refl, sym, ◌∙◌, ap, subst, inl, inr, append-nil}
use Rattle.std.specs.List.{AllByRecursion}
use Rattle.std.proofs.lemmas.List.Elements.{All-from_recursion}
use Rattle.mesh_defs.specs.ClosedSet.{IsClosed, among, leaves_of}
use Rattle.mesh_defs.specs.HeightField.{HeightField}
use Rattle.mesh_defs.specs.State.{State, priority_in, text_in}
use Rattle.mesh_laws.specs.Strip.{strip_of}
use Rattle.mesh_laws.proofs.StripOrderLemmas.{AreLeaves-strip_of, once-strip_of}
use Rattle.mesh_laws.proofs.StripLemmas.{IsRing-strip_of}
use Rattle.mesh_laws.specs.Least.{IsLeastMesh}
use Rattle.bintree_addr.specs.declared.blocked.Blocked.{Blocked}
use Rattle.roam_edge.specs.MeshSink.{WrittenMesh}
use Rattle.obj_write.specs.Written.{mesh_with, IsPartOfMesh}
use Rattle.run_laws.specs.declared.status.Status.{Status}
use Rattle.run_laws.specs.Walk.{Refusal}
use Rattle.run_words.specs.Words.{Criterion, OfBudget, OfTolerance, TriangleOrder, DepthFirst, AlongStrip, Output}
use Rattle.run_words.specs.Words.{Meshes, Measures, Sums, Show, Scripted, prefix_of}
use Rattle.run_laws.specs.Act.{Act, WholeMesh, ReportText, meshes_of, Sinks, Stands, StandsInPart, IsCutShort}
use Rattle.run_laws.specs.Picture.{Picture, shown_triangles, IsLeastFrame, IsFrameFor, IsPicture, ArePictures}
use Rattle.run_laws.specs.Outcome.{Outcome, picture_acts, shown_acts, sum_acts, stop_acts, script_walk, IsFramesOutcome}
use Rattle.run_laws.specs.Promise.{ends_script}
use Rattle.run_laws.specs.Headline.{IsGoodMesh, IsGoodOrder, AreGoodFrames, KeepsGoodMeshes}
use Rattle.run_laws.specs.Laws.{AreStates, BudgetsAreTwo}
use Rattle.run_laws.proofs.ActLemmas.{meshes_of-append}
use Rattle.run_laws.proofs.PictureLemmas.{BudgetFramesAreBest, show_of}
use Rattle.run_laws.proofs.OutcomeLemmas.{script-states}

-- the frame of a tolerance is the least mesh of its state
abbrev pub LeastFramesAreLeast : Type 0
LeastFramesAreLeast = (tolerance : ℕ) (state : State) (members : List ℕ) (worst : ℕ) (blocked : Option Blocked)
    → IsLeastFrame state.grid.n tolerance (priority_in state) (among members) worst blocked
    → IsLeastMesh state.grid.n tolerance (priority_in state) (leaves_of state.grid.n (among members))

-- the frame of a budget is a best mesh of its state, and that of a tolerance the least mesh of it
pub record FramesAreBest : Type 0 where
  pub of_budget : BudgetFramesAreBest
  pub of_tolerance : LeastFramesAreLeast

-- the mesh of a frame is good
good-mesh : FramesAreBest →
    (criterion : Criterion) (state : State) (members : List ℕ) (worst : ℕ) (blocked : Option Blocked)
    → 2 ≤ state.budget → IsFrameFor criterion state members worst blocked
    → IsGoodMesh criterion state (leaves_of state.grid.n (among members))
good-mesh best OfBudget state members worst blocked low frame = best.of_budget state members worst blocked low frame
good-mesh best (OfTolerance tolerance) state members worst blocked low frame =
    best.of_tolerance tolerance state members worst blocked frame

-- its set is closed
frame-closed : (criterion : Criterion) (state : State) (members : List ℕ) (worst : ℕ) (blocked : Option Blocked)
    → IsFrameFor criterion state members worst blocked → IsClosed state.grid.n (among members)
frame-closed OfBudget state members worst blocked frame = frame.closure.closure.closed
frame-closed (OfTolerance tolerance) state members worst blocked frame = frame.closure.closed

-- so the text of a picture is good, in each order of its triangles
good-text : FramesAreBest →
    (criterion : Criterion) (order : TriangleOrder) (output : Output) (before : List ℕ) (state : State)
    (p : Picture) → 2 ≤ state.budget → IsPicture (show_of criterion order output) before state p
    → (list : List ℕ) × IsGoodOrder order criterion state list
    × (text_in p.state (shown_triangles (show_of criterion order output) p) ≡ text_in state list)
good-text best criterion DepthFirst output before state p low f = (
  leaves_of state.grid.n (among p.members),
  good-mesh best criterion state p.members p.worst p.blocked low f.frame,
  ap (λ (s : State). text_in s (leaves_of s.grid.n (among p.members))) f.of_state,
)
good-text best criterion AlongStrip output before state p low f =
    let n : ℕ = state.grid.n in
    let has : ℕ → Bool = among p.members in (
      strip_of n has,
      record {
        has = has;
        mesh = good-mesh best criterion state p.members p.worst p.blocked low f.frame;
        strip = refl;
        leaves = AreLeaves-strip_of n has;
        once = λ a. once-strip_of n a has;
        ring = IsRing-strip_of n has (frame-closed criterion state p.members p.worst p.blocked f.frame);
      },
      ap (λ (s : State). text_in s (strip_of s.grid.n has)) f.of_state,
    )

no-measures : (criterion : Criterion) (order : TriangleOrder) →
    IsSome (prefix_of (show_of criterion order Measures)) → ⊥
no-measures criterion order is = cc

no-sums : (criterion : Criterion) (order : TriangleOrder) (n seed : ℕ) →
    IsSome (prefix_of (show_of criterion order (Sums n seed))) → ⊥
no-sums criterion order n seed is = cc

-- a picture adds a good mesh
one-good : FramesAreBest →
    (show : Show) (k : ℕ) (before : List ℕ) (state : State) (states : List State) (p : Picture) (acts : List Act) →
    IsSome (prefix_of show)
    → 2 ≤ state.budget → IsPicture show before state p → AreGoodFrames show (k + 1) states (meshes_of acts)
    → AreGoodFrames show k (state ∷ states) (meshes_of (picture_acts show k p ++ acts))
one-good best show k before state states p acts some low f rest =
    by_parts show.criterion show.order show.output some f rest
  where
    by_parts : (criterion : Criterion) (order : TriangleOrder) (output : Output) →
        IsSome (prefix_of (show_of criterion order output))
        → IsPicture (show_of criterion order output) before state p
        → AreGoodFrames (show_of criterion order output) (k + 1) states (meshes_of acts)
        → AreGoodFrames (show_of criterion order output) k (state ∷ states)
        (meshes_of (picture_acts (show_of criterion order output) k p ++ acts))
    by_parts criterion order (Meshes prefix) some f rest = (
      (λ finished. record {
        named = refl;
        numbered = refl;
        text = good-text best criterion order (Meshes prefix) before state p low f;
      }),
      rest,
    )
    by_parts criterion order Measures some f rest = absurd (no-measures criterion order some)
    by_parts criterion order (Sums n seed) some f rest = absurd (no-sums criterion order n seed some)

-- the meshes of frames are good
good-meshes : FramesAreBest → (show : Show) (k n : ℕ) (before : List ℕ) (states : List State) (ps : List Picture) →
    IsSome (prefix_of show) → AreStates n states
    → ArePictures show before states ps → AreGoodFrames show k states (meshes_of (shown_acts show k ps))
good-meshes best show k n before [] [] some low f = tt
good-meshes best show k n before [] (p ∷ ps) some low f = absurd f
good-meshes best show k n before (s ∷ states) [] some low f = absurd f
good-meshes best show k n before (s ∷ states) (p ∷ ps) some low f =
    one-good best show k before s states p (shown_acts show (k + 1) ps) some low.1 f.0
    (good-meshes best show (k + 1) n p.members states ps some low.2 f.1)

-- a picture adds one mesh
one-count : (show : Show) (k : ℕ) (p : Picture) (acts : List Act) → IsSome (prefix_of show)
    → length (meshes_of (picture_acts show k p ++ acts)) ≡ suc (length (meshes_of acts))
one-count show k p acts some = by_parts show.criterion show.order show.output some
  where
    by_parts : (criterion : Criterion) (order : TriangleOrder) (output : Output) →
        IsSome (prefix_of (show_of criterion order output))
        → length (meshes_of (picture_acts (show_of criterion order output) k p ++ acts)) ≡ suc (length (meshes_of acts))
    by_parts criterion order (Meshes prefix) some = refl
    by_parts criterion order Measures some = absurd (no-measures criterion order some)
    by_parts criterion order (Sums n seed) some = absurd (no-sums criterion order n seed some)

-- one mesh a frame
count-meshes : (show : Show) (k : ℕ) (before : List ℕ) (states : List State) (ps : List Picture) →
    IsSome (prefix_of show)
    → ArePictures show before states ps → length (meshes_of (shown_acts show k ps)) ≡ length states
count-meshes show k before [] [] some f = refl
count-meshes show k before [] (p ∷ ps) some f = absurd f
count-meshes show k before (s ∷ states) [] some f = absurd f
count-meshes show k before (s ∷ states) (p ∷ ps) some f =
    one-count show k p (shown_acts show (k + 1) ps) some
    ∙ ap suc (count-meshes show (k + 1) p.members states ps some f.1)

-- all are finished
finished-meshes : (acts : List Act) → AllByRecursion (λ (mesh : WrittenMesh). mesh.finished ≡ true) (meshes_of acts)
finished-meshes [] = tt
finished-meshes (WholeMesh prefix number bytes ∷ acts) = (refl, finished-meshes acts)
finished-meshes (ReportText bytes ∷ acts) = finished-meshes acts

no-mesh-stop : (stop : Option Refusal) → meshes_of (stop_acts stop) ≡ []
no-mesh-stop None = refl
no-mesh-stop (Some refusal) = refl

-- what follows the frames adds no mesh
no-mesh-sum : (show : Show) (ps : List Picture) (stop : Option Refusal) →
    meshes_of (sum_acts show ps ++ stop_acts stop) ≡ []
no-mesh-sum show ps stop = by_parts show.criterion show.order show.output
  where
    by_parts : (criterion : Criterion) (order : TriangleOrder) (output : Output)
        → meshes_of (sum_acts (show_of criterion order output) ps ++ stop_acts stop) ≡ []
    by_parts criterion order (Meshes prefix) = no-mesh-stop stop
    by_parts criterion order Measures = no-mesh-stop stop
    by_parts criterion order (Sums level seed) = no-mesh-stop stop

outcome-meshes : (show : Show) (ps : List Picture) (stop : Option Refusal)
    → meshes_of (shown_acts show 1 ps ++ (sum_acts show ps ++ stop_acts stop)) ≡ meshes_of (shown_acts show 1 ps)
outcome-meshes show ps stop =
    meshes_of-append (shown_acts show 1 ps) (sum_acts show ps ++ stop_acts stop)
    ∙ (ap (λ (l : List WrittenMesh). meshes_of (shown_acts show 1 ps) ++ l) (no-mesh-sum show ps stop)
    ∙ append-nil (meshes_of (shown_acts show 1 ps)))

-- the first of good frames
frames-first : (show : Show) (k : ℕ) (states : List State) (xs ys : List WrittenMesh) →
    AreGoodFrames show k states (xs ++ ys) → AreGoodFrames show k states xs
frames-first show k states [] ys frames = tt
frames-first show k [] (mesh ∷ xs) ys frames = absurd frames
frames-first show k (s ∷ states) (mesh ∷ xs) ys frames = (frames.0, frames-first show (k + 1) states xs ys frames.1)

-- good frames of the first of some states
frames-more : (show : Show) (k : ℕ) (ss ts : List State) (xs : List WrittenMesh) → AreGoodFrames show k ss xs →
    AreGoodFrames show k (ss ++ ts) xs
frames-more show k ss ts [] frames = tt
frames-more show k [] ts (mesh ∷ xs) frames = absurd frames
frames-more show k (s ∷ ss) ts (mesh ∷ xs) frames = (frames.0, frames-more show (k + 1) ss ts xs frames.1)

-- a mesh of good frames in part
frames-part : (show : Show) (k : ℕ) (states : List State) (xs part more : List WrittenMesh) (prefix : List ℕ)
    (count : ℕ) (bytes : List ℕ)
    → AreGoodFrames show k states (xs ++ (mesh_with prefix count bytes true ∷ more)) →
    IsPartOfMesh prefix count bytes part
    → AreGoodFrames show k states (xs ++ part)
frames-part show k [] [] part more prefix count bytes frames is = absurd frames
frames-part show k (s ∷ states) [] part more prefix count bytes frames (inl none) =
    let P : List WrittenMesh → Type 0 = λ m. AreGoodFrames show k (s ∷ states) m in
    subst P (sym none) tt
frames-part show k (s ∷ states) [] part more prefix count bytes frames (inr some) =
    let P : List WrittenMesh → Type 0 = λ m. AreGoodFrames show k (s ∷ states) m in
    subst P (sym some.2) ((λ e. cc), tt)
frames-part show k [] (mesh ∷ xs) part more prefix count bytes frames is = absurd frames
frames-part show k (s ∷ states) (mesh ∷ xs) part more prefix count bytes frames is =
    (frames.0, frames-part show (k + 1) states xs part more prefix count bytes frames.1 is)

module _ (best : FramesAreBest) (two : BudgetsAreTwo) (s : Scripted) (grid : HeightField) (script : List ℕ)
    (some : IsSome (prefix_of s.show)) (low : 2 ≤ s.budget)
    (before now : Sinks) (all : List WrittenMesh) (there : before.meshes ≡ Some all) (status : Status) where
  -- the headline of a run that did all of its outcome
  pub complete-keeps : (end : Outcome) → IsFramesOutcome s.show 2 (script_walk s grid script) end →
      Stands before now end.acts → KeepsGoodMeshes s grid script all now.meshes status
  complete-keeps end is stands =
      let ps : List Picture = is.0 in
      let same : meshes_of end.acts ≡ meshes_of (shown_acts s.show 1 ps) =
      ap (λ (o : Outcome). meshes_of o.acts) is.2 ∙ outcome-meshes s.show ps (script_walk s grid script).stop in
      record {
        added = meshes_of (shown_acts s.show 1 ps);
        behind = stands.meshes_grow all there ∙ ap (λ (l : List WrittenMesh). Some (all ++ l)) same;
        frames = good-meshes best s.show 1 grid.n [] (script_walk s grid script).frames ps some
            (script-states two s grid script low) is.1;
        all_frames = λ ends. count-meshes s.show 1 [] (script_walk s grid script).frames ps some is.1;
        all_finished = λ ends. All-from_recursion (λ (mesh : WrittenMesh). mesh.finished ≡ true)
            (meshes_of (shown_acts s.show 1 ps)) (finished-meshes (shown_acts s.show 1 ps));
      }

  module _ (unfinished : IsTrue (ends_script status) → ⊥) where
    -- the headline of a run of which the frames of the first lines stand
    pub first-keeps : (firsts more : List State) (ps : List Picture) →
        (script_walk s grid script).frames ≡ firsts ++ more
        → AreStates grid.n firsts → ArePictures s.show [] firsts ps
        → Stands before now (shown_acts s.show 1 ps) → KeepsGoodMeshes s grid script all now.meshes status
    first-keeps firsts more ps cut are shown stands = record {
      added = meshes_of (shown_acts s.show 1 ps);
      behind = stands.meshes_grow all there;
      frames = (let P : List State → Type 0 = λ l. AreGoodFrames s.show 1 l (meshes_of (shown_acts s.show 1 ps)) in
          subst P (sym cut) (frames-more s.show 1 firsts more (meshes_of (shown_acts s.show 1 ps))
          (good-meshes best s.show 1 grid.n [] firsts ps some are shown)));
      all_frames = λ ends. absurd (unfinished ends);
      all_finished = λ ends. absurd (unfinished ends);
    }

    part-keeps : (done : List Act) (next : Act) (owed : List Act) →
        AreGoodFrames s.show 1 (script_walk s grid script).frames (meshes_of done ++ meshes_of (next ∷ owed))
        → StandsInPart before now done next → KeepsGoodMeshes s grid script all now.meshes status
    part-keeps done (WholeMesh prefix number bytes) owed good standing =
        let part = standing.0 all there in
        record {
          added = meshes_of done ++ part.0;
          behind = part.2;
          frames = frames-part s.show 1 (script_walk s grid script).frames (meshes_of done) part.0
              (meshes_of owed) prefix number bytes good part.1;
          all_frames = λ ends. absurd (unfinished ends);
          all_finished = λ ends. absurd (unfinished ends);
        }
    part-keeps done (ReportText bytes) owed good standing = record {
      added = meshes_of done;
      behind = standing.0 all there;
      frames = frames-first s.show 1 (script_walk s grid script).frames (meshes_of done) (meshes_of owed) good;
      all_frames = λ ends. absurd (unfinished ends);
      all_finished = λ ends. absurd (unfinished ends);
    }

    -- the headline of a run that was cut short
    pub cut-keeps : (end : Outcome) → IsFramesOutcome s.show 2 (script_walk s grid script) end →
        IsCutShort before now end.acts → KeepsGoodMeshes s grid script all now.meshes status
    cut-keeps end is cut =
        let ps : List Picture = is.0 in
        let good = good-meshes best s.show 1 grid.n [] (script_walk s grid script).frames ps some
        (script-states two s grid script low) is.1 in
        let same : meshes_of (shown_acts s.show 1 ps) ≡ meshes_of cut.done ++ meshes_of (cut.next ∷ cut.owed) =
        sym (ap (λ (o : Outcome). meshes_of o.acts) is.2 ∙ outcome-meshes s.show ps (script_walk s grid script).stop)
        ∙ (ap meshes_of cut.in_order ∙ meshes_of-append cut.done (cut.next ∷ cut.owed)) in
        let P : List WrittenMesh → Type 0 = λ m. AreGoodFrames s.show 1 (script_walk s grid script).frames m in
        part-keeps cut.done cut.next cut.owed (subst P same good) cut.standing

    -- the headline of a run that added no mesh
    pub nothing-keeps : now.meshes ≡ Some all → KeepsGoodMeshes s grid script all now.meshes status
    nothing-keeps same = record {
      added = [];
      behind = same ∙ ap Some (sym (append-nil all));
      frames = tt;
      all_frames = λ ends. absurd (unfinished ends);
      all_finished = λ ends. absurd (unfinished ends);
    }
