-- The engine that a run leaves is the one that its outcome tells of.
use Rattle.std.proofs.Common.{◌≡◌, ◌⊎◌, ◌↔◌, ◌&&◌, inl, inr, ℕ, Bool, true, IsTrue, IsSome, if◌then◌else◌, List, []}
use Rattle.std.proofs.Common.{length, sum_by, Option, option_map, Some, None, refl, sym, ◌∙◌, ap, subst}
use Rattle.mesh_defs.specs.State.{State}
use Rattle.roam_edge.specs.declared.shelf.Shelf as reading
use Rattle.roam_edge.specs.declared.mesh_sink.MeshSink as showing
use Rattle.roam_edge.specs.declared.sink.Sink as reporting
use Rattle.triangle_pool.specs.Slots.{PoolState}
use Rattle.roam_mesh.specs.Mesh.{pool_members}
use Rattle.frame_loop.specs.Engine.{EngineState}
use Rattle.run_laws.specs.declared.status.Status.{Status}
use Rattle.run_laws.specs.declared.status.Status.TheVariants as ends
use Rattle.run_laws.specs.Walk.{Walk}
use Rattle.run_laws.specs.Picture.{Picture, last_members}
use Rattle.run_laws.specs.Outcome.{Outcome, EngineEnd, sum_acts, engine_for, engine_end}
use Rattle.run_laws.specs.Promise.{is_complete, ends_script, leaves_engine}
use Rattle.run_laws.specs.Moment.{Moment, moment}
use Rattle.run_laws.specs.Maker.{LeavesEngine, IsScriptEnd}
use Rattle.run_laws.proofs.GridLemmas.{not-complete}
use Rattle.run_words.specs.Words.{Scripted, OnGrid, Frames, is_of_engine}
use Rattle.run_words.specs.declared.showing.Showing.{Showing}
use Rattle.run_words.specs.declared.showing.Showing.TheVariants.{Meshes, Strips, Measures}
use Rattle.run_words.specs.ShowView.{show_seen}
use Rattle.run_engine.specs.EngineSeen.{engine_seen, HasFollowed}
use Rattle.run_engine.specs.EngineFrames.{EngineHasFollowed}

-- an engine that has followed a walk is the one that an outcome tells of
pub followed-end : (walk : Walk) (pictures : List Picture) (engine : EngineState) → HasFollowed walk pictures engine →
    engine_seen engine ≡ engine_end walk pictures
followed-end walk pictures engine followed =
    let E : State → ℕ → ℕ → List ℕ → ℕ → ℕ → EngineEnd =
    λ s o f m a b. record { state = s; odometer = o; frames = f; members = m; splits = a; merges = b } in
    let pool : PoolState = engine.mesh.pool in
    ap (λ (s : State). E s engine.odometer engine.frames (pool_members pool) pool.splits pool.merges) followed.at_state
    ∙ (ap (λ (k : ℕ). E walk.state k engine.frames (pool_members pool) pool.splits pool.merges) followed.gone
    ∙ (ap (λ (k : ℕ). E walk.state walk.odometer k (pool_members pool) pool.splits pool.merges) followed.made
    ∙ (ap (λ (l : List ℕ). E walk.state walk.odometer (length walk.frames) l pool.splits pool.merges) followed.set
    ∙ (ap (λ (k : ℕ). E walk.state walk.odometer (length walk.frames) (last_members [] pictures) k pool.merges)
    followed.all_splits
    ∙ ap (λ (k : ℕ). E walk.state walk.odometer (length walk.frames) (last_members [] pictures)
    (sum_by (λ (p : Picture). p.splits) pictures) k) followed.all_merges))))

-- nothing is told behind all frames
pub sum-none : (showing : Showing) (ps : List Picture) → sum_acts (show_seen showing) ps ≡ []
sum-none (Meshes prefix) ps = refl
sum-none (Strips prefix) ps = refl
sum-none Measures ps = refl

-- an engine is left
pub engine-left : (showing : Showing) (walk : Walk) (ps : List Picture) →
    engine_for (show_seen showing) walk ps ≡ Some (engine_end walk ps)
engine-left (Meshes prefix) walk ps = refl
engine-left (Strips prefix) walk ps = refl
engine-left Measures walk ps = refl

-- the engine that is left is the one that the outcome tells of
pub leaves-engine : (showing other : Showing) (engine : EngineState) (end : Outcome) →
    LeavesEngine (show_seen showing) (EngineHasFollowed other engine) end → Some (engine_seen engine) ≡ end.engine
leaves-engine showing other engine end leaves =
    ap Some (followed-end leaves.walk leaves.pictures engine leaves.followed.followed)
    ∙ (sym (engine-left showing leaves.walk leaves.pictures) ∙ leaves.left)

-- a script that was carried out to its end or its refusal leaves its engine
pub left-some : (status : Status) (engine : EngineState) → (status ≡ ends.ReadFault) ⊎ IsScriptEnd status →
    IsTrue (is_complete status)
    → (if ends_script status then Some engine else None) ≡ Some engine
left-some status engine (inl fault) is = absurd (not-complete status ends.ReadFault refl is fault)
left-some status engine (inr (inl done)) is = ap (λ (s : Status). if ends_script s then Some engine else None) done
left-some status engine (inr (inr (inl refused))) is =
    ap (λ (s : Status). if ends_script s then Some engine else None) refused
left-some status engine (inr (inr (inr failed))) is = absurd (not-complete status ends.WriteFault refl is failed)

-- an engine makes the frames that are shown so
engine-makes : (showing : Showing) → is_of_engine (show_seen showing) ≡ true
engine-makes (Meshes prefix) = refl
engine-makes (Strips prefix) = refl
engine-makes Measures = refl

-- an engine is left where something of it is seen
pub left-seen : (engine : Option EngineState) (P : Type 0) → (IsSome engine ↔ P) →
    IsSome (option_map engine_seen engine) ↔ P
left-seen None P left = left
left-seen (Some engine) P left = left

-- one is left of a script just where its lines were carried out
pub left-of-engine : (showing : Showing) (name : List ℕ) (s : Scripted) (status : Status)
    (engine : Option EngineState) → s.show ≡ show_seen showing
    → (IsSome engine ↔ IsTrue (ends_script status))
    → IsSome (option_map engine_seen engine) ↔ IsTrue (leaves_engine (Some (OnGrid name (Frames s))) status)
left-of-engine showing name s status engine shown left =
    let made : is_of_engine s.show ≡ true = ap is_of_engine shown ∙ engine-makes showing in
    let P : Bool → Type 0 = λ b. IsSome (option_map engine_seen engine) ↔ IsTrue (b && ends_script status) in
    subst P (sym made) (left-seen engine (IsTrue (ends_script status)) left)

-- what holds of the moment of objects that are lent holds of that of the objects, once the loan has ended
pub loan-ended : {F M R : Type 0} (f : reading.Ghosts F) (m : showing.Ghosts M)
    (r : reporting.Ghosts R) (P : Moment → Type 0)
    (shelf shelf' : F) (meshes meshes' : M) (report report' : R) → shelf ≡ shelf' → meshes ≡ meshes' → report ≡ report'
    → P (moment f m r shelf meshes report) → P (moment f m r shelf' meshes' report')
loan-ended f m r P shelf shelf' meshes meshes' report report' one two three holds =
    subst (λ s. P (moment f m r s meshes' report')) one
    (subst (λ n. P (moment f m r shelf n report')) two (subst (λ o. P (moment f m r shelf meshes o)) three holds))
