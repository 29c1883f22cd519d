use Rattle.std.proofs.Common.{◌≡◌, ◌+◌, ◌<◌, ◌↔◌, IsNone, IfSome, All, Contains, sym, ◌∙◌, ap, subst}
use Rattle.std.proofs.lemmas.Option.{same_Some}
use Rattle.mesh_defs.specs.ClosedSet.{leaves_of, among}
use Rattle.mesh_defs.specs.GridSet.{IsGridSet}
use Rattle.mesh_laws.specs.Slots.{split_set}
use Rattle.mesh_laws.proofs.SlotLemmas.{split_list-closed}
use Rattle.mesh_defs.specs.State.{priority_in}
use Rattle.roam_mesh.specs.Mesh.{pool_members}
use Rattle.roam_mesh.specs.Chosen.{SparesChosen}
use Rattle.mesh_arrays.specs.ListChange.{IsChange}
use Rattle.mesh_arrays.specs.List.{ListState}
use Rattle.frame_loop.specs.Changes.{no_changes, changes_of, AreChangesOf}
use Rattle.frame_loop.proofs.PoolLemmas.{members_leaves_at}
use Rattle.frame_loop.specs.Engine.{EngineState, IsStill, engine_of, mesh_seen}
use Rattle.frame_loop.specs.declared.note.FrameNote.{FrameNote}
use Rattle.frame_loop.proofs.StillLemmas.{still_after, still_on, still_engine}
use Rattle.frame_loop.proofs.engine.Engine.frame.Goals as goal

pub invariant_of-self : goal.invariant_of-self
invariant_of-self c =
    let e : EngineState = engine_of c.self.inside.outlook c.self.inside.budget c.self.inside.most c.self.inside.mesh
    c.self.inside.odometer c.self.inside.frames c.self.inside.meter (changes_of c.self.inside.list) in
    rw c.stay.ensures.value (
      still_engine e c.self.invariant.0
          (subst (λ (z : EngineState). z.frames < 1000000) (sym c.self.view_is) c.requires.some),
      record { leaf_list = c.self.invariant.1.leaf_list; vertex_numbers = c.self.invariant.1.vertex_numbers },
      c.self.invariant.2,
      c.self.invariant.3,
      c.self.invariant.4,
      c.self.invariant.5,
      λ note is. still_on e (e.frames + 1) no_changes note (c.self.invariant.6 note is),
    )

pub returns-in-Some-clause-done : goal.returns-in-Some-clause-done
returns-in-Some-clause-done c =
    rw (← c.self.view_is, c.stay.ensures.value) (c.self.invariant.6 c.in-Some.note c.in-Some.is)

pub returns-in-Some-clause-best : goal.returns-in-Some-clause-best
returns-in-Some-clause-best c =
    c.frame_laws.ensures.best _ _ _ _ _ _ (c.self.invariant.6 c.in-Some.note c.in-Some.is).frame
    (c.scene_laws.ensures.falls c.self.inside.outlook) c.self.invariant.0.budget_low

pub returns-in-Some-clause-unblocked : goal.returns-in-Some-clause-unblocked
returns-in-Some-clause-unblocked c =
    c.frame_laws.ensures.unblocked _ _ _ _ _ _ (c.self.invariant.6 c.in-Some.note c.in-Some.is).frame
    (c.scene_laws.ensures.falls c.self.inside.outlook) c.self.invariant.0.budget_low

pub returns-in-Some-clause-certificate : goal.returns-in-Some-clause-certificate
returns-in-Some-clause-certificate c =
    c.frame_laws.ensures.certificate _ _ _ _ _ _ (c.self.invariant.6 c.in-Some.note c.in-Some.is).frame
    (c.scene_laws.ensures.falls c.self.inside.outlook) c.self.invariant.0.budget_low

pub returns-in-Some-clause-spares : goal.returns-in-Some-clause-spares
returns-in-Some-clause-spares c = rw (← c.self.view_is)
    (c.still_laws.ensures.spares _ _ _ _ _ (subst (λ k. IsGridSet k (pool_members c.self.inside.mesh.pool)) c.self.invariant.0.n
    (split_list-closed c.self.inside.mesh.pool.n c.self.inside.mesh.pool.pairs c.pool-pool.ensures.valid))
    (c.scene_laws.ensures.falls c.self.inside.outlook))

pub invariant_of-self-2 : goal.invariant_of-self-2
invariant_of-self-2 c = (
  c.self-2.invariant.0,
  c.self-2.invariant.1,
  c.self-2.invariant.2,
  c.self-2.invariant.3,
  c.self-2.invariant.4,
  c.self-2.invariant.5,
  λ note is. subst (λ (k : FrameNote).
      IsStill (engine_of c.self-2.inside.outlook c.self-2.inside.budget c.self-2.inside.most c.self-2.inside.mesh
      c.self-2.inside.odometer c.self-2.inside.frames c.self-2.inside.meter (changes_of c.self-2.inside.list)) k)
      (sym c.without_steps.ensures ∙ same_Some c.without_steps.result note is)
      (subst (λ (z : EngineState). IsStill z (record c.frame_anew-told.result { splits = 0; merges = 0 }))
      (sym c.self-2.view_is)
      (still_after c.still_laws.ensures.asked c.args.self.now c.frame_anew-told.new.self c.frame_anew-told.result c.frame_anew-told.ensures.done)),
)

pub returns-clause-unblocked : goal.returns-clause-unblocked
returns-clause-unblocked c =
    subst (λ (z : EngineState). IsNone c.frame_anew-told.result.blocked
    ↔ All (λ a. priority_in z.state a ≡ 0) (mesh_seen z)) (sym c.self-2.view_is) c.frame_anew-told.ensures.unblocked

pub returns-clause-certificate : goal.returns-clause-certificate
returns-clause-certificate c =
    subst (λ (z : EngineState). IfSome c.frame_anew-told.result.blocked (λ b. (z.state.budget < b.need)
    × (priority_in z.state b.tri ≡ c.frame_anew-told.result.worst) × Contains (mesh_seen z) b.tri))
    (sym c.self-2.view_is) c.frame_anew-told.ensures.certificate

pub returns-clause-spares : goal.returns-clause-spares
returns-clause-spares c =
    subst (λ (z : EngineState). SparesChosen z.state.grid.n z.state.budget (priority_in z.state)
    (pool_members c.args.self.now.mesh.pool) (pool_members z.mesh.pool))
    (sym c.self-2.view_is) c.frame_anew-told.ensures.spares

pub returns-in-Some-clause-changes : goal.returns-in-Some-clause-changes
returns-in-Some-clause-changes c =
    let e = c.self.inside in
    let listed : e.list.leaves ≡ leaves_of e.outlook.grid.n (among (pool_members e.mesh.pool)) =
    c.self.invariant.1.leaf_list ∙ ap (λ k. leaves_of k (split_set e.mesh.pool.pairs)) (sym c.self.invariant.0.n)
    ∙ members_leaves_at e.mesh.pool e.outlook.grid.n c.pool-pool.ensures.valid c.self.invariant.0.n in
    let stays : c.stay.new.self.leaves ≡ e.list.leaves = ap (λ (l : ListState). l.leaves) c.stay.ensures.value in
    rw (← c.self.view_is)
    (subst (λ xs. IsChange xs (leaves_of e.outlook.grid.n (among (pool_members e.mesh.pool))) c.stay.new.self.gone
    c.stay.new.self.come) listed
    (subst (λ ys. IsChange e.list.leaves ys c.stay.new.self.gone c.stay.new.self.come)
    (stays ∙ listed) c.stay.ensures.change))

pub returns-clause-changes : goal.returns-clause-changes
returns-clause-changes c =
    subst (λ (z : EngineState). AreChangesOf (mesh_seen c.args.self.now) (mesh_seen z) z.changes)
    (sym c.self-2.view_is) c.frame_anew-told.ensures.changes
