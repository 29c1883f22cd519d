use Rattle.std.proofs.Common.{◌≡◌, ℕ, ◌+◌, List, sym, subst}
use Rattle.mesh_defs.specs.ClosedSet.{among}
use Rattle.mesh_defs.specs.GridSet.{IsGridSet}
use Rattle.mesh_defs.specs.Falling.{IsFalling}
use Rattle.mesh_laws.specs.Frame.{IsFrame}
use Rattle.mesh_laws.specs.Stamps.{StampsHold}
use Rattle.mesh_laws.proofs.RunLemmas.{run_set}
use Rattle.mesh_laws.proofs.FrameRunLemmas.{merge_spares}
use Rattle.deferred_loop.specs.Promise.{IsAtMost, IsAtLeast, AreStampsGood}
use Rattle.roam_mesh.specs.Mesh.{MeshState, stamp_of, pool_members, seen_of}
use Rattle.roam_mesh.specs.Chosen.{SparesChosen}
use Rattle.mesh_laws.specs.Slots.{IsPool}
use Rattle.roam_mesh.specs.Parts.{QueuedState, mesh_of}
use Rattle.mesh_laws.proofs.SlotLemmas.{split_list-closed}
use Rattle.roam_mesh.proofs.MeshLemmas.{stamps_hold, at_most, at_least, stamps_good}
use Rattle.roam_mesh.proofs.mesh.Mesh.advance.Goals as goal

-- a frame comes through closed sets, and from such a set no merge is of a diamond that holds a chosen triangle
spared : (n budget : ℕ) (priority : ℕ → ℕ) (start last : List ℕ) → IsGridSet n start → IsFalling n priority →
    SparesChosen n budget priority start last
spared n budget priority start last set falls ranking chosen ranked closure before after added removed reached =
    merge_spares n budget priority ranking chosen (among last) before after ranked falls closure
    (run_set n budget priority start before added removed set reached)

-- the mesh is seen as the parts that a reference to them leads to
seen_behind : (behind held : QueuedState) (mesh : MeshState) → behind ≡ held → mesh_of held.parts held.log ≡ mesh →
    mesh_of behind.parts behind.log ≡ mesh
seen_behind behind held mesh same seen = subst (λ (q : QueuedState). mesh_of q.parts q.log ≡ mesh) (sym same) seen

pub advance-steps-requires-clause-stamps : goal.advance-steps-requires-clause-stamps
advance-steps-requires-clause-stamps g c =
    stamps_hold (g.G.Gauge.priorities c.args.gauge.now).of c.args.odometer c.deref_mut.result.now.parts
    c.deref_mut.result.now.log
    (subst (λ (z : MeshState). StampsHold (g.G.Gauge.priorities c.args.gauge.now).of c.args.odometer (stamp_of z))
    (sym (seen_behind _ _ _ c.deref_mut.ensures.value c.self.view_is)) c.requires.stamps)

pub advance-steps-requires-clause-valid : goal.advance-steps-requires-clause-valid
advance-steps-requires-clause-valid g c =
    split_list-closed c.deref_mut.result.now.parts.pool.n c.deref_mut.result.now.parts.pool.pairs
    (subst (λ (z : MeshState). IsPool z.pool.n z.pool.pairs)
    (sym (seen_behind _ _ _ c.deref_mut.ensures.value c.self.view_is))
    c.pool-before.ensures.valid)

pub returns-clause-most : goal.returns-clause-most
returns-clause-most g c =
    subst (λ (z : MeshState). IsAtMost (g.G.Gauge.priorities c.args.gauge.now)
    (g.G.Gauge.readings c.args.gauge.now) c.args.odometer
    (seen_of z) c.args.budget
    (c.advance-steps.result.splits + c.advance-steps.result.merges) (g.G.Gauge.count c.args.gauge.now)
    (g.G.Gauge.count c.advance-steps.new.gauge)) (seen_behind _ _ _ c.deref_mut.ensures.value c.self.view_is)
    (at_most (g.G.Gauge.priorities c.args.gauge.now) (g.G.Gauge.readings c.args.gauge.now) c.args.odometer
    c.deref_mut.result.now.parts c.deref_mut.result.now.log c.args.budget
    (c.advance-steps.result.splits + c.advance-steps.result.merges) (g.G.Gauge.count c.args.gauge.now)
    (g.G.Gauge.count c.advance-steps.new.gauge) c.advance-steps.ensures.most)

pub returns-clause-least : goal.returns-clause-least
returns-clause-least g c =
    subst (λ (z : MeshState). IsAtLeast (seen_of z)
    (seen_of (mesh_of c.advance-steps.new.mesh.parts c.advance-steps.new.mesh.log))
    (g.G.Gauge.count c.args.gauge.now) (g.G.Gauge.count c.advance-steps.new.gauge))
    (seen_behind _ _ _ c.deref_mut.ensures.value c.self.view_is)
    (at_least c.deref_mut.result.now.parts c.advance-steps.new.mesh.parts c.deref_mut.result.now.log
    c.advance-steps.new.mesh.log (g.G.Gauge.count c.args.gauge.now) (g.G.Gauge.count c.advance-steps.new.gauge)
    c.advance-steps.ensures.least)

pub returns-clause-stamps : goal.returns-clause-stamps
returns-clause-stamps g c =
    subst (λ (z : MeshState). AreStampsGood (g.G.Gauge.readings c.args.gauge.now) c.args.odometer (seen_of z)
    (seen_of (mesh_of c.advance-steps.new.mesh.parts c.advance-steps.new.mesh.log)))
    (seen_behind _ _ _ c.deref_mut.ensures.value c.self.view_is)
    (stamps_good (g.G.Gauge.readings c.args.gauge.now) c.args.odometer c.deref_mut.result.now.parts
    c.advance-steps.new.mesh.parts c.deref_mut.result.now.log c.advance-steps.new.mesh.log
    c.advance-steps.ensures.stamps)

pub returns-clause-unblocked : goal.returns-clause-unblocked
returns-clause-unblocked g c =
    let priorities = g.G.Gauge.priorities c.args.gauge.now in
    let steps = c.advance-steps.result in
    c.frame_laws.ensures.unblocked c.args.self.now.pool.n c.args.budget priorities.of
    (among (pool_members (mesh_of c.advance-steps.new.mesh.parts c.advance-steps.new.mesh.log).pool)) steps.worst
    steps.blocked
    (subst (λ (z : MeshState). IsFrame z.pool.n c.args.budget priorities.of
    (among (pool_members (mesh_of c.advance-steps.new.mesh.parts c.advance-steps.new.mesh.log).pool)) steps.worst
    steps.blocked)
    (seen_behind _ _ _ c.deref_mut.ensures.value c.self.view_is) c.advance-steps.ensures.frame)
    (subst (λ n. IsFalling n priorities.of) c.requires.grid c.requires.falls) c.requires.budget

pub returns-clause-spares : goal.returns-clause-spares
returns-clause-spares g c =
    let priorities = g.G.Gauge.priorities c.args.gauge.now in
    spared c.args.self.now.pool.n c.args.budget priorities.of (pool_members c.args.self.now.pool)
    (pool_members (mesh_of c.advance-steps.new.mesh.parts c.advance-steps.new.mesh.log).pool)
    (split_list-closed c.args.self.now.pool.n c.args.self.now.pool.pairs c.pool-before.ensures.valid)
    (subst (λ n. IsFalling n priorities.of) c.requires.grid c.requires.falls)
