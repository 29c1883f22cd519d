use Rattle.std.proofs.Common.{◌≡◌, [], sym, subst, ap}
use Rattle.mesh_defs.specs.ClosedSet.{among}
use Rattle.mesh_laws.specs.Diamond.{CanMerge}
use Rattle.mesh_laws.specs.Slots.{address_at}
use Rattle.deferred_loop.specs.Seen.{IsMergeOf}
use Rattle.roam_mesh.specs.Mesh.{pool_members, pool_set}
use Rattle.roam_mesh.specs.Parts.{QueuedState, PartsState, seen_parts}
use Rattle.roam_mesh.proofs.HeadLemmas.{settled_fresh}
use Rattle.deferred_loop.specs.Log.{Log, IsLogged}
use Rattle.roam_mesh.proofs.LogLemmas.{merge_logged}
use Rattle.roam_mesh.proofs.MergeLaws.{can_slot}
use Rattle.roam_mesh.proofs.queued.QueuedPartsQueuedMesh.merge.Goals as goal

pub merge-requires-clause-settled : goal.merge-requires-clause-settled
merge-requires-clause-settled c =
    subst (λ (z : PartsState). z.fresh ≡ []) (sym (ap (λ (z : QueuedState). z.parts) c.self.view_is))
    (settled_fresh c.args.self.now.parts c.requires.settled)

pub merge-requires-clause-ready : goal.merge-requires-clause-ready
merge-requires-clause-ready c =
    let can = subst (λ (z : PartsState). CanMerge z.pool.n (among (pool_members z.pool)) c.args.t.tri)
    (sym (ap (λ (z : QueuedState). z.parts) c.self.view_is)) c.requires.can in
    let at = subst (λ (z : PartsState). address_at z.pool.pairs c.args.t.slot.0 ≡ c.args.t.tri)
    (sym (ap (λ (z : QueuedState). z.parts) c.self.view_is)) c.requires.at in
    can_slot c.self.inside.parts.pool c.args.t.tri c.args.t.slot.0 c.self.invariant.pool can at

pub returns-clause-merge : goal.returns-clause-merge
returns-clause-merge c =
    let at = subst (λ (z : PartsState). address_at z.pool.pairs c.args.t.slot.0 ≡ c.args.t.tri)
    (sym (ap (λ (z : QueuedState). z.parts) c.self.view_is)) c.requires.at in
    subst (λ (z : PartsState). IsMergeOf (seen_parts z) (seen_parts c.merge.new.self) c.args.t.tri)
    (ap (λ (z : QueuedState). z.parts) c.self.view_is)
    (subst (λ z. IsMergeOf (seen_parts c.self.inside.parts) (seen_parts c.merge.new.self) z) at c.merge.ensures.merge)

pub note_diamond-requires : goal.note_diamond-requires
note_diamond-requires c =
    let can = subst (λ (z : PartsState). CanMerge z.pool.n (among (pool_members z.pool)) c.args.t.tri)
    (sym (ap (λ (z : QueuedState). z.parts) c.self.view_is)) c.requires.can in
    let at = subst (λ (z : PartsState). address_at z.pool.pairs c.args.t.slot.0 ≡ c.args.t.tri)
    (sym (ap (λ (z : QueuedState). z.parts) c.self.view_is)) c.requires.at in
    record { ready = can_slot c.self.inside.parts.pool c.args.t.tri c.args.t.slot.0 c.self.invariant.pool can at }

pub returns-clause-log : goal.returns-clause-log
returns-clause-log c =
    let before = c.self.inside.parts.pool in
    subst (λ (z : QueuedState). IsLogged (pool_set z.parts.pool) (pool_set c.merge.new.self.pool) z.log
    c.note_diamond.new.self) c.self.view_is
    (subst (λ (z : Log). IsLogged (pool_set before) (pool_set c.merge.new.self.pool) c.self.inside.log z)
    (sym c.note_diamond.ensures)
    (merge_logged before c.merge.new.self.pool (address_at before.pairs c.args.t.slot.0) c.self.inside.log
    c.self.invariant.pool c.merge.ensures.parts.pool
    c.merge.ensures.pool c.merge.ensures.merge.splits c.merge.ensures.merges))
