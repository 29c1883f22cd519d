use Rattle.std.proofs.Common.{sym, ◌∙◌, ap, subst, length}
use Rattle.mesh_defs.specs.ClosedSet.{leaves_of}
use Rattle.mesh_laws.specs.Slots.{split_set}
use Rattle.roam_mesh.specs.Parts.{QueuedState, PartsState, IsParts}
use Rattle.mesh_laws.proofs.SlotLemmas.{leaves-split_list}
use Rattle.roam_mesh.proofs.queued.QueuedPartsQueuedMesh.leaf_count.Goals as goal

pub returns : goal.returns
returns c =
    let state = ap (λ z. z.parts) c.self-inside.view_is ∙ (ap (λ (z : QueuedState). z.parts) c.self.view_is) in
    let valid = subst IsParts (ap (λ (z : QueuedState). z.parts) c.self.view_is) c.self.invariant in
    c.leaf_count.ensures.leaves
    ∙ ap (λ (z : PartsState). length (leaves_of z.pool.n (split_set z.pool.pairs))) state
    ∙ sym (ap length (leaves-split_list c.args.self.now.parts.pool.n c.args.self.now.parts.pool.pairs valid.pool))
