use Rattle.std.proofs.Common.{◌∙◌, ap, subst}
use Rattle.roam_mesh.specs.Mesh.{OnlyEntriesStamped}
use Rattle.roam_mesh.specs.Parts.{QueuedState, mesh_of}
use Rattle.roam_mesh.proofs.MeshLemmas.{placed_only}
use Rattle.roam_mesh.proofs.mesh.Mesh.pool.Goals as goal

pub returns-clause-only : goal.returns-clause-only
returns-clause-only c = subst OnlyEntriesStamped
    (ap (λ (q : QueuedState). mesh_of q.parts q.log) (c.queued.view_is ∙ c.deref-queued.ensures) ∙ c.self.view_is)
    (placed_only c.queued.inside.parts c.queued.inside.log c.queued.invariant)
