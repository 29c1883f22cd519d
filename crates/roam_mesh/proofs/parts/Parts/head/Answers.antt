use Rattle.std.proofs.Common.{◌≡◌, ◌*◌, ◌<◌, ◌≤◌, length, sym, subst}
use Rattle.roam_mesh.specs.Parts.{PartsState}
use Rattle.roam_mesh.specs.Change.{chief_slot}
use Rattle.mesh_laws.specs.Chief.{chief_of}
use Rattle.mesh_laws.specs.Slots.{address_at}
use Rattle.roam_mesh.proofs.PlaceLemmas.{live_below, one_slot}
use Rattle.roam_mesh.proofs.parts.Parts.head.Goals as goal

pub returns-clause-slot : goal.returns-clause-slot
returns-clause-slot c =
    subst (λ (q : PartsState). c.chief.result.0 ≡ chief_slot q.pool.pairs c.args.s.0) c.self.view_is
    (sym (one_slot c.self.inside.pool.n c.self.inside.pool.pairs c.chief.result.0
    (chief_of (address_at c.self.inside.pool.pairs c.args.s.0)) c.n-n.ensures.valid
    (subst (λ z. 2 ≤ z) c.chief.ensures.value c.chief.ensures.live) c.chief.ensures.value))

pub returns-clause-within : goal.returns-clause-within
returns-clause-within c =
    subst (λ (q : PartsState). c.chief.result.0 < 2 * length q.pool.pairs) c.self.view_is
    (live_below c.self.inside.pool.pairs c.chief.result.0 c.chief.ensures.live)
