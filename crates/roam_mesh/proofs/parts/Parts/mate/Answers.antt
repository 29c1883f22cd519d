use Rattle.std.proofs.Common.{◌≡◌, true, sym, subst, IfSome}
use Rattle.std.proofs.lemmas.Option.{IfSome_then}
use Rattle.mesh_laws.specs.Edge.{mate_of}
use Rattle.mesh_laws.specs.Slots.{address_at}
use Rattle.roam_mesh.specs.Mesh.{slot_of}
use Rattle.roam_mesh.specs.Parts.{PartsState, is_ready_at}
use Rattle.roam_mesh.proofs.PlacedLemmas.{mate_answered}
use Rattle.roam_mesh.proofs.parts.Parts.mate.Goals as goal

pub returns-clause-slot : goal.returns-clause-slot
returns-clause-slot c =
    let ready : is_ready_at c.self.inside.pool.pairs c.args.s.0 ≡ true =
    subst (λ (q : PartsState). is_ready_at q.pool.pairs c.args.s.0 ≡ true) (sym c.self.view_is) c.requires.ready in
    subst (λ (q : PartsState). IfSome c.partner.result
    (λ t. t.0 ≡ slot_of q.pool.pairs (mate_of (address_at q.pool.pairs c.args.s.0)))) c.self.view_is
    (IfSome_then c.partner.result
    (mate_answered c.self.inside.pool.n c.self.inside.pool.pairs c.args.s.0 c.partner.result c.n-n.ensures.valid ready
    c.partner.ensures.none.1 c.partner.ensures.some)
    (λ t both. both.0))

pub returns-clause-ready : goal.returns-clause-ready
returns-clause-ready c =
    let ready : is_ready_at c.self.inside.pool.pairs c.args.s.0 ≡ true =
    subst (λ (q : PartsState). is_ready_at q.pool.pairs c.args.s.0 ≡ true) (sym c.self.view_is) c.requires.ready in
    subst (λ (q : PartsState). IfSome c.partner.result (λ t. is_ready_at q.pool.pairs t.0 ≡ true)) c.self.view_is
    (IfSome_then c.partner.result
    (mate_answered c.self.inside.pool.n c.self.inside.pool.pairs c.args.s.0 c.partner.result c.n-n.ensures.valid ready
    c.partner.ensures.none.1 c.partner.ensures.some)
    (λ t both. both.1))
