use Rattle.std.proofs.Common.{◌≡◌, ◌/◌, nat_le, false, sym, subst}
use Rattle.std.proofs.lemmas.Bool.{and_right, false_from_ne_true, both_ways}
use Rattle.mesh_laws.specs.Slots.{address_at, IsMergeReady}
use Rattle.roam_mesh.specs.Mesh.{slot_of}
use Rattle.roam_mesh.specs.Parts.{PartsState, is_ready}
use Rattle.roam_mesh.specs.Places.{is_ready_above}
use Rattle.roam_mesh.proofs.PlaceLemmas.{one_slot}
use Rattle.roam_mesh.proofs.PlacedLemmas.{parent_low}
use Rattle.roam_mesh.proofs.RoleLemmas.{ready_parts}
use Rattle.roam_mesh.proofs.parts.Parts.above.Goals as goal

pub returns-then-merge_ready-clause-slot : goal.returns-then-merge_ready-clause-slot
returns-then-merge_ready-clause-slot c =
    subst (λ (q : PartsState). c.in_ok-above.above.0
    ≡ slot_of q.pool.pairs (address_at q.pool.pairs c.args.s.0 / 2)) c.self.view_is
    (sym (one_slot c.self.inside.pool.n c.self.inside.pool.pairs c.in_ok-above.above.0
    (address_at c.self.inside.pool.pairs c.args.s.0 / 2) c.n-n.ensures.valid
    (parent_low (address_at c.self.inside.pool.pairs c.args.s.0) c.in_ok-above.ensures.none.1)
    c.in_ok-above.ensures.some))

pub returns-else-merge_ready-clause-none : goal.returns-else-merge_ready-clause-none
returns-else-merge_ready-clause-none c = λ _.
    subst (λ (q : PartsState). is_ready_above q.pool.pairs c.args.s.0 ≡ false) c.self.view_is
    (and_right (nat_le 4 (address_at c.self.inside.pool.pairs c.args.s.0))
    (is_ready c.self.inside.pool.pairs (address_at c.self.inside.pool.pairs c.args.s.0 / 2))
    (false_from_ne_true (is_ready c.self.inside.pool.pairs (address_at c.self.inside.pool.pairs c.args.s.0 / 2))
    (λ ready. both_ways c.merge_ready.result c.if-merge_ready.false (c.merge_ready.ensures.1
    (subst (λ z. IsMergeReady c.self.inside.pool.pairs z) (sym c.in_ok-above.ensures.some)
    (ready_parts c.self.inside.pool.pairs (address_at c.self.inside.pool.pairs c.args.s.0 / 2) ready))))))
