use Rattle.std.proofs.Common.{◌≡◌, ◌<◌, length, sym, ◌∙◌, ap, subst, arith, slice_index_or, true}
use Rattle.std.proofs.lemmas.List.{get_or_read}
use Rattle.roam_mesh.specs.Parts.{PartsState, blank, is_ready_at}
use Rattle.roam_mesh.proofs.PlaceLemmas.{live_below}
use Rattle.roam_mesh.proofs.RoleLemmas.{ready_live}
use Rattle.roam_mesh.proofs.PlacedLemmas.{mate_fresh}
use Rattle.roam_mesh.proofs.parts.Parts.is_mate_fresh.Goals as goal

pub returns-in-Some : goal.returns-in-Some
returns-in-Some c =
    let ready : is_ready_at c.self.inside.pool.pairs c.in-Some.mate.0 ≡ true =
    subst (λ (q : PartsState). is_ready_at q.pool.pairs c.in-Some.mate.0 ≡ true)
    (sym c.self.view_is) c.in-Some.ensures.ready in
    let below = live_below c.self.inside.pool.pairs c.in-Some.mate.0
    (ready_live c.self.inside.pool.pairs c.in-Some.mate.0 ready) in
    let within : c.in-Some.mate.0 < length c.self.inside.entries.items =
    let long = c.self.invariant.0.entries in omega arith in
    mate_fresh c.args.self.now c.args.s.0 c.in-Some.mate.0 c.index.result.now
    c.in-Some.ensures.some c.in-Some.ensures.slot
    (get_or_read c.self.inside.entries.items c.in-Some.mate.0 c.index.result.now within c.index.ensures blank
    ∙ ap (λ (q : PartsState). slice_index_or q.entries c.in-Some.mate.0 blank) c.self.view_is)
