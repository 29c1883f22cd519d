use Rattle.std.proofs.Common.{◌<◌, length, ◌∙◌, ap, arith}
use Rattle.std.proofs.lemmas.List.{get_or_read}
use Rattle.roam_mesh.specs.Parts.{PartsState, blank, entry_at}
use Rattle.roam_mesh.proofs.PlaceLemmas.{live_below}
use Rattle.roam_mesh.proofs.RoleLemmas.{ready_live}
use Rattle.roam_mesh.proofs.parts.Parts.kept_partner.Goals as goal

pub returns-in-Some-clause-own : goal.returns-in-Some-clause-own
returns-in-Some-clause-own c =
    let now = c.args.self.now in
    let t = c.in-Some.t.0 in
    let within : t < length c.self.inside.entries.items =
    let below = live_below now.pool.pairs t (ready_live now.pool.pairs t c.in-Some.ensures.ready) in
    let long = c.self.invariant.0.entries in
    let same = ap (λ (p : PartsState). length p.pool.pairs) c.self.view_is in
    omega arith in
    get_or_read c.self.inside.entries.items t c.index.result.now within c.index.ensures blank
    ∙ ap (λ (p : PartsState). entry_at p t) c.self.view_is ∙ ap (entry_at now) c.in-Some.ensures.slot
