use Rattle.std.proofs.Common.{◌≡◌, ◌<◌, length, sym, ◌∙◌, ap, subst, arith}
use Rattle.std.proofs.lemmas.List.{get_or_read}
use Rattle.mesh_laws.specs.Slots.{address_at, IsLive}
use Rattle.roam_mesh.specs.contracts.parts.Parts.{the_view}
use Rattle.roam_mesh.specs.Parts.{PartsState, merging_key, worst_rank, blank}
use Rattle.roam_mesh.proofs.PlaceLemmas.{live_below}
use Rattle.roam_mesh.proofs.PlacedLemmas.{worst_read}
use Rattle.roam_mesh.proofs.parts.Parts.worst_rank.Goals as goal

pub returns : goal.returns
returns c =
    let live : IsLive c.self.inside.pool.pairs c.args.s.0 =
    subst (λ (q : PartsState). IsLive q.pool.pairs c.args.s.0) (sym c.self.view_is) c.requires.live in
    let within : c.args.s.0 < length c.self.inside.entries.items = let below =
    live_below c.self.inside.pool.pairs c.args.s.0 live in let long = c.self.invariant.0.entries in omega arith in
    subst (λ (q : PartsState). record { p = c.worst.result; tri = c.tri.result }
    ≡ worst_rank q (address_at q.pool.pairs c.args.s.0)) c.self.view_is
    (worst_read (the_view c.self.inside) c.args.s.0 c.worst.result c.tri.result c.tri.ensures.valid live
    (c.worst.ensures ∙ ap merging_key (get_or_read c.self.inside.entries.items c.args.s.0 c.index.result.now within
    c.index.ensures blank)) c.tri.ensures.value)
