use Rattle.std.proofs.Common.{◌≡◌, ap, sym, subst}
use Rattle.mesh_laws.specs.Slots.{IsLive}
use Rattle.triangle_pool.proofs.MergeLemmas.{partner_live}
use Rattle.triangle_pool.proofs.pool.Pool.merge_ready.Goals as goal

pub has_two_leaves-requires-else-partner : goal.has_two_leaves-requires-else-partner
has_two_leaves-requires-else-partner c =
    let e : c.self.inside.nodes.pairs ≡ c.args.self.now.pairs = ap (λ p. p.pairs) c.self.view_is in
    let live : IsLive c.self.inside.nodes.pairs c.args.s.0 = subst (λ t. IsLive t c.args.s.0) (sym e) c.requires.live in
    record {
      live = (partner_live c.self.inside.nodes.pairs c.args.s.0 c.partner-partner.result live
          c.partner-partner.ensures.none.1 c.partner-partner.ensures.some c.if-partner.false).1;
    }
