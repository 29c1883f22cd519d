use Rattle.std.proofs.Common.{◌≡◌, ◌≢◌, ◌∙◌, ap, sym, subst, ◌/◌, ◌<◌, get_or, arith}
use Rattle.std.proofs.lemmas.List.{get_or_default}
use Rattle.mesh_laws.specs.Net.{nowhere}
use Rattle.mesh_laws.specs.Slots.{address_at, IsLive}
use Rattle.triangle_pool.proofs.MergeLemmas.{parent_link}
use Rattle.mesh_laws.proofs.SlotLemmas.{live_within}
use Rattle.std.proofs.lemmas.Grind.{common_steps}
use Rattle.triangle_pool.proofs.nodes.Nodes.parent.Goals as goal

pub returns-else-index-eq1 : goal.returns-else-index-eq1
returns-else-index-eq1 c =
    let e : c.self.inside.pairs.items ≡ c.args.self.now.pairs = ap (λ p. p.pairs) c.self.view_is in
    let forest = c.self.invariant.forest in
    let live : IsLive c.self.inside.pairs.items c.args.s = subst (λ t. IsLive t c.args.s) (sym e) c.requires.live in
    let within = live_within c.self.inside.pairs.items c.args.s live in
    let top : c.index.result.now ≡ get_or c.self.inside.pairs.items (c.args.s / 2) 0 =
    c.index.ensures ∙ get_or_default c.self.inside.pairs.items (c.args.s / 2) c.index.result.now 0 within in
    let read = parent_link c.self.inside.pairs.items c.self.inside.parents.items c.args.s
    c.index-else-index-eq1.result.now live forest.parent_count forest.sound.short forest.upward
    (λ one. c.if-index-eq1.false (top ∙ one)) c.index-else-index-eq1.ensures in
    record {
      none = subst (λ t. (c.index-else-index-eq1.result.now ≡ nowhere → address_at t c.args.s < 4)
          × (address_at t c.args.s < 4 → c.index-else-index-eq1.result.now ≡ nowhere)) e read.0;
      some = subst (λ t. c.index-else-index-eq1.result.now ≢ nowhere →
          address_at t c.index-else-index-eq1.result.now ≡ address_at t c.args.s / 2) e read.1;
    }

pub index-requires : goal.index-requires
index-requires c = grind (arith, common_steps)

pub index-requires-else-index-eq1 : goal.index-requires-else-index-eq1
index-requires-else-index-eq1 c = grind (arith, common_steps)
