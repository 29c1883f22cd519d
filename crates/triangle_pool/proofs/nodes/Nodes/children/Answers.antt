use Rattle.std.proofs.Common.{◌≡◌, ℕ, List, ap, subst, arith}
use Rattle.mesh_laws.specs.Slots.{address_at}
use Rattle.triangle_pool.specs.Links.{AreChildrenAt}
use Rattle.triangle_pool.proofs.PoolLemmas.{node_at-read}
use Rattle.std.proofs.lemmas.Grind.{common_steps}
use Rattle.triangle_pool.proofs.nodes.Nodes.children.Goals as goal

pub returns : goal.returns
returns c =
    let pairs : List ℕ = c.self.inside.pairs.items in
    let e : pairs ≡ c.args.self.now.pairs = ap (λ p. p.pairs) c.self.view_is in
    let read = node_at-read _ pairs _ _ c.self.inside.nodes.items c.args.s c.index.result.now c.self.invariant e
    c.requires.live c.index.ensures in
    subst (λ t. AreChildrenAt t (address_at t c.args.s) c.index.result.now.children) e
    (subst (λ t. AreChildrenAt pairs (address_at pairs c.args.s) t.children) read.1
    (c.self.invariant.forest.children c.args.s read.0))

pub index-requires : goal.index-requires
index-requires c = grind (arith, common_steps)
