use Rattle.std.proofs.Common.{◌≡◌, ◌∙◌, ℕ, List, ap, ◌+◌, ◌*◌, subst, refl, arith}
use Rattle.mesh_laws.specs.Slots.{address_at, has_children}
use Rattle.triangle_pool.specs.Links.{IsAcross}
use Rattle.triangle_pool.proofs.SplitLemmas.{right_across}
use Rattle.triangle_pool.proofs.PoolLemmas.{node_at-read}
use Rattle.std.proofs.lemmas.Grind.{common_steps}
use Rattle.triangle_pool.proofs.nodes.Nodes.right.Goals as goal

pub returns : goal.returns
returns c =
    let pairs : List ℕ = c.self.inside.pairs.items in
    let e : pairs ≡ c.args.self.now.pairs = ap (λ p. p.pairs) c.self.view_is in
    let read = node_at-read _ pairs _ _ c.self.inside.nodes.items c.args.s c.index.result.now c.self.invariant e
    c.requires.live c.index.ensures in
    let link = right_across c.self.inside.n pairs c.self.inside.parents.items c.self.inside.nodes.items c.args.s
    (address_at pairs c.args.s) c.self.invariant.forest c.self.invariant.closed refl read.0
    (ap (λ t. has_children t (address_at t c.args.s)) e ∙ c.requires.leaf) in
    subst (λ t. IsAcross t (2 * address_at t c.args.s + 1) c.index.result.now.right) e
    (subst (λ t. IsAcross pairs (2 * address_at pairs c.args.s + 1) t.right) read.1 link)

pub index-requires : goal.index-requires
index-requires c = grind (arith, common_steps)
