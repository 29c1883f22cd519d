use Rattle.std.proofs.Common.{◌≡◌, ℕ, List, ◌⊎◌, ap, ◌≤◌, subst}
use Rattle.mesh_laws.specs.Edge.{mate_of, owner}
use Rattle.mesh_laws.specs.Net.{nowhere}
use Rattle.mesh_laws.specs.Slots.{address_at, has_children}
use Rattle.triangle_pool.proofs.PoolLemmas.{node_at-read, base_across}
use Rattle.triangle_pool.proofs.nodes.Nodes.base.Goals as goal

pub returns-clause-base : goal.returns-clause-base
returns-clause-base c =
    let pairs : List ℕ = c.self.inside.pairs.items in
    let e : pairs ≡ c.args.self.now.pairs = ap (λ p. p.pairs) c.self.view_is in
    let read = node_at-read _ pairs _ _ c.self.inside.nodes.items c.args.s c.index.result.now c.self.invariant e
    c.requires.live c.index.ensures in
    subst (λ t. ((mate_of (address_at t c.args.s) ≡ 0) × (c.index.result.now.base ≡ nowhere))
    ⊎ ((1 ≤ mate_of (address_at t c.args.s))
    × (address_at t c.index.result.now.base ≡ owner (has_children t) (mate_of (address_at t c.args.s))))) e
    (subst (λ t. ((mate_of (address_at pairs c.args.s) ≡ 0) × (t.base ≡ nowhere))
    ⊎ ((1 ≤ mate_of (address_at pairs c.args.s))
    × (address_at pairs t.base ≡ owner (has_children pairs) (mate_of (address_at pairs c.args.s))))) read.1
    (base_across c.self.inside.n pairs c.self.inside.parents.items c.self.inside.nodes.items c.args.s
    c.self.invariant read.0))
