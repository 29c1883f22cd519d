use Rattle.std.proofs.Common.{◌≡◌, ◌∙◌, ℕ, arith}
use Rattle.mesh_laws.specs.Slots.{address_at}
use Rattle.triangle_pool.proofs.JoinLemmas.{forest_joined}
use Rattle.mesh_laws.proofs.SlotLemmas.{live_within, pair_in}
use Rattle.triangle_pool.proofs.links.join.Goals as goal

pub returns-clause-forest : goal.returns-clause-forest
returns-clause-forest c =
    let a : ℕ = address_at c.args.pairs.now c.args.s in
    let is : c.address-number.result ≡ a = c.address-number.ensures in
    let r1 = rw is at c.relink.ensures.relinked in
    let r2 = rw is at c.relink-2.ensures.relinked in
    forest_joined c.args.pairs.now c.args.parents.now c.args.nodes.now c.relink.new.nodes c.relink-2.new.nodes
    c.close_node.new.nodes c.args.s c.args.k a
    c.requires.forest c.requires.bare r1 r2 c.close_node.ensures
    (c.close_node.auto.nodes ∙ c.relink-2.auto.nodes ∙ c.relink.auto.nodes)

pub address-number-requires-clause-within : goal.address-number-requires-clause-within
address-number-requires-clause-within c = live_within c.args.pairs.now c.args.s c.requires.bare.low

pub bounds-nodes-k : goal.bounds-nodes-k
bounds-nodes-k c =
    let within = pair_in c.args.pairs.now c.args.k
    (address_at c.args.pairs.now c.args.s) c.requires.bare.low c.requires.bare.pair in
    let count = c.requires.forest.node_count in omega arith

pub bounds-nodes-k-2 : goal.bounds-nodes-k-2
bounds-nodes-k-2 c =
    let within = pair_in c.args.pairs.now c.args.k
    (address_at c.args.pairs.now c.args.s) c.requires.bare.low c.requires.bare.pair in
    let count = c.requires.forest.node_count in omega arith

pub close_node-requires : goal.close_node-requires
close_node-requires c =
    let within = live_within c.args.pairs.now c.args.s c.requires.bare.low in
    let count = c.requires.forest.node_count in omega arith

pub bounds-pairs-k : goal.bounds-pairs-k
bounds-pairs-k c =
    pair_in c.args.pairs.now c.args.k (address_at c.args.pairs.now c.args.s) c.requires.bare.low c.requires.bare.pair
