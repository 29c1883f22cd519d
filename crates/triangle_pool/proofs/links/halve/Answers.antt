use Rattle.std.proofs.Common.{◌≡◌, ◌∙◌, sym, refl, ℕ, ◌+◌, ◌*◌, arith, set, subst}
use Rattle.mesh_laws.specs.Slots.{address_at}
use Rattle.triangle_pool.specs.Links.{IsForest}
use Rattle.triangle_pool.proofs.HalveLemmas.{mate_within, renewed_by, forest_halved}
use Rattle.mesh_laws.proofs.SlotLemmas.{live_within}
use Rattle.triangle_pool.proofs.links.halve.Goals as goal

pub far_child-requires-clause-small : goal.far_child-requires-clause-small
far_child-requires-clause-small c = λ given.
    let w = mate_within c.args.pairs.now c.args.s c.args.k
    (address_at c.args.pairs.now c.args.s) c.args.mate c.requires.ready given in
    let short = c.requires.forest.sound.short in omega arith

pub returns-clause-forest : goal.returns-clause-forest
returns-clause-forest c =
    let a : ℕ = address_at c.args.pairs.now c.args.s in
    let is : c.address-number.result ≡ a = c.address-number.ensures in
    let h = c.requires.forest.sound in
    let two = c.requires.ready.low in
    let r1 = rw is at c.relink.ensures.relinked in
    let r2 = rw is at c.relink-2.ensures.relinked in
    let renewed = renewed_by c.args.pairs.now c.args.nodes.now c.relink.new.nodes c.relink-2.new.nodes
    c.link_inner.new.nodes c.place.new.nodes
    c.args.s c.args.k a c.args.mate _ _ c.requires.ready r1 r2 c.link_inner.ensures.inner c.place.ensures
    refl refl refl c.far_child.ensures.none c.far_child.ensures.some
    refl refl c.far_child-2.ensures.none
    (λ g. c.far_child-2.ensures.some g ∙ (let z : 2 * c.args.mate + 0 ≡ 2 * c.args.mate = omega arith in z)) refl
    (c.place.auto.nodes ∙ c.link_inner.auto.nodes ∙ c.relink-2.auto.nodes ∙ c.relink.auto.nodes) in
    let P : ℕ → Type 0 =
    λ x. IsForest (set c.args.pairs.now c.args.k x) (set c.args.parents.now c.args.k c.args.s) c.place.new.nodes in
    subst P (sym is) (forest_halved c.args.pairs.now c.args.parents.now c.args.nodes.now c.place.new.nodes
    c.args.s c.args.k a c.args.mate
    c.requires.forest c.requires.ready (h.tree.live c.args.s two) renewed)

pub address-number-requires-clause-within : goal.address-number-requires-clause-within
address-number-requires-clause-within c = live_within c.args.pairs.now c.args.s c.requires.ready.low

pub slice_copy_out-node : goal.slice_copy_out-node
slice_copy_out-node c =
    let within = live_within c.args.pairs.now c.args.s c.requires.ready.low in
    let count = c.requires.forest.node_count in omega arith

pub place-requires-clause-own : goal.place-requires-clause-own
place-requires-clause-own c =
    let within = live_within c.args.pairs.now c.args.s c.requires.ready.low in
    let count = c.requires.forest.node_count in omega arith
