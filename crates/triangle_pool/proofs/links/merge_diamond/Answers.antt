use Rattle.std.proofs.Common.{◌≡◌, ◌∙◌, ap, ℕ, ◌+◌, ◌*◌, sym, subst, List, set, arith}
use Rattle.mesh_defs.specs.ClosedSet.{IsClosed}
use Rattle.mesh_laws.specs.Edge.{mate_of}
use Rattle.mesh_laws.specs.Slots.{address_at, split_set}
use Rattle.triangle_pool.specs.Links.{IsForest, IsAcross, node_at}
use Rattle.triangle_pool.proofs.JoinLemmas.{left_child, right_child, closed_both, bare_second, leg_less}
use Rattle.triangle_pool.proofs.links.merge_diamond.Goals as goal

pub join-requires-clause-left : goal.join-requires-clause-left
join-requires-clause-left c =
    left_child c.args.n c.args.pairs.now c.args.parents.now c.args.nodes.now c.args.s c.args.k
    (address_at c.args.pairs.now c.args.s) c.requires.forest c.requires.closed c.requires.may_merge

pub join-requires-clause-right : goal.join-requires-clause-right
join-requires-clause-right c =
    right_child c.args.n c.args.pairs.now c.args.parents.now c.args.nodes.now c.args.s c.args.k
    (address_at c.args.pairs.now c.args.s) c.requires.forest c.requires.closed c.requires.may_merge

pub join-requires-2-clause-bare : goal.join-requires-2-clause-bare
join-requires-2-clause-bare c =
    let a : ℕ = address_at c.args.pairs.now c.args.s in
    let b = bare_second c.args.n c.args.pairs.now c.args.s c.args.t c.args.k c.args.j a c.requires.n c.requires.closed
    c.requires.forest.sound c.requires.may_merge c.requires.mate c.requires.second in
    rw (c.join.ensures.pairs, b.address) b

pub join-requires-2-clause-left : goal.join-requires-2-clause-left
join-requires-2-clause-left c =
    let a : ℕ = address_at c.args.pairs.now c.args.s in
    let b = bare_second c.args.n c.args.pairs.now c.args.s c.args.t c.args.k c.args.j a c.requires.n c.requires.closed
    c.requires.forest.sound c.requires.may_merge c.requires.mate c.requires.second in
    let f : IsForest (set c.args.pairs.now c.args.k 0) c.args.parents.now c.join.new.nodes =
    rw c.join.ensures.pairs at c.join.ensures.forest in
    let e : 2 * mate_of a + 0 ≡ 2 * mate_of a = omega arith in let d : 2 * c.args.j + 0 ≡ 2 * c.args.j = omega arith in
    let leg : IsAcross (set c.args.pairs.now c.args.k 0) (2 * mate_of a)
    (node_at c.join.new.nodes (2 * c.args.j)).base =
    rw (e, d) at (leg_less c.args.n c.args.pairs.now c.args.parents.now c.args.parents.now c.args.nodes.now
    c.join.new.nodes c.args.s c.args.t c.args.k c.args.j a 0
    (omega arith) c.requires.forest c.requires.closed c.requires.may_merge c.requires.mate c.requires.second f) in
    rw (c.join.ensures.pairs, b.address) leg

pub join-requires-2-clause-right : goal.join-requires-2-clause-right
join-requires-2-clause-right c =
    let a : ℕ = address_at c.args.pairs.now c.args.s in
    let b = bare_second c.args.n c.args.pairs.now c.args.s c.args.t c.args.k c.args.j a c.requires.n c.requires.closed
    c.requires.forest.sound c.requires.may_merge c.requires.mate c.requires.second in
    let f : IsForest (set c.args.pairs.now c.args.k 0) c.args.parents.now c.join.new.nodes =
    rw c.join.ensures.pairs at c.join.ensures.forest in
    rw (c.join.ensures.pairs, b.address) (leg_less c.args.n c.args.pairs.now c.args.parents.now c.args.parents.now
    c.args.nodes.now c.join.new.nodes c.args.s c.args.t c.args.k c.args.j a 1
    (omega arith) c.requires.forest c.requires.closed c.requires.may_merge c.requires.mate c.requires.second f)

pub returns-clause-closed : goal.returns-clause-closed
returns-clause-closed c =
    let is : c.join-2.new.pairs ≡ set (set c.args.pairs.now c.args.k 0) c.args.j 0 =
    c.join-2.ensures.pairs ∙ ap (λ x. set x c.args.j 0) c.join.ensures.pairs in
    let P : List ℕ → Type 0 = λ x. IsClosed c.args.n (split_set x) in
    subst P (sym is)
    (closed_both c.args.n c.args.pairs.now c.args.parents.now c.args.nodes.now c.args.s c.args.t c.args.k c.args.j
    (address_at c.args.pairs.now c.args.s) c.requires.forest c.requires.closed c.requires.may_merge
    c.requires.mate c.requires.second)
