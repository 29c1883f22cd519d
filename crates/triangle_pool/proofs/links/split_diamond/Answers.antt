use Rattle.std.proofs.Common.{◌≡◌, ◌∙◌, ap, ℕ, sym, subst, List, set}
use Rattle.mesh_defs.specs.ClosedSet.{IsClosed}
use Rattle.mesh_laws.specs.Edge.{mate_of}
use Rattle.mesh_laws.specs.Slots.{address_at, split_set}
use Rattle.triangle_pool.specs.Links.{IsForest}
use Rattle.triangle_pool.proofs.SplitLemmas.{ready_first, left_across, right_across, ready_second, left_second}
use Rattle.triangle_pool.proofs.SplitLemmas.{right_second, closed_two, second_address}
use Rattle.triangle_pool.proofs.links.split_diamond.Goals as goal

pub halve-requires-clause-ready : goal.halve-requires-clause-ready
halve-requires-clause-ready c =
    ready_first c.args.n c.args.pairs.now c.args.parents.now c.args.nodes.now c.args.s c.args.k
    (address_at c.args.pairs.now c.args.s) c.requires.forest c.requires.closed c.requires.may_split

pub halve-requires-clause-left : goal.halve-requires-clause-left
halve-requires-clause-left c =
    left_across c.args.n c.args.pairs.now c.args.parents.now c.args.nodes.now c.args.s
    (address_at c.args.pairs.now c.args.s) c.requires.forest c.requires.closed c.requires.may_split.address
    c.requires.may_split.low c.requires.may_split.leaf

pub halve-requires-clause-right : goal.halve-requires-clause-right
halve-requires-clause-right c =
    right_across c.args.n c.args.pairs.now c.args.parents.now c.args.nodes.now c.args.s
    (address_at c.args.pairs.now c.args.s) c.requires.forest c.requires.closed c.requires.may_split.address
    c.requires.may_split.low c.requires.may_split.leaf

pub halve-requires-2-clause-ready : goal.halve-requires-2-clause-ready
halve-requires-2-clause-ready c =
    let a : ℕ = address_at c.args.pairs.now c.args.s in
    let at : address_at (set c.args.pairs.now c.args.k a) c.args.t ≡ mate_of a = second_address c.args.n
    c.args.pairs.now c.args.s c.args.t c.args.k c.args.j a c.requires.may_split c.requires.second in
    rw (c.halve.ensures.pairs, at) (ready_second c.args.n c.args.pairs.now c.args.parents.now c.args.nodes.now c.args.s
    c.args.t c.args.k c.args.j a c.requires.forest c.requires.closed c.requires.may_split c.requires.second)

pub halve-requires-2-clause-left : goal.halve-requires-2-clause-left
halve-requires-2-clause-left c =
    let a : ℕ = address_at c.args.pairs.now c.args.s in
    let at : address_at (set c.args.pairs.now c.args.k a) c.args.t ≡ mate_of a = second_address c.args.n
    c.args.pairs.now c.args.s c.args.t c.args.k c.args.j a c.requires.may_split c.requires.second in
    let f : IsForest (set c.args.pairs.now c.args.k a) c.halve.new.parents c.halve.new.nodes =
    rw c.halve.ensures.pairs at c.halve.ensures.forest in
    rw (c.halve.ensures.pairs, at) (left_second c.args.n c.args.pairs.now c.args.parents.now c.halve.new.parents
    c.args.nodes.now c.halve.new.nodes c.args.s c.args.t c.args.k c.args.j a c.requires.forest c.requires.closed
    c.requires.may_split c.requires.second f)

pub halve-requires-2-clause-right : goal.halve-requires-2-clause-right
halve-requires-2-clause-right c =
    let a : ℕ = address_at c.args.pairs.now c.args.s in
    let at : address_at (set c.args.pairs.now c.args.k a) c.args.t ≡ mate_of a = second_address c.args.n
    c.args.pairs.now c.args.s c.args.t c.args.k c.args.j a c.requires.may_split c.requires.second in
    let f : IsForest (set c.args.pairs.now c.args.k a) c.halve.new.parents c.halve.new.nodes =
    rw c.halve.ensures.pairs at c.halve.ensures.forest in
    rw (c.halve.ensures.pairs, at) (right_second c.args.n c.args.pairs.now c.args.parents.now c.halve.new.parents
    c.args.nodes.now c.halve.new.nodes c.args.s c.args.t c.args.k c.args.j a c.requires.forest c.requires.closed
    c.requires.may_split c.requires.second f)

pub returns-clause-pairs : goal.returns-clause-pairs
returns-clause-pairs c =
    let a : ℕ = address_at c.args.pairs.now c.args.s in
    let at : address_at (set c.args.pairs.now c.args.k a) c.args.t ≡ mate_of a = second_address c.args.n
    c.args.pairs.now c.args.s c.args.t c.args.k c.args.j a c.requires.may_split c.requires.second in
    c.halve-2.ensures.pairs ∙ ap (λ x. set x c.args.j (address_at x c.args.t)) c.halve.ensures.pairs
    ∙ ap (λ x. set (set c.args.pairs.now c.args.k a) c.args.j x) at

pub returns-clause-closed : goal.returns-clause-closed
returns-clause-closed c =
    let a : ℕ = address_at c.args.pairs.now c.args.s in
    let at : address_at (set c.args.pairs.now c.args.k a) c.args.t ≡ mate_of a = second_address c.args.n
    c.args.pairs.now c.args.s c.args.t c.args.k c.args.j a c.requires.may_split c.requires.second in
    let is : c.halve-2.new.pairs ≡ set (set c.args.pairs.now c.args.k a) c.args.j (mate_of a) =
    c.halve-2.ensures.pairs ∙ ap (λ x. set x c.args.j (address_at x c.args.t)) c.halve.ensures.pairs
    ∙ ap (λ x. set (set c.args.pairs.now c.args.k a) c.args.j x) at in
    let P : List ℕ → Type 0 = λ x. IsClosed c.args.n (split_set x) in
    subst P (sym is) (closed_two c.args.n c.args.pairs.now c.args.parents.now c.args.nodes.now c.args.s c.args.t
    c.args.k c.args.j a c.requires.forest c.requires.closed c.requires.may_split c.requires.second)
