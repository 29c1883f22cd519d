use Rattle.std.proofs.Common.{ℕ, sym, subst, List}
use Rattle.mesh_defs.specs.ClosedSet.{IsClosed}
use Rattle.mesh_laws.specs.Slots.{address_at, split_set}
use Rattle.triangle_pool.proofs.JoinLemmas.{left_child, right_child, closed_alone}
use Rattle.triangle_pool.proofs.links.merge_border.Goals as goal

pub join-requires-clause-left : goal.join-requires-clause-left
join-requires-clause-left c =
    left_child c.args.n c.args.pairs.now c.args.parents.now c.args.nodes.now c.args.s c.args.k
    (address_at c.args.pairs.now c.args.s) c.requires.forest c.requires.closed c.requires.may_merge

pub join-requires-clause-right : goal.join-requires-clause-right
join-requires-clause-right c =
    right_child c.args.n c.args.pairs.now c.args.parents.now c.args.nodes.now c.args.s c.args.k
    (address_at c.args.pairs.now c.args.s) c.requires.forest c.requires.closed c.requires.may_merge

pub returns-clause-closed : goal.returns-clause-closed
returns-clause-closed c =
    let P : List ℕ → Type 0 = λ x. IsClosed c.args.n (split_set x) in
    subst P (sym c.join.ensures.pairs)
    (closed_alone c.args.n c.args.pairs.now c.args.parents.now c.args.nodes.now c.args.s c.args.k
    (address_at c.args.pairs.now c.args.s) c.requires.forest c.requires.closed
    c.requires.may_merge c.requires.border)
