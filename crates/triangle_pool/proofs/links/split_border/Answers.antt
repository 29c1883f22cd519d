use Rattle.std.proofs.Common.{ℕ, sym, subst, List}
use Rattle.mesh_defs.specs.ClosedSet.{IsClosed}
use Rattle.mesh_laws.specs.Slots.{address_at, split_set}
use Rattle.triangle_pool.proofs.SplitLemmas.{ready_first, left_across, right_across, closed_one}
use Rattle.triangle_pool.proofs.links.split_border.Goals as goal

pub halve-requires-clause-ready : goal.halve-requires-clause-ready
halve-requires-clause-ready c =
    ready_first c.args.n c.args.pairs.now c.args.parents.now c.args.nodes.now c.args.s c.args.k
    (address_at c.args.pairs.now c.args.s) c.requires.forest c.requires.closed c.requires.may_split

pub halve-requires-clause-left : goal.halve-requires-clause-left
halve-requires-clause-left c =
    left_across c.args.n c.args.pairs.now c.args.parents.now c.args.nodes.now c.args.s
    (address_at c.args.pairs.now c.args.s) c.requires.forest c.requires.closed c.requires.may_split.address
    c.requires.may_split.low c.requires.may_split.leaf

pub halve-requires-clause-right : goal.halve-requires-clause-right
halve-requires-clause-right c =
    right_across c.args.n c.args.pairs.now c.args.parents.now c.args.nodes.now c.args.s
    (address_at c.args.pairs.now c.args.s) c.requires.forest c.requires.closed c.requires.may_split.address
    c.requires.may_split.low c.requires.may_split.leaf

pub returns-clause-closed : goal.returns-clause-closed
returns-clause-closed c =
    let P : List ℕ → Type 0 = λ x. IsClosed c.args.n (split_set x) in
    subst P (sym c.halve.ensures.pairs)
    (closed_one c.args.n c.args.pairs.now c.args.parents.now c.args.nodes.now c.args.s c.args.k
    (address_at c.args.pairs.now c.args.s) c.requires.forest c.requires.closed
    c.requires.may_split c.requires.border)
