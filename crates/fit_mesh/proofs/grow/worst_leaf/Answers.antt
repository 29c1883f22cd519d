-- It is the first leaf that waits.
use Rattle.std.proofs.Common.{ℕ, List, Option, None, Some, IfNone}
use Rattle.std.proofs.lemmas.Option.{IfSome_then}
use Rattle.std.specs.BinaryHeap.{heap_items}
use Rattle.fit_laws.specs.Error.{error_of}
use Rattle.fit_laws.proofs.ErrorLemmas.{error-finest}
use Rattle.fit_mesh.proofs.GrownLemmas.{none-worst, waiting-left, worst-leaf}
use Rattle.fit_mesh.proofs.grow.worst_leaf.Goals as goal

-- what follows where there is none
none_then : {P Q : Type 0} (o : Option (ℕ × ℕ)) → IfNone o P → (P → Q) → IfNone o Q
none_then None is follows = follows is
none_then (Some r) is follows = is

pub returns-clause-waiting : goal.returns-clause-waiting
returns-clause-waiting c =
    waiting-left c.args.grid.now.n (error_of c.args.grid.now.n c.args.grid.now.heights) c.args.flags.now c.args.log.now
    (heap_items c.args.heap.now) c.requires.grown c.requires.waiting (heap_items c.next_leaf.new.heap)
    c.next_leaf.ensures.ordered c.next_leaf.ensures.left c.next_leaf.ensures.only

pub returns-clause-none : goal.returns-clause-none
returns-clause-none c =
    none_then c.next_leaf.result c.next_leaf.ensures.none
    (none-worst c.args.grid.now.n (error_of c.args.grid.now.n c.args.grid.now.heights) c.args.flags.now c.args.log.now
    (heap_items c.next_leaf.new.heap) c.requires.grown (returns-clause-waiting c))

pub returns-clause-worst : goal.returns-clause-worst
returns-clause-worst c =
    let n : ℕ = c.args.grid.now.n in
    let heights : List ℕ = c.args.grid.now.heights in
    IfSome_then c.next_leaf.result c.next_leaf.ensures.first
    (λ r. worst-leaf n (error_of n heights) (error-finest n heights) c.args.flags.now c.args.log.now
    (heap_items c.next_leaf.new.heap) r c.requires.grown (returns-clause-waiting c))
