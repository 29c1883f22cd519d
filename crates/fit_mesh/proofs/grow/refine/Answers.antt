-- A turn marks the set, where its greatest error is below all before, or splits the worst leaf.
use Rattle.std.proofs.Common.{◌≡◌, ℕ, inr, List, length, drop, length-append, sym, ◌∙◌, ap, subst, arith}
use Rattle.std.specs.BinaryHeap.{heap_items}
use Rattle.mesh_laws.specs.Sweep.{is_flagged}
use Rattle.fit_laws.specs.Error.{error_of}
use Rattle.fit_mesh.specs.Waiting.{IsPending}
use Rattle.fit_mesh.proofs.GrownLemmas.{counted, best-mark, best-kept}
use Rattle.fit_mesh.proofs.PendingLemmas.{pending-init}
use Rattle.fit_mesh.proofs.grow.refine.Goals as goal

pub loop-low-preserved-in-None : goal.loop-low-preserved-in-None
loop-low-preserved-in-None c =
    let n : ℕ = c.args.grid.now.n in
    let i = c.loop-low.invariant in
    let above = c.loop-low-test.true in
    record {
      capacity = (let k = i.capacity in let same = c.worst_leaf.ensures.capacity in omega arith);
      len = (let k = i.len in let le = c.worst_leaf.ensures.len in omega arith);
      room = i.room;
      grown = i.grown;
      waiting = c.worst_leaf.ensures.waiting;
      needed = λ k less. absurd (omega arith);
      best = best-mark n (error_of n c.args.grid.now.heights) c.args.tolerance c.args.budget c.loop-low.low 0
          c.loop-low.flags c.loop-low.log.items c.len-mark-in-None.result
          (let e = c.len-mark-in-None.ensures in omega arith) i.grown i.needed
          (omega arith) above c.in-None.ensures.none (let few = i.few in omega arith);
      few = i.few;
    }

pub loop-low-preserved-then-error-low : goal.loop-low-preserved-then-error-low
loop-low-preserved-then-error-low c =
    let n : ℕ = c.args.grid.now.n in
    let i = c.loop-low.invariant in
    let above = c.loop-low-test.true in
    let less = c.if-error-low.true in
    record {
      capacity = (let k = i.capacity in let same = c.worst_leaf.ensures.capacity in omega arith);
      len = (let k = i.len in let le = c.worst_leaf.ensures.len in omega arith);
      room = i.room;
      grown = i.grown;
      waiting = c.worst_leaf.ensures.waiting;
      needed = λ k below. i.needed k (omega arith);
      best = best-mark n (error_of n c.args.grid.now.heights) c.args.tolerance c.args.budget c.loop-low.low
          c.in-Some.error c.loop-low.flags c.loop-low.log.items c.len-mark-then-error-low.result
          (let e = c.len-mark-then-error-low.ensures in omega arith) i.grown i.needed less above
          c.in-Some.ensures.worst.worst (let few = i.few in omega arith);
      few = i.few;
    }

pub split_leaf-requires-clause-splittable : goal.split_leaf-requires-clause-splittable
split_leaf-requires-clause-splittable c = c.in-Some.ensures.worst.splittable

pub split_leaf-requires-clause-leaf : goal.split_leaf-requires-clause-leaf
split_leaf-requires-clause-leaf c = c.in-Some.ensures.worst.leaf

pub returns-then-len-budget-clause-end : goal.returns-then-len-budget-clause-end
returns-then-len-budget-clause-end c =
    let n : ℕ = c.args.grid.now.n in
    let value = c.in-Some.ensures.worst.value in
    let no_less = c.if-error-low.false in
    let leaves = counted n c.split_leaf.new.flags c.split_leaf.new.log.items c.split_leaf.ensures.grown in
    let more = c.if-len-budget.true in
    let some = c.requires.some in
    inr (c.split_leaf.ensures.needed c.loop-low.low (omega arith) c.loop-low.invariant.needed, omega arith)

pub push_children-requires-clause-pending : goal.push_children-requires-clause-pending
push_children-requires-clause-pending c =
    let before : c.len-before.result ≡ length c.loop-low.log.items = (let e = c.len-before.ensures in omega arith) in
    let n : ℕ = c.args.grid.now.n in
    let p : ℕ → ℕ = error_of n c.args.grid.now.heights in
    let i = c.loop-low.invariant in
    let next : List ℕ = c.split_leaf.new.log.items in
    subst (λ (l : List ℕ). IsPending n p (is_flagged c.split_leaf.new.flags) (drop c.len-before.result l)
    (heap_items c.worst_leaf.new.heap)) (sym c.deref-else-error-low.ensures.value)
    (subst (λ m. IsPending n p (is_flagged c.split_leaf.new.flags) (drop m next) (heap_items c.worst_leaf.new.heap))
    (sym before)
    (pending-init n p c.loop-low.flags c.split_leaf.new.flags c.loop-low.log.items next c.in-Some.number
    (heap_items c.worst_leaf.new.heap) i.grown.closed i.grown.logged c.split_leaf.ensures.grown.logged
    c.split_leaf.ensures.kept c.split_leaf.ensures.least c.worst_leaf.ensures.waiting))

pub loop-low-preserved : goal.loop-low-preserved
loop-low-preserved c =
    let n : ℕ = c.args.grid.now.n in
    let i = c.loop-low.invariant in
    let value = c.in-Some.ensures.worst.value in
    let no_less = c.if-error-low.false in
    let fits = c.if-len-budget.false in
    let some = c.requires.some in
    record {
      capacity = (let k = i.capacity in let same = c.worst_leaf.ensures.capacity in
          let rest = c.push_children.ensures.capacity in omega arith);
      len = (let k = i.len in let le = c.worst_leaf.ensures.len in let two = c.push_children.ensures.len in
          let more = ap (λ (l : List ℕ). length l) c.split_leaf.ensures.kept.1 in
          let sum = length-append c.loop-low.log.items c.split_leaf.ensures.kept.0 in
          omega arith);
      room = c.split_leaf.ensures.capacity ∙ i.room;
      grown = c.split_leaf.ensures.grown;
      waiting = c.push_children.ensures.waiting;
      needed = c.split_leaf.ensures.needed c.loop-low.low (omega arith) i.needed;
      best = best-kept n (error_of n c.args.grid.now.heights) c.args.tolerance c.args.budget c.loop-low.low
          c.loop-low.log.items c.split_leaf.new.log.items c.loop-low.mark c.split_leaf.ensures.kept i.best;
      few = omega arith;
    }
