use Rattle.std.proofs.Common.{◌≡◌, ℕ, true, sym, ◌∙◌, subst, ⊎_elim, arith}
use Rattle.std.proofs.lemmas.Bool.{both_ways}
use Rattle.std.specs.BinaryHeap.{heap_items}
use Rattle.mesh_laws.specs.Sweep.{is_flagged}
use Rattle.fit_mesh.proofs.HeapLemmas.{first-same}
use Rattle.fit_mesh.proofs.leaves.next_leaf.Goals as goal

pub loop-first-preserved : goal.loop-first-preserved
loop-first-preserved c = record {
  capacity = c.drop_first.ensures.capacity ∙ c.loop-first.invariant.capacity;
  len = (let less = c.drop_first.ensures.len in let le = c.loop-first.invariant.len in omega arith);
  ordered = c.drop_first.ensures.ordered;
  left = λ r h leaf.
      let there = c.loop-first.invariant.left r h leaf in
      ⊎_elim
      (λ top.
      let same = first-same (heap_items c.loop-first.heap) r c.in-Some.first.now there top c.in-Some.ensures.lookup in
      absurd (both_ways (is_flagged c.args.flags.now r.1) leaf
      (subst (λ (z : ℕ × ℕ). is_flagged c.args.flags.now z.1 ≡ true) (sym same)
      (sym c.is_split.ensures ∙ c.if-not-is_split.false))))
      (λ rest. rest)
      (c.drop_first.ensures.rest r there);
  only = λ r h. c.loop-first.invariant.only r (c.drop_first.ensures.only r h);
}
