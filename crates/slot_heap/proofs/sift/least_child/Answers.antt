use Rattle.std.proofs.Common.{◌≡◌, ◌<◌, length, sym, ap, ◌∙◌, refl, arith}
use Rattle.std.proofs.lemmas.List.{get_or_read}
use Rattle.slot_heap.specs.Order.{key_at}
use Rattle.slot_heap.proofs.CaseLemmas.{by_equality}
use Rattle.slot_heap.proofs.OrderLemmas.{IsUpTo-along, IsUpTo-trans, IsUpTo-itself, IsUpTo-from_less, IsUpTo-from_not_less}
use Rattle.slot_heap.proofs.sift.least_child.Goals as goal
use Rattle.slot_heap.proofs.sift.least_child.Goals.{then-is_less, else-is_less}

pub loop-i-preserved : goal.loop-i-preserved
loop-i-preserved g c =
    let o = g.met.K.Ord.total in
    let l = c.loop-i in
    let es = c.args.entries.now.items in
    let x = c.read.result in
    let y = c.read-in-loop-i.result in
    let within : l.i < length es = omega (arith, c.loop-i-test.true, c.min.ensures, c.len-len.ensures, c.requires) in
    let is_x : (d : _) → key_at es l.i d ≡ x.key =
    λ d. ap (λ z. z.key) (sym (get_or_read es l.i x within c.read.ensures d)) in
    let is_y : (d : _) → key_at es l.least d ≡ y.key =
    λ d. ap (λ z. z.key) (sym (get_or_read es l.least y (omega (arith, within, l.invariant.to)) c.read-in-loop-i.ensures d)) in
    elim c.if-is_less.branch [
      | then-is_less w ↦ rw w.least-is (record {
        from = omega (arith, l.invariant.from, l.invariant.to);
        to = omega arith;
        inside = omega (arith, c.loop-i-test.true);
        none = λ k d lo hi. by_equality k l.i
            (λ e. IsUpTo-along o _ _ _ _ refl (ap (λ j. key_at es j d) e) (IsUpTo-itself o (key_at es l.i d)))
            (λ u. IsUpTo-trans o _ _ _
            (IsUpTo-along o _ _ _ _ (is_x d) (is_y d) (IsUpTo-from_less o x.key y.key (sym w.if-is_less.ensures)))
            (l.invariant.none k d lo (omega (arith, hi, u))));
      })
      | else-is_less w ↦ rw w.least-is (record {
        from = l.invariant.from;
        to = omega (arith, l.invariant.to);
        inside = l.invariant.inside;
        none = λ k d lo hi. by_equality k l.i
            (λ e. IsUpTo-along o _ _ _ _ (is_y d) (ap (λ j. key_at es j d) e ∙ is_x d)
            (IsUpTo-from_not_less o x.key y.key (sym w.if-is_less.ensures)))
            (λ u. l.invariant.none k d lo (omega (arith, hi, u)));
      })
    ]
