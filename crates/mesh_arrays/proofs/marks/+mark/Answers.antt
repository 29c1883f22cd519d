use Rattle.std.proofs.Common.{◌-◌, refl, ◌∙◌, sym, subst, arith}
use Rattle.mesh_arrays.specs.Walk.{IsPathMarked}
use Rattle.mesh_arrays.proofs.SlotLemmas.{half_slot}
use Rattle.mesh_arrays.proofs.MarkLemmas.{marked_half, marked_absent, marked_by, not_live, deep_by}
use Rattle.mesh_arrays.proofs.marks.+mark.Goals as goal

pub returns-in-None-clause-marked : goal.returns-in-None-clause-marked
returns-in-None-clause-marked t c =
    let pairs = c.args.pool.now.pairs in
    let half = c.in-None.ensures.base.0 refl in
    let is = half_slot pairs c.args.t (c.number.result - 2) c.requires.root (omega arith) half (omega arith) in
    rw c.mark_slot.ensures (marked_half c.args.pool.now.n pairs c.args.t
    (c.number.result - 2) c.args.walk.now.touched c.n-n.ensures.valid half (omega arith) is)

pub returns-in-None-mark-clause-absent : goal.returns-in-None-mark-clause-absent
returns-in-None-mark-clause-absent t c none =
    not_live c.args.pool.now.n c.args.pool.now.pairs c.args.t c.n-n.ensures.valid
    (deep_by c.args.t c.in-Some.ensures.base.1)
    (λ r is. c.in-None-mark.ensures.absent refl r (is ∙ sym c.in-Some.ensures.half))

pub returns-in-None-mark-clause-marked : goal.returns-in-None-mark-clause-marked
returns-in-None-mark-clause-marked t c =
    let pairs = c.args.pool.now.pairs in
    marked_absent pairs c.args.t c.args.walk.now.touched c.mark.new.walk.touched
    (not_live c.args.pool.now.n pairs c.args.t c.n-n.ensures.valid (deep_by c.args.t c.in-Some.ensures.base.1)
    (λ r is. c.in-None-mark.ensures.absent refl r (is ∙ sym c.in-Some.ensures.half)))
    (subst (λ k. IsPathMarked pairs k c.args.walk.now.touched c.mark.new.walk.touched)
    c.in-Some.ensures.half c.mark.ensures.marked)

pub returns-in-Some-mark-clause-marked : goal.returns-in-Some-mark-clause-marked
returns-in-Some-mark-clause-marked t c =
    let pairs = c.args.pool.now.pairs in
    marked_by c.args.pool.now.n pairs c.args.t c.args.walk.now c.mark.new.walk c.mark_child.new.walk
    c.mark_child.result c.n-n.ensures.valid
    (deep_by c.args.t c.in-Some.ensures.base.1)
    (subst (λ k. IsPathMarked pairs k c.args.walk.now.touched c.mark.new.walk.touched)
    c.in-Some.ensures.half c.mark.ensures.marked)
    c.mark_child.ensures.there c.mark_child.ensures.absent c.mark_child.ensures.unmarked
