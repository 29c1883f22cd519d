-- One address a turn.
use Rattle.std.proofs.Common.{◌≡◌, ◌+◌, IfSome, IsTrue, sym, subst}
use Rattle.mesh_defs.specs.Triangle.{IsSplittable, IsMate}
use Rattle.mesh_laws.specs.Sweep.{is_flagged}
use Rattle.roam_certify.specs.Climb.{IsCountedBelow}
use Rattle.roam_certify.proofs.ClimbLemmas.{counted-first, counted-more, counted-skip}
use Rattle.roam_certify.proofs.conforming.count_splits.Goals.{then-flags-number+else-not-has_mate, else-flags-number}
use Rattle.roam_certify.proofs.conforming.count_splits.Goals as goal

pub loop-number-init : goal.loop-number-init
loop-number-init c = counted-first c.args.n (is_flagged c.args.flags.now) (λ a h. (c.requires.splittable a h).low)

pub has_mate-requires-clause-splittable : goal.has_mate-requires-clause-splittable
unfolding is_flagged
has_mate-requires-clause-splittable c =
    let visited : c.unwrap.result ≡ c.loop-number.number =
    subst (λ o. IfSome o (λ t. t ≡ c.loop-number.number)) c.unwrap.ensures c.at.ensures.value in
    subst (λ t. IsSplittable c.args.n t) (sym visited)
    (c.requires.splittable c.loop-number.number c.if-flags-number.true)

pub returns-then-not-has_mate-clause-none : goal.returns-then-not-has_mate-clause-none
unfolding is_flagged
returns-then-not-has_mate-clause-none c =
    let visited : c.unwrap.result ≡ c.loop-number.number =
    subst (λ o. IfSome o (λ t. t ≡ c.loop-number.number)) c.unwrap.ensures c.at.ensures.value in
    let lacks = c.has_mate.ensures.lacks c.if-not-has_mate.true in (
      c.unwrap.result,
      lacks.0,
      subst (λ t. IsTrue (is_flagged c.args.flags.now t)) (sym visited) c.if-flags-number.true,
      lacks.1,
      lacks.2,
    )

pub loop-number-preserved : goal.loop-number-preserved
unfolding is_flagged
loop-number-preserved c = elim c.if-flags-number.branch [
  | then-flags-number+else-not-has_mate w ↦
      let visited : w.unwrap.result ≡ c.loop-number.number =
      subst (λ o. IfSome o (λ t. t ≡ c.loop-number.number)) w.unwrap.ensures w.at.ensures.value in
      subst (λ z. IsCountedBelow c.args.n (is_flagged c.args.flags.now) (c.loop-number.number + 1) z) (sym w.count-is)
      (counted-more c.args.n (is_flagged c.args.flags.now) c.loop-number.number c.loop-number.count
      c.loop-number.invariant w.if-flags-number.true
      (λ b m. w.has_mate.ensures.mate w.if-not-has_mate.false b (subst (λ t. IsMate c.args.n t b) (sym visited) m)))
  | else-flags-number w ↦
      subst (λ z. IsCountedBelow c.args.n (is_flagged c.args.flags.now) (c.loop-number.number + 1) z) (sym w.count-is)
      (counted-skip c.args.n (is_flagged c.args.flags.now) c.loop-number.number c.loop-number.count
      c.loop-number.invariant w.if-flags-number.false)
]
