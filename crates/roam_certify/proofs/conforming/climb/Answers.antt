-- One visit a turn.
use Rattle.std.proofs.Common.{◌≡◌, ◌-◌, IfSome, refl, ◌∙◌, subst, arith}
use Rattle.mesh_laws.specs.Sweep.{is_flagged, IsParentMarked}
use Rattle.mesh_laws.proofs.SweepLemmas.{splittable-lt}
use Rattle.roam_certify.specs.Climb.{IsClimbed}
use Rattle.roam_certify.proofs.ClimbLemmas.{climbed-first, climbed-mark, climbed-skip}
use Rattle.roam_certify.proofs.conforming.climb.Goals as goal

pub loop-number-init : goal.loop-number-init
loop-number-init c = record {
  room = refl;
  climbed = λ triangles addresses entered.
      climbed-first c.args.n triangles addresses (is_flagged c.args.flags.now) c.end-number.result entered
      (λ a s. let below = splittable-lt c.args.n a s in let value = c.end-number.ensures.value in omega arith);
}

pub loop-number-preserved-then-flags-number : goal.loop-number-preserved-then-flags-number
unfolding is_flagged
loop-number-preserved-then-flags-number c =
    let more = c.loop-number-test.true in
    let visited : c.unwrap.result ≡ c.loop-number.number - 1 =
    subst (λ o. IfSome o (λ t. t ≡ c.loop-number.number - 1)) c.unwrap.ensures c.at.ensures.value in
    record {
      room = c.flag_parent.ensures.room ∙ c.loop-number.invariant.room;
      climbed = λ triangles addresses entered. climbed-mark c.args.n triangles addresses
          (is_flagged c.loop-number.flags) (is_flagged c.flag_parent.new.flags) (c.loop-number.number - 1)
          (subst (λ k. IsClimbed triangles (is_flagged c.loop-number.flags) k) (omega arith)
          (c.loop-number.invariant.climbed triangles addresses entered))
          c.if-flags-number.true
          (subst (λ t. IsParentMarked t (is_flagged c.loop-number.flags) (is_flagged c.flag_parent.new.flags)) visited
          c.flag_parent.ensures.marked);
    }

pub loop-number-preserved : goal.loop-number-preserved
unfolding is_flagged
loop-number-preserved c =
    let more = c.loop-number-test.true in
    record {
      room = c.loop-number.invariant.room;
      climbed = λ triangles addresses entered.
          climbed-skip c.args.n triangles addresses (is_flagged c.loop-number.flags) (c.loop-number.number - 1)
          (subst (λ k. IsClimbed triangles (is_flagged c.loop-number.flags) k) (omega arith)
          (c.loop-number.invariant.climbed triangles addresses entered))
          c.if-flags-number.false;
    }

pub returns-clause-climbed : goal.returns-clause-climbed
returns-clause-climbed c triangles addresses entered =
    let done = c.loop-number-test.false in
    let is = c.loop-number.invariant.climbed triangles addresses entered in
    record { within = is.within; holds = is.holds; parent = λ a low h big. is.parent a (omega arith) h big }
