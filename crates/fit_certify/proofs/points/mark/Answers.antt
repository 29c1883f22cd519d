-- One mark more a turn.
use Rattle.std.proofs.Common.{◌<◌, ◌∙◌, List, length, take, sym, subst, arith}
use Rattle.mesh_defs.specs.declared.point.Point.{Point}
use Rattle.fit_certify.specs.Keeping.{AreMarked}
use Rattle.fit_certify.proofs.KeepingLemmas.{points-next}
use Rattle.fit_certify.proofs.points.mark.Goals as goal

pub loop-point-preserved : goal.loop-point-preserved
loop-point-preserved c =
    let i = c.loop-point.point-index in
    let below : i < length c.args.points.now = omega arith in
    record {
      n = c.mark_point.ensures.n ∙ c.loop-point.invariant.n;
      maxval = c.mark_point.ensures.maxval ∙ c.loop-point.invariant.maxval;
      marked = subst (λ (l : List Point). AreMarked l c.mark_point.new.marks)
          (sym (points-next c.args.points.now i _ below))
          (c.mark_point.ensures.marked (take i c.args.points.now) c.loop-point.invariant.marked);
    }
