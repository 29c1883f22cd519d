-- What is needed so far is closed.
use Rattle.std.proofs.Common.{◌<◌, ◌∙◌, List, length, take, sym, subst, arith}
use Rattle.std.proofs.lemmas.List.Elements.{Contains-get_or}
use Rattle.mesh_defs.specs.declared.point.Point.{Point}
use Rattle.fit_certify.specs.Keeping.{AreNeeded}
use Rattle.fit_certify.proofs.KeepingLemmas.{points-next}
use Rattle.fit_certify.proofs.points.list_needs.Goals as goal

pub list_need-requires-clause-closed : goal.list_need-requires-clause-closed
list_need-requires-clause-closed c = c.loop-point.invariant.needed.begun.closed

pub loop-point-preserved : goal.loop-point-preserved
loop-point-preserved c =
    let i = c.loop-point.point-index in
    let points : List Point = c.args.points.now in
    let below : i < length points = omega arith in
    record {
      flags = c.list_need.ensures.flags ∙ c.loop-point.invariant.flags;
      needed = subst
          (λ (l : List Point). AreNeeded c.args.n points l c.list_need.new.needs.items c.list_need.new.flags)
          (sym (points-next points i _ below))
          (c.in_ok-list_need.ensures.needed points (take i points) (Contains-get_or points i _ below)
          c.loop-point.invariant.needed);
    }
