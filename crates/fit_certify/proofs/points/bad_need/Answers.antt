-- The first point that is not needed.
use Rattle.std.proofs.Common.{◌<◌, List, All, length, subst, arith}
use Rattle.std.proofs.lemmas.Bool.{both_ways}
use Rattle.std.proofs.lemmas.List.{take_all}
use Rattle.mesh_defs.specs.declared.point.Point.{Point}
use Rattle.certificate_laws.specs.Keeping.{IsNeed}
use Rattle.fit_certify.proofs.KeepingLemmas.{need-next, need-bad}
use Rattle.fit_certify.proofs.points.bad_need.Goals as goal

pub returns-then-not-is_need-clause-bad : goal.returns-then-not-is_need-clause-bad
returns-then-not-is_need-clause-bad c points marked =
    let below : c.loop-index.index < length c.args.needs.now = omega arith in
    need-bad c.args.marks.now.n points c.args.needs.now c.loop-index.index _ below
    (c.loop-index.invariant.needs points marked)
    (λ need. both_ways c.is_need.result c.if-not-is_need.true ((c.is_need.ensures points marked).1 need))

pub loop-index-preserved : goal.loop-index-preserved
loop-index-preserved c =
    let below : c.loop-index.index < length c.args.needs.now = omega arith in
    record {
      needs = λ points marked. need-next c.args.marks.now.n points c.args.needs.now c.loop-index.index _ below
          (c.loop-index.invariant.needs points marked)
          ((c.is_need.ensures points marked).0 c.if-not-is_need.false);
    }

pub returns-clause-all : goal.returns-clause-all
returns-clause-all c points marked =
    subst (λ (l : List Point). All (IsNeed c.args.marks.now.n points) l)
    (take_all c.loop-index.index c.args.needs.now (omega arith)) (c.loop-index.invariant.needs points marked)
