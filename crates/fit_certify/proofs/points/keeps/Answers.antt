-- A triangle that is not flagged is one of those that are asked for.
use Rattle.std.proofs.Common.{◌≡◌, ◌<◌, List, length, take, refl, subst, arith}
use Rattle.std.proofs.lemmas.Bool.{both_ways, false≢true}
use Rattle.std.proofs.lemmas.List.{take_all}
use Rattle.mesh_defs.specs.declared.point.Point.{Point}
use Rattle.mesh_defs.specs.ClosedSet.{IsSubset}
use Rattle.mesh_laws.specs.Sweep.{is_flagged}
use Rattle.certificate_laws.specs.Keeping.{is_centred}
use Rattle.fit_certify.proofs.KeepingLemmas.{kept-entry, kept-next}
use Rattle.fit_certify.proofs.points.keeps.Goals as goal

pub returns-then-not-keeps_point : goal.returns-then-not-keeps_point
returns-then-not-keeps_point c =
    let below : c.loop-point.point-index < length c.args.points.now = omega arith in (
      (λ no. absurd (false≢true no)),
      (λ kept. absurd (both_ways c.keeps_point.result c.if-not-keeps_point.true (c.keeps_point.ensures.1
          (kept-entry c.args.n c.args.points.now c.loop-point.point-index _ (is_flagged c.args.flags.now) below kept)))),
    )

pub loop-point-preserved : goal.loop-point-preserved
loop-point-preserved c =
    let below : c.loop-point.point-index < length c.args.points.now = omega arith in
    record {
      kept = kept-next c.args.n c.args.points.now c.loop-point.point-index _ (is_flagged c.args.flags.now) below
          c.loop-point.invariant.kept (c.keeps_point.ensures.0 c.if-not-keeps_point.false);
    }

pub returns : goal.returns
returns c =
    let all : take c.loop-point.point-index c.args.points.now ≡ c.args.points.now =
    take_all c.loop-point.point-index c.args.points.now (omega arith) in (
      (λ _. subst (λ (l : List Point). IsSubset (is_centred c.args.n l) (is_flagged c.args.flags.now)) all
          c.loop-point.invariant.kept),
      (λ _. refl),
    )
