-- The flags are closed before and after each split.
use Rattle.std.proofs.Common.{◌^◌, ◌<◌, ◌∙◌, List, length, take, sym, subst, arith}
use Rattle.std.proofs.lemmas.List.Elements.{All-get_or}
use Rattle.mesh_defs.specs.declared.point.Point.{Point}
use Rattle.mesh_defs.specs.ClosedSet.{IsLeastClosed}
use Rattle.bintree_laws.specs.Corners.{IsInSquare}
use Rattle.mesh_laws.specs.Sweep.{is_flagged}
use Rattle.certificate_laws.specs.Keeping.{is_centred}
use Rattle.fit_certify.proofs.KeepingLemmas.{points-next}
use Rattle.fit_certify.proofs.points.split_centred.Goals as goal

pub split_point-requires-clause-closed : goal.split_point-requires-clause-closed
split_point-requires-clause-closed c = c.loop-point.invariant.closed

pub loop-point-preserved : goal.loop-point-preserved
loop-point-preserved c =
    let i = c.loop-point.point-index in
    let needs : List Point = c.args.needs.now in
    let below : i < length needs = omega arith in
    record {
      flags = c.split_point.ensures.flags ∙ c.loop-point.invariant.flags;
      closed = c.split_point.ensures.closed;
      least = λ inside. subst
          (λ (l : List Point). IsLeastClosed c.args.n (is_centred c.args.n l) (is_flagged c.split_point.new.flags))
          (sym (points-next needs i _ below))
          (c.split_point.ensures.least (All-get_or (IsInSquare (2 ^ c.args.n)) needs i _ below inside) (take i needs)
          (c.loop-point.invariant.least inside));
    }
