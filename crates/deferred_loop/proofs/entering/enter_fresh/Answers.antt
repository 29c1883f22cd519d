use Rattle.std.proofs.lemmas.Grind.{common_steps}
use Rattle.std.proofs.Common.{◌∙◌, ap, arith}
use Rattle.mesh_laws.specs.Stamps.{Readings}
use Rattle.deferred_loop.proofs.HeadLemmas.{asked_level}
use Rattle.deferred_loop.proofs.EnterLemmas.{entering_next, next_listed}
use Rattle.deferred_loop.proofs.entering.enter_fresh.Goals as goal

pub reading-reading-requires : goal.reading-reading-requires
reading-reading-requires g c = record {
  level = asked_level g.w (g.G.Gauge.priorities c.entering.gauge) c.in-Some.t
      (c.entering.invariant.priorities ∙ c.requires.1.1.0)
      (c.requires.1.1.1.1.1.1.0 c.in-Some.t (c.entering.invariant.entering.rest c.in-Some.t
      (next_listed (g.M.QueuedMesh.seen c.entering.mesh) c.in-Some.t c.in-Some.ensures)));
}

pub entering-preserved : goal.entering-preserved
entering-preserved g c =
    let readings = c.entering.invariant.readings in
    record {
      priorities = c.reading-reading.ensures.priorities ∙ c.entering.invariant.priorities;
      readings = c.reading-reading.ensures.readings ∙ readings;
      log = c.enter.ensures.log ∙ c.entering.invariant.log;
      entering = entering_next g.w (g.G.Gauge.readings c.args.gauge.now) c.args.odometer
          (g.M.QueuedMesh.seen c.entering.mesh) (g.M.QueuedMesh.seen c.enter.new.self) c.in-Some.t
          c.reading-reading.result c.enter.ensures.entered
          (c.reading-reading.ensures.slack ∙ ap (λ (z : Readings). z.slack c.in-Some.t) readings)
          (c.reading-reading.ensures.hi ∙ ap (λ (z : Readings). z.upper c.in-Some.t) readings)
          (c.reading-reading.ensures.lo ∙ ap (λ (z : Readings). z.lower c.in-Some.t) readings)
          (g.M.QueuedMesh.seen c.args.mesh.now) (g.G.Gauge.count c.args.gauge.now) (g.G.Gauge.count c.entering.gauge)
          (g.G.Gauge.count c.reading-reading.new.self)
          c.requires.1.1.1.0 c.requires.1.1.1.1.1.0 c.entering.invariant.entering
          c.reading-reading.ensures.rises c.reading-reading.ensures.most c.reading-reading.ensures.counted;
    }

pub returns-in_default-clause-entered : goal.returns-in_default-clause-entered
returns-in_default-clause-entered g c = grind (arith, common_steps)
