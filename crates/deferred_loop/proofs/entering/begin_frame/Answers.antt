use Rattle.deferred_loop.proofs.StartLemmas.{begun_sound, begun_address, start_charged, start_stamped}
use Rattle.deferred_loop.proofs.entering.begin_frame.Goals as goal

pub enter_fresh-requires : goal.enter_fresh-requires
enter_fresh-requires g c κs within =
    let sound = begun_sound g.w c.requires.1.1.0 (g.G.Gauge.readings c.args.gauge.now) c.args.odometer
    (g.M.QueuedMesh.seen c.args.mesh.now) (g.M.QueuedMesh.seen c.begin.new.self) c.requires.1.1.1.1.0
    c.begin.ensures.begun in (
      within.0,
      (
        within.1,
        (
          c.requires.1.1.1.0,
          (
            c.requires.1.1.1.1.1.0,
            (
              sound,
              (
                (λ a i. c.begin.ensures.begun.known a),
                (
                  λ a i. begun_address g.w c.requires.1.1.0 (g.G.Gauge.readings c.args.gauge.now) c.args.odometer
                      (g.M.QueuedMesh.seen c.args.mesh.now) (g.M.QueuedMesh.seen c.begin.new.self)
                      c.requires.1.1.1.1.0 c.begin.ensures.begun
                      a i,
                  c.requires.1.1.1.1.1.1.1,
                ),
              ),
            ),
          ),
        ),
      ),
    )

pub returns-clause-charged : goal.returns-clause-charged
returns-clause-charged g c =
    start_charged g.w c.requires.1.1.0 (g.G.Gauge.readings c.args.gauge.now) c.args.odometer
    (g.M.QueuedMesh.seen c.args.mesh.now) (g.M.QueuedMesh.seen c.begin.new.self) c.requires.1.1.1.1.0
    c.begin.ensures.begun
    (g.M.QueuedMesh.seen c.enter_fresh.new.mesh) c.enter_fresh.ensures.entered (g.G.Gauge.count c.args.gauge.now)
    (g.G.Gauge.count c.enter_fresh.new.gauge) c.enter_fresh.ensures.most c.enter_fresh.ensures.least

pub returns-clause-stamped : goal.returns-clause-stamped
returns-clause-stamped g c =
    start_stamped g.w c.requires.1.1.0 (g.G.Gauge.readings c.args.gauge.now) c.args.odometer
    (g.M.QueuedMesh.seen c.args.mesh.now) (g.M.QueuedMesh.seen c.begin.new.self) c.requires.1.1.1.1.0
    c.begin.ensures.begun
    (g.M.QueuedMesh.seen c.enter_fresh.new.mesh) c.enter_fresh.ensures.entered (g.G.Gauge.count c.args.gauge.now)
    (g.G.Gauge.count c.enter_fresh.new.gauge) c.enter_fresh.ensures.most c.enter_fresh.ensures.least
