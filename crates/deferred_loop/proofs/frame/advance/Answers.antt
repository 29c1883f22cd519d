use Rattle.std.proofs.Common.{◌+◌, refl, subst}
use Rattle.mesh_laws.specs.Stamps.{ReadingsHold}
use Rattle.deferred_loop.proofs.LogLemmas.{frame_log}
use Rattle.deferred_loop.proofs.PickLemmas.{picked_priorities, picked_of, picked_frame, end_sparing, end_at_most}
use Rattle.deferred_loop.proofs.PickLemmas.{end_at_least, end_stamps}
use Rattle.deferred_loop.proofs.frame.advance.Goals as goal

pub advance_over-requires : goal.advance_over-requires
advance_over-requires g c κs within =
    let priorities = g.G.Gauge.priorities c.args.gauge.now in
    let readings = g.G.Gauge.readings c.args.gauge.now in
    let s = g.M.QueuedMesh.seen c.args.mesh.now in
    let hold = subst (λ n. ReadingsHold n priorities.of c.args.odometer readings) c.requires.grid c.requires.readings in
    let frame = picked_frame priorities readings c.args.odometer s c.args.budget c.requires.grid c.requires.budget
    c.requires.falls c.requires.valid
    c.requires.stamps hold in (
      within.0,
      (
        within.1,
        (
          frame,
          (
            picked_priorities priorities readings c.args.odometer s c.args.budget c.requires.grid,
            (
              picked_of priorities readings c.args.odometer s c.args.budget c.requires.grid,
              (
                hold,
                (
                  c.requires.quiet,
                  (refl, (c.requires.far, (c.requires.counted, (c.requires.room, c.requires.counters)))),
                ),
              ),
            ),
          ),
        ),
      ),
    )

pub returns-clause-sparing : goal.returns-clause-sparing
returns-clause-sparing g c =
    end_sparing (g.G.Gauge.priorities c.args.gauge.now) (g.G.Gauge.readings c.args.gauge.now) c.args.odometer
    (g.M.QueuedMesh.seen c.args.mesh.now) c.args.budget c.requires.grid c.requires.budget
    c.requires.falls c.requires.valid (g.M.QueuedMesh.seen c.advance_over.new.mesh).set.members
    c.advance_over.result.splits c.advance_over.result.merges c.advance_over.ensures.run

pub returns-clause-most : goal.returns-clause-most
returns-clause-most g c =
    end_at_most (g.G.Gauge.priorities c.args.gauge.now) (g.G.Gauge.readings c.args.gauge.now) c.args.odometer
    (g.M.QueuedMesh.seen c.args.mesh.now) c.args.budget c.requires.grid c.requires.budget
    c.requires.falls c.requires.valid (c.advance_over.result.splits + c.advance_over.result.merges)
    (g.G.Gauge.count c.args.gauge.now) (g.G.Gauge.count c.advance_over.new.gauge) c.advance_over.ensures.most

pub returns-clause-least : goal.returns-clause-least
returns-clause-least g c =
    end_at_least (g.G.Gauge.readings c.args.gauge.now) c.args.odometer (g.M.QueuedMesh.seen c.args.mesh.now)
    (g.M.QueuedMesh.seen c.advance_over.new.mesh)
    (g.G.Gauge.count c.args.gauge.now)
    (g.G.Gauge.count c.advance_over.new.gauge) c.advance_over.ensures.counted c.advance_over.ensures.stamped

pub returns-clause-stamps : goal.returns-clause-stamps
returns-clause-stamps g c =
    end_stamps (g.G.Gauge.readings c.args.gauge.now) c.args.odometer (g.M.QueuedMesh.seen c.args.mesh.now)
    (g.M.QueuedMesh.seen c.advance_over.new.mesh)
    (g.G.Gauge.count c.args.gauge.now) (g.G.Gauge.count c.advance_over.new.gauge) c.advance_over.ensures.stamped

pub returns-clause-changed : goal.returns-clause-changed
returns-clause-changed g c =
    frame_log (g.M.QueuedMesh.seen c.args.mesh.now).set (g.M.QueuedMesh.seen c.advance_over.new.mesh).set
    (g.M.QueuedMesh.log c.args.mesh.now) (g.M.QueuedMesh.log c.advance_over.new.mesh)
    c.advance_over.result.splits c.advance_over.result.merges c.advance_over.ensures.log c.advance_over.ensures.counters
