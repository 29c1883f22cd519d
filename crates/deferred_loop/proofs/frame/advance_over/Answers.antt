use Rattle.std.proofs.Common.{sym, ◌∙◌, subst, arith}
use Rattle.deferred_loop.specs.Seen.{PoolSet, IsCountedBy, HasRoom}
use Rattle.deferred_loop.specs.Choice.{IsNextSplit, IsNextMerge}
use Rattle.mesh_laws.specs.Stamps.{Readings, ReadingsHold}
use Rattle.deferred_loop.specs.Kept.{IsStamped}
use Rattle.deferred_loop.proofs.StepLemmas.{asked_stamped}
use Rattle.deferred_loop.specs.Log.{emptied}
use Rattle.deferred_loop.proofs.LogLemmas.{logged_on, logged_then}
use Rattle.deferred_loop.proofs.FrameLemmas.{split_less, merge_less, charged_small, counters_small, count_small}
use Rattle.deferred_loop.proofs.FrameLemmas.{end_most, forgotten_stamped}
use Rattle.deferred_loop.proofs.frame.advance_over.Goals as goal

pub split_at-requires : goal.split_at-requires
split_at-requires g c κs within =
    let small = charged_small g.w c.requires.1.1.0 (g.M.QueuedMesh.seen c.steps.mesh)
    (g.G.Gauge.count c.args.gauge.now) c.steps.splits
    c.steps.merges (g.G.Gauge.count c.steps.gauge) c.steps.invariant.charged in
    let few = small.0 in
    let counters =
    subst (λ (z : PoolSet). IsCountedBy (g.M.QueuedMesh.seen c.args.mesh.now).set z c.steps.splits c.steps.merges)
    (sym c.in-Split.ensures.asked.set) c.steps.invariant.counters in
    let rising = counters_small (g.M.QueuedMesh.seen c.args.mesh.now).set
    (g.M.QueuedMesh.seen c.choose.new.mesh).set c.steps.splits
    c.steps.merges counters c.requires.1.1.1.1.1.1.1.1.1.1.1 small.0 small.1
    (omega (arith, c.in-Split.ensures.asked.settled.grid, c.in-Split.ensures.asked.settled.valid.n_high)) in
    let next = subst (λ (z : PoolSet). IsNextSplit g.w.n g.w.budget g.w.priority z.members c.in-Split.t.tri)
    (sym c.in-Split.ensures.asked.set) c.in-Split.ensures.next in
    let room = subst (λ z. HasRoom g.w.n z g.w.budget) (sym counters.most) c.requires.1.1.1.1.1.1.1.1.1.1.0 in
    let hold = subst (λ (z : Readings). ReadingsHold g.w.n g.w.priority c.args.odometer z)
    (sym (c.in-Split.ensures.readings ∙ c.steps.invariant.readings)) c.requires.1.1.1.1.1.0 in (
      within.0,
      (
        within.1,
        (
          c.requires.1.1.0,
          (
            c.in-Split.ensures.priorities ∙ c.steps.invariant.priorities ∙ c.requires.1.1.1.0,
            (
              c.in-Split.ensures.asked.settled,
              (next, (hold, (c.requires.1.1.1.1.1.1.1.1.0, (omega arith, (rising.0, (room, c.in-Split.ensures.at)))))),
            ),
          ),
        ),
      ),
    )

pub steps-smaller-in-Split : goal.steps-smaller-in-Split
steps-smaller-in-Split g c =
    split_less g.w c.requires.1.1.0 (g.M.QueuedMesh.seen c.steps.mesh) (g.M.QueuedMesh.seen c.choose.new.mesh)
    (g.M.QueuedMesh.seen c.split_at.new.mesh)
    c.steps.invariant.settled c.in-Split.ensures.asked.set c.split_at.ensures.step

pub steps-preserved-in-Split : goal.steps-preserved-in-Split
steps-preserved-in-Split g c =
    let readings = c.in-Split.ensures.readings ∙ c.steps.invariant.readings in
    let asked = c.in-Split.ensures.asked in
    let stamped =
    asked_stamped g.w (g.G.Gauge.readings c.args.gauge.now) c.args.odometer (g.M.QueuedMesh.seen c.args.mesh.now)
    (g.G.Gauge.count c.args.gauge.now) (g.M.QueuedMesh.seen c.steps.mesh) (g.M.QueuedMesh.seen c.choose.new.mesh)
    (g.G.Gauge.count c.steps.gauge) (g.G.Gauge.count c.choose.new.gauge) asked c.steps.invariant.stamped in
    record {
      priorities = c.split_at.ensures.priorities ∙ c.in-Split.ensures.priorities ∙ c.steps.invariant.priorities;
      readings = c.split_at.ensures.readings ∙ readings;
      settled = c.split_at.ensures.settled;
      counters = c.split_at.ensures.counters (g.M.QueuedMesh.seen c.args.mesh.now).set c.steps.merges
          (subst (λ (z : PoolSet). IsCountedBy (g.M.QueuedMesh.seen c.args.mesh.now).set z c.steps.splits
          c.steps.merges) (sym asked.set)
          c.steps.invariant.counters);
      log = logged_then (g.M.QueuedMesh.seen c.args.mesh.now).set (g.M.QueuedMesh.seen c.choose.new.mesh).set
          (g.M.QueuedMesh.seen c.split_at.new.mesh).set
          (emptied (g.M.QueuedMesh.log c.args.mesh.now)) (g.M.QueuedMesh.log c.choose.new.mesh)
          (g.M.QueuedMesh.log c.split_at.new.mesh)
          (logged_on (g.M.QueuedMesh.seen c.args.mesh.now).set (g.M.QueuedMesh.seen c.steps.mesh).set
          (g.M.QueuedMesh.seen c.choose.new.mesh).set
          (emptied (g.M.QueuedMesh.log c.args.mesh.now)) (g.M.QueuedMesh.log c.steps.mesh)
          (g.M.QueuedMesh.log c.choose.new.mesh) c.steps.invariant.log asked.set c.in-Split.ensures.log)
          c.split_at.ensures.log;
      charged = c.split_at.ensures.charged (g.G.Gauge.count c.args.gauge.now) c.steps.merges
          (asked.charged (g.G.Gauge.count c.args.gauge.now) c.steps.splits c.steps.merges c.steps.invariant.charged);
      stamped = subst (λ (z : Readings). IsStamped z c.args.odometer (g.M.QueuedMesh.seen c.args.mesh.now)
          (g.G.Gauge.count c.args.gauge.now) (g.M.QueuedMesh.seen c.split_at.new.mesh)
          (g.G.Gauge.count c.split_at.new.gauge)) readings
          (c.split_at.ensures.stamped (g.M.QueuedMesh.seen c.args.mesh.now) (g.G.Gauge.count c.args.gauge.now)
          (subst (λ (z : Readings). IsStamped z c.args.odometer (g.M.QueuedMesh.seen c.args.mesh.now)
          (g.G.Gauge.count c.args.gauge.now)
          (g.M.QueuedMesh.seen c.choose.new.mesh) (g.G.Gauge.count c.choose.new.gauge)) (sym readings) stamped));
    }

pub merge_at-requires : goal.merge_at-requires
merge_at-requires g c κs within =
    let small = charged_small g.w c.requires.1.1.0 (g.M.QueuedMesh.seen c.steps.mesh)
    (g.G.Gauge.count c.args.gauge.now) c.steps.splits
    c.steps.merges (g.G.Gauge.count c.steps.gauge) c.steps.invariant.charged in
    let few = small.1 in
    let counters =
    subst (λ (z : PoolSet). IsCountedBy (g.M.QueuedMesh.seen c.args.mesh.now).set z c.steps.splits c.steps.merges)
    (sym c.in-Merge.ensures.asked.set) c.steps.invariant.counters in
    let rising = counters_small (g.M.QueuedMesh.seen c.args.mesh.now).set
    (g.M.QueuedMesh.seen c.choose.new.mesh).set c.steps.splits
    c.steps.merges counters c.requires.1.1.1.1.1.1.1.1.1.1.1 small.0 small.1
    (omega (arith, c.in-Merge.ensures.asked.settled.grid, c.in-Merge.ensures.asked.settled.valid.n_high)) in
    let next = subst (λ (z : PoolSet). IsNextMerge g.w.n g.w.budget g.w.priority z.members c.in-Merge.t.tri)
    (sym c.in-Merge.ensures.asked.set) c.in-Merge.ensures.next in
    let hold = subst (λ (z : Readings). ReadingsHold g.w.n g.w.priority c.args.odometer z)
    (sym (c.in-Merge.ensures.readings ∙ c.steps.invariant.readings)) c.requires.1.1.1.1.1.0 in (
      within.0,
      (
        within.1,
        (
          c.requires.1.1.0,
          (
            c.in-Merge.ensures.priorities ∙ c.steps.invariant.priorities ∙ c.requires.1.1.1.0,
            (
              c.in-Merge.ensures.asked.settled,
              (next, (hold, (c.requires.1.1.1.1.1.1.1.1.0, (omega arith, (rising.1, c.in-Merge.ensures.at))))),
            ),
          ),
        ),
      ),
    )

pub steps-smaller : goal.steps-smaller
steps-smaller g c =
    merge_less g.w c.requires.1.1.0 (g.M.QueuedMesh.seen c.steps.mesh) (g.M.QueuedMesh.seen c.choose.new.mesh)
    (g.M.QueuedMesh.seen c.merge_at.new.mesh)
    c.steps.invariant.settled c.in-Merge.ensures.asked.set c.merge_at.ensures.step

pub steps-preserved : goal.steps-preserved
steps-preserved g c =
    let readings = c.in-Merge.ensures.readings ∙ c.steps.invariant.readings in
    let asked = c.in-Merge.ensures.asked in
    let stamped =
    asked_stamped g.w (g.G.Gauge.readings c.args.gauge.now) c.args.odometer (g.M.QueuedMesh.seen c.args.mesh.now)
    (g.G.Gauge.count c.args.gauge.now) (g.M.QueuedMesh.seen c.steps.mesh) (g.M.QueuedMesh.seen c.choose.new.mesh)
    (g.G.Gauge.count c.steps.gauge) (g.G.Gauge.count c.choose.new.gauge) asked c.steps.invariant.stamped in
    record {
      priorities = c.merge_at.ensures.priorities ∙ c.in-Merge.ensures.priorities ∙ c.steps.invariant.priorities;
      readings = c.merge_at.ensures.readings ∙ readings;
      settled = c.merge_at.ensures.settled;
      counters = c.merge_at.ensures.counters (g.M.QueuedMesh.seen c.args.mesh.now).set c.steps.splits
          (subst (λ (z : PoolSet). IsCountedBy (g.M.QueuedMesh.seen c.args.mesh.now).set z c.steps.splits
          c.steps.merges) (sym asked.set)
          c.steps.invariant.counters);
      log = logged_then (g.M.QueuedMesh.seen c.args.mesh.now).set (g.M.QueuedMesh.seen c.choose.new.mesh).set
          (g.M.QueuedMesh.seen c.merge_at.new.mesh).set
          (emptied (g.M.QueuedMesh.log c.args.mesh.now)) (g.M.QueuedMesh.log c.choose.new.mesh)
          (g.M.QueuedMesh.log c.merge_at.new.mesh)
          (logged_on (g.M.QueuedMesh.seen c.args.mesh.now).set (g.M.QueuedMesh.seen c.steps.mesh).set
          (g.M.QueuedMesh.seen c.choose.new.mesh).set
          (emptied (g.M.QueuedMesh.log c.args.mesh.now)) (g.M.QueuedMesh.log c.steps.mesh)
          (g.M.QueuedMesh.log c.choose.new.mesh) c.steps.invariant.log asked.set c.in-Merge.ensures.log)
          c.merge_at.ensures.log;
      charged = c.merge_at.ensures.charged (g.G.Gauge.count c.args.gauge.now) c.steps.splits
          (asked.charged (g.G.Gauge.count c.args.gauge.now) c.steps.splits c.steps.merges c.steps.invariant.charged);
      stamped = subst (λ (z : Readings). IsStamped z c.args.odometer (g.M.QueuedMesh.seen c.args.mesh.now)
          (g.G.Gauge.count c.args.gauge.now) (g.M.QueuedMesh.seen c.merge_at.new.mesh)
          (g.G.Gauge.count c.merge_at.new.gauge)) readings
          (c.merge_at.ensures.stamped (g.M.QueuedMesh.seen c.args.mesh.now) (g.G.Gauge.count c.args.gauge.now)
          (subst (λ (z : Readings). IsStamped z c.args.odometer (g.M.QueuedMesh.seen c.args.mesh.now)
          (g.G.Gauge.count c.args.gauge.now)
          (g.M.QueuedMesh.seen c.choose.new.mesh) (g.G.Gauge.count c.choose.new.gauge)) (sym readings) stamped));
    }

pub returns-in-End-clause-most : goal.returns-in-End-clause-most
returns-in-End-clause-most g c =
    end_most g.w c.requires.1.1.0 (g.M.QueuedMesh.seen c.choose.new.mesh)
    (g.G.Gauge.count c.args.gauge.now) c.steps.splits c.steps.merges
    (g.G.Gauge.count c.choose.new.gauge)
    (c.in-End.ensures.asked.charged (g.G.Gauge.count c.args.gauge.now) c.steps.splits c.steps.merges
    c.steps.invariant.charged)

pub returns-in-End-clause-counted : goal.returns-in-End-clause-counted
returns-in-End-clause-counted g c =
    count_small g.w c.requires.1.1.0 (g.M.QueuedMesh.seen c.choose.new.mesh)
    (g.G.Gauge.count c.args.gauge.now) c.steps.splits
    c.steps.merges (g.G.Gauge.count c.choose.new.gauge)
    (c.in-End.ensures.asked.charged (g.G.Gauge.count c.args.gauge.now) c.steps.splits c.steps.merges
    c.steps.invariant.charged)
    c.requires.1.1.1.1.1.1.1.1.1.0

pub returns-in-End-clause-counters : goal.returns-in-End-clause-counters
returns-in-End-clause-counters g c =
    subst (λ (z : PoolSet). IsCountedBy (g.M.QueuedMesh.seen c.args.mesh.now).set z c.steps.splits
    c.steps.merges)
    (sym (c.forget.ensures.forgotten.set ∙ c.in-End.ensures.asked.set)) c.steps.invariant.counters

pub returns-in-End-clause-stamped : goal.returns-in-End-clause-stamped
returns-in-End-clause-stamped g c =
    forgotten_stamped (g.G.Gauge.readings c.args.gauge.now) c.args.odometer (g.M.QueuedMesh.seen c.args.mesh.now)
    (g.G.Gauge.count c.args.gauge.now) (g.M.QueuedMesh.seen c.choose.new.mesh) (g.M.QueuedMesh.seen c.forget.new.self)
    (g.G.Gauge.count c.choose.new.gauge) c.forget.ensures.forgotten
    (asked_stamped g.w (g.G.Gauge.readings c.args.gauge.now) c.args.odometer (g.M.QueuedMesh.seen c.args.mesh.now)
    (g.G.Gauge.count c.args.gauge.now) (g.M.QueuedMesh.seen c.steps.mesh) (g.M.QueuedMesh.seen c.choose.new.mesh)
    (g.G.Gauge.count c.steps.gauge)
    (g.G.Gauge.count c.choose.new.gauge) c.in-End.ensures.asked c.steps.invariant.stamped)

pub returns-in-End-clause-log : goal.returns-in-End-clause-log
returns-in-End-clause-log g c =
    logged_on (g.M.QueuedMesh.seen c.args.mesh.now).set (g.M.QueuedMesh.seen c.steps.mesh).set
    (g.M.QueuedMesh.seen c.forget.new.self).set
    (emptied (g.M.QueuedMesh.log c.args.mesh.now)) (g.M.QueuedMesh.log c.steps.mesh)
    (g.M.QueuedMesh.log c.forget.new.self)
    c.steps.invariant.log (c.forget.ensures.forgotten.set ∙ c.in-End.ensures.asked.set)
    (c.forget.ensures.log ∙ c.in-End.ensures.log)
