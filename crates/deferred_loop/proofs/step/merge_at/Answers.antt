use Rattle.std.proofs.Common.{◌+◌, ◌-◌, sym, subst, arith, ◌∙◌}
use Rattle.deferred_loop.specs.Seen.{PoolSet, IsCountedBy}
use Rattle.mesh_laws.specs.Diamond.{IsWithoutDiamond}
use Rattle.mesh_laws.specs.Steps.{IsMergeStep}
use Rattle.deferred_loop.proofs.ChoiceLemmas.{merge_counted}
use Rattle.deferred_loop.proofs.HeadLemmas.{grid_set_here}
use Rattle.deferred_loop.proofs.LogLemmas.{logged_on}
use Rattle.deferred_loop.proofs.StepLemmas.{merge_sound, fresh_address, merge_charged, step_stamped, merge_step}
use Rattle.deferred_loop.proofs.StepLemmas.{can_here}
use Rattle.deferred_loop.proofs.step.merge_at.Goals as goal

pub merge-requires-clause-can : goal.merge-requires-clause-can
merge-requires-clause-can g c =
    can_here g.w (g.M.QueuedMesh.seen c.args.mesh.now) c.requires.1.1.1.1.0 c.args.t.tri c.requires.1.1.1.1.1.0

pub overflow_sub-merges : goal.overflow_sub-merges
overflow_sub-merges g c =
    let before = (g.M.QueuedMesh.seen c.args.mesh.now).set in let now = (g.M.QueuedMesh.seen c.merge.new.self).set in
    let k = merge_counted before.n now.n before.members c.args.t.tri now.members c.merge.ensures.merge.n
    (grid_set_here g.w (g.M.QueuedMesh.seen c.args.mesh.now) c.requires.1.1.1.1.0)
    (can_here g.w (g.M.QueuedMesh.seen c.args.mesh.now) c.requires.1.1.1.1.0 c.args.t.tri c.requires.1.1.1.1.1.0)
    c.merge.ensures.merge.merged in
    omega (arith, k.few, k.count, k.small, c.leaf_count-before.ensures, c.leaf_count.ensures)

pub overflow_add-merges : goal.overflow_add-merges
overflow_add-merges g c =
    let before = (g.M.QueuedMesh.seen c.args.mesh.now).set in let now = (g.M.QueuedMesh.seen c.merge.new.self).set in
    let k = merge_counted before.n now.n before.members c.args.t.tri now.members c.merge.ensures.merge.n
    (grid_set_here g.w (g.M.QueuedMesh.seen c.args.mesh.now) c.requires.1.1.1.1.0)
    (can_here g.w (g.M.QueuedMesh.seen c.args.mesh.now) c.requires.1.1.1.1.0 c.args.t.tri c.requires.1.1.1.1.1.0)
    c.merge.ensures.merge.merged in
    let room = c.requires.1.1.1.1.1.1.1.1.0 in
    omega (arith, k.few, k.count, k.small, c.leaf_count-before.ensures, c.leaf_count.ensures)

pub enter_fresh-requires : goal.enter_fresh-requires
enter_fresh-requires g c κs within =
    let sound =
    merge_sound g.w (g.M.QueuedMesh.seen c.args.mesh.now) (g.M.QueuedMesh.seen c.merge.new.self) c.args.t.tri
    c.requires.1.1.1.1.0 c.requires.1.1.1.1.1.0.last.lead.mergeable c.merge.ensures.merge in (
      within.0,
      (
        within.1,
        (
          c.requires.1.1.1.0,
          (
            c.requires.1.1.1.1.1.1.0,
            (
              sound,
              (
                c.merge.ensures.merge.renewed.unknown,
                (
                  λ a i. fresh_address g.w (g.M.QueuedMesh.seen c.args.mesh.now)
                      (g.M.QueuedMesh.seen c.merge.new.self) a sound
                      c.merge.ensures.merge.renewed i,
                  c.requires.1.1.1.1.1.1.1.0,
                ),
              ),
            ),
          ),
        ),
      ),
    )

pub returns-clause-step : goal.returns-clause-step
returns-clause-step g c =
    subst (λ (z : PoolSet).
    IsMergeStep g.w.n g.w.budget g.w.priority (g.M.QueuedMesh.seen c.args.mesh.now).set.members z.members)
    (sym c.enter_fresh.ensures.entered.set)
    (merge_step g.w (g.M.QueuedMesh.seen c.args.mesh.now).set.members c.args.t.tri
    (g.M.QueuedMesh.seen c.merge.new.self).set.members
    c.requires.1.1.1.1.1.0
    (subst (λ z. IsWithoutDiamond z (g.M.QueuedMesh.seen c.args.mesh.now).set.members c.args.t.tri
    (g.M.QueuedMesh.seen c.merge.new.self).set.members) c.requires.1.1.1.1.0.grid c.merge.ensures.merge.merged))

pub returns-clause-counters : goal.returns-clause-counters
returns-clause-counters g c =
    let before = (g.M.QueuedMesh.seen c.args.mesh.now).set in let now = (g.M.QueuedMesh.seen c.merge.new.self).set in
    let k = merge_counted before.n now.n before.members c.args.t.tri now.members c.merge.ensures.merge.n
    (grid_set_here g.w (g.M.QueuedMesh.seen c.args.mesh.now) c.requires.1.1.1.1.0)
    (can_here g.w (g.M.QueuedMesh.seen c.args.mesh.now) c.requires.1.1.1.1.0 c.args.t.tri c.requires.1.1.1.1.1.0)
    c.merge.ensures.merge.merged in
    λ start added counted.
    subst (λ (z : PoolSet).
    IsCountedBy start z added (c.args.merges.now + (c.leaf_count-before.result - c.leaf_count.result)))
    (sym c.enter_fresh.ensures.entered.set) record {
      most = c.merge.ensures.merge.most ∙ counted.most;
      splits_rose = c.merge.ensures.merge.splits ∙ counted.splits_rose;
      merges_rose = omega (
        arith,
        k.count,
        counted.merges_rose,
        c.merge.ensures.merge.merges,
        c.leaf_count-before.ensures,
        c.leaf_count.ensures,
      );
    }

pub returns-clause-charged : goal.returns-clause-charged
returns-clause-charged g c =
    let settled = c.requires.1.1.1.1.0 in
    let before = (g.M.QueuedMesh.seen c.args.mesh.now).set in let now = (g.M.QueuedMesh.seen c.merge.new.self).set in
    let k = merge_counted before.n now.n before.members c.args.t.tri now.members c.merge.ensures.merge.n
    (grid_set_here g.w (g.M.QueuedMesh.seen c.args.mesh.now) c.requires.1.1.1.1.0)
    (can_here g.w (g.M.QueuedMesh.seen c.args.mesh.now) c.requires.1.1.1.1.0 c.args.t.tri c.requires.1.1.1.1.1.0)
    c.merge.ensures.merge.merged in
    let merged = subst (λ z. IsWithoutDiamond z before.members c.args.t.tri now.members) settled.grid
    c.merge.ensures.merge.merged in
    λ evaluations added charged.
    merge_charged g.w (g.M.QueuedMesh.seen c.args.mesh.now) (g.M.QueuedMesh.seen c.merge.new.self)
    (g.M.QueuedMesh.seen c.enter_fresh.new.mesh) settled c.merge.ensures.merge.n c.merge.ensures.merge.renewed
    (g.G.Gauge.readings c.args.gauge.now) c.args.odometer c.enter_fresh.ensures.entered c.args.t.tri
    evaluations added c.args.merges.now
    (c.args.merges.now + (c.leaf_count-before.result - c.leaf_count.result)) (g.G.Gauge.count c.args.gauge.now)
    (g.G.Gauge.count c.enter_fresh.new.gauge)
    settled.valid c.requires.1.1.1.1.1.0.last.lead.mergeable merged
    (merge_step g.w before.members c.args.t.tri now.members c.requires.1.1.1.1.1.0 merged) c.enter_fresh.ensures.most
    (omega (arith, k.few, k.count, k.small, c.leaf_count-before.ensures, c.leaf_count.ensures)) charged

pub returns-clause-stamped : goal.returns-clause-stamped
returns-clause-stamped g c =
    λ start first stamped.
    step_stamped g.w (g.M.QueuedMesh.seen c.args.mesh.now) (g.M.QueuedMesh.seen c.merge.new.self)
    (g.M.QueuedMesh.seen c.enter_fresh.new.mesh) c.requires.1.1.1.1.0 c.merge.ensures.merge.n
    c.merge.ensures.merge.renewed
    (g.G.Gauge.readings c.args.gauge.now) c.args.odometer c.enter_fresh.ensures.entered start first
    (g.G.Gauge.count c.args.gauge.now)
    (g.G.Gauge.count c.enter_fresh.new.gauge) c.enter_fresh.ensures.least stamped

pub returns-clause-log : goal.returns-clause-log
returns-clause-log g c =
    logged_on (g.M.QueuedMesh.seen c.args.mesh.now).set (g.M.QueuedMesh.seen c.merge.new.self).set
    (g.M.QueuedMesh.seen c.enter_fresh.new.mesh).set
    (g.M.QueuedMesh.log c.args.mesh.now) (g.M.QueuedMesh.log c.merge.new.self)
    (g.M.QueuedMesh.log c.enter_fresh.new.mesh)
    c.merge.ensures.log c.enter_fresh.ensures.entered.set c.enter_fresh.ensures.log
