use Rattle.std.proofs.Common.{Contains, ◌+◌, ◌-◌, sym, subst, arith, ◌∙◌, ◌≤◌}
use Rattle.mesh_defs.specs.ClosedSet.{leaves_of, among}
use Rattle.deferred_loop.specs.Seen.{PoolSet, IsCountedBy}
use Rattle.mesh_defs.specs.GridSet.{IsForced}
use Rattle.mesh_laws.specs.Steps.{IsSplitStep, leaf_count}
use Rattle.deferred_loop.proofs.ChoiceLemmas.{split_counted, split_room}
use Rattle.deferred_loop.proofs.HeadLemmas.{grid_set_here}
use Rattle.deferred_loop.proofs.LogLemmas.{logged_on}
use Rattle.deferred_loop.proofs.StepLemmas.{split_sound, fresh_address, split_charged, step_stamped, split_step}
use Rattle.deferred_loop.proofs.StepLemmas.{splittable}
use Rattle.deferred_loop.proofs.step.split_at.Goals as goal

pub split-requires-clause-splittable : goal.split-requires-clause-splittable
split-requires-clause-splittable g c =
    splittable g.w c.requires.1.1.0
    (g.M.QueuedMesh.seen c.args.mesh.now) c.requires.1.1.1.1.0 c.args.t.tri c.requires.1.1.1.1.1.0

pub split-requires-clause-leaf : goal.split-requires-clause-leaf
split-requires-clause-leaf g c =
    subst (λ z. Contains (leaves_of z (among (g.M.QueuedMesh.seen c.args.mesh.now).set.members)) c.args.t.tri)
    (sym c.requires.1.1.1.1.0.grid) c.requires.1.1.1.1.1.0.first.leaf

pub split-requires-clause-room : goal.split-requires-clause-room
split-requires-clause-room g c after forced =
    let s = g.M.QueuedMesh.seen c.args.mesh.now in
    let grid = c.requires.1.1.1.1.0.grid in
    subst (λ z. leaf_count z after ≤ s.set.most) (sym grid)
    (split_room g.w.n s.set.most g.w.budget g.w.priority s.set.members c.args.t.tri after
    c.requires.1.1.1.1.1.1.1.1.1.1.0
    c.requires.1.1.1.1.1.0 (subst (λ z. IsForced z s.set.members c.args.t.tri after) grid forced))

pub overflow_sub-splits : goal.overflow_sub-splits
overflow_sub-splits g c =
    let before = (g.M.QueuedMesh.seen c.args.mesh.now).set in let now = (g.M.QueuedMesh.seen c.split.new.self).set in
    let k = split_counted before.n now.n before.members c.args.t.tri now.members c.split.ensures.split.n
    (grid_set_here g.w (g.M.QueuedMesh.seen c.args.mesh.now) c.requires.1.1.1.1.0) c.split.ensures.split.forced in
    omega (arith, k.few, k.count, k.small, c.leaf_count-before.ensures, c.leaf_count.ensures)

pub overflow_add-splits : goal.overflow_add-splits
overflow_add-splits g c =
    let before = (g.M.QueuedMesh.seen c.args.mesh.now).set in let now = (g.M.QueuedMesh.seen c.split.new.self).set in
    let k = split_counted before.n now.n before.members c.args.t.tri now.members c.split.ensures.split.n
    (grid_set_here g.w (g.M.QueuedMesh.seen c.args.mesh.now) c.requires.1.1.1.1.0) c.split.ensures.split.forced in
    let room = c.requires.1.1.1.1.1.1.1.1.0 in
    omega (arith, k.few, k.count, k.small, c.leaf_count-before.ensures, c.leaf_count.ensures)

pub enter_fresh-requires : goal.enter_fresh-requires
enter_fresh-requires g c κs within =
    let sound =
    split_sound g.w (g.M.QueuedMesh.seen c.args.mesh.now) (g.M.QueuedMesh.seen c.split.new.self) c.args.t.tri
    c.requires.1.1.1.1.0 c.split.ensures.split in (
      within.0,
      (
        within.1,
        (
          c.requires.1.1.1.0,
          (
            c.requires.1.1.1.1.1.1.0,
            (
              sound,
              (
                c.split.ensures.split.renewed.unknown,
                (
                  λ a i. fresh_address g.w (g.M.QueuedMesh.seen c.args.mesh.now)
                      (g.M.QueuedMesh.seen c.split.new.self) a sound
                      c.split.ensures.split.renewed i,
                  c.requires.1.1.1.1.1.1.1.0,
                ),
              ),
            ),
          ),
        ),
      ),
    )

pub returns-clause-step : goal.returns-clause-step
returns-clause-step g c =
    subst (λ (z : PoolSet).
    IsSplitStep g.w.n g.w.budget g.w.priority (g.M.QueuedMesh.seen c.args.mesh.now).set.members z.members)
    (sym c.enter_fresh.ensures.entered.set)
    (split_step g.w (g.M.QueuedMesh.seen c.args.mesh.now).set.members c.args.t.tri
    (g.M.QueuedMesh.seen c.split.new.self).set.members
    c.requires.1.1.1.1.1.0
    (subst (λ z. IsForced z (g.M.QueuedMesh.seen c.args.mesh.now).set.members c.args.t.tri
    (g.M.QueuedMesh.seen c.split.new.self).set.members) c.requires.1.1.1.1.0.grid c.split.ensures.split.forced))

pub returns-clause-counters : goal.returns-clause-counters
returns-clause-counters g c =
    let before = (g.M.QueuedMesh.seen c.args.mesh.now).set in let now = (g.M.QueuedMesh.seen c.split.new.self).set in
    let k = split_counted before.n now.n before.members c.args.t.tri now.members c.split.ensures.split.n
    (grid_set_here g.w (g.M.QueuedMesh.seen c.args.mesh.now) c.requires.1.1.1.1.0) c.split.ensures.split.forced in
    λ start removed counted.
    subst (λ (z : PoolSet).
    IsCountedBy start z (c.args.splits.now + (c.leaf_count.result - c.leaf_count-before.result)) removed)
    (sym c.enter_fresh.ensures.entered.set) record {
      most = c.split.ensures.split.most ∙ counted.most;
      splits_rose = omega (
        arith,
        k.count,
        counted.splits_rose,
        c.split.ensures.split.splits,
        c.leaf_count-before.ensures,
        c.leaf_count.ensures,
      );
      merges_rose = c.split.ensures.split.merges ∙ counted.merges_rose;
    }

pub returns-clause-charged : goal.returns-clause-charged
returns-clause-charged g c =
    let settled = c.requires.1.1.1.1.0 in
    let before = (g.M.QueuedMesh.seen c.args.mesh.now).set in let now = (g.M.QueuedMesh.seen c.split.new.self).set in
    let k = split_counted before.n now.n before.members c.args.t.tri now.members c.split.ensures.split.n
    (grid_set_here g.w (g.M.QueuedMesh.seen c.args.mesh.now) c.requires.1.1.1.1.0) c.split.ensures.split.forced in
    let forced =
    subst (λ z. IsForced z before.members c.args.t.tri now.members) settled.grid c.split.ensures.split.forced in
    λ evaluations removed charged.
    split_charged g.w (g.M.QueuedMesh.seen c.args.mesh.now) (g.M.QueuedMesh.seen c.split.new.self)
    (g.M.QueuedMesh.seen c.enter_fresh.new.mesh) settled c.split.ensures.split.n c.split.ensures.split.renewed
    (g.G.Gauge.readings c.args.gauge.now) c.args.odometer c.enter_fresh.ensures.entered c.args.t.tri evaluations
    c.args.splits.now removed
    (c.args.splits.now + (c.leaf_count.result - c.leaf_count-before.result)) (g.G.Gauge.count c.args.gauge.now)
    (g.G.Gauge.count c.enter_fresh.new.gauge)
    settled.valid forced
    (split_step g.w before.members c.args.t.tri now.members c.requires.1.1.1.1.1.0 forced) c.enter_fresh.ensures.most
    (omega (arith, k.few, k.count, k.small, c.leaf_count-before.ensures, c.leaf_count.ensures)) charged

pub returns-clause-stamped : goal.returns-clause-stamped
returns-clause-stamped g c =
    λ start first stamped.
    step_stamped g.w (g.M.QueuedMesh.seen c.args.mesh.now) (g.M.QueuedMesh.seen c.split.new.self)
    (g.M.QueuedMesh.seen c.enter_fresh.new.mesh) c.requires.1.1.1.1.0 c.split.ensures.split.n
    c.split.ensures.split.renewed
    (g.G.Gauge.readings c.args.gauge.now) c.args.odometer c.enter_fresh.ensures.entered start first
    (g.G.Gauge.count c.args.gauge.now)
    (g.G.Gauge.count c.enter_fresh.new.gauge) c.enter_fresh.ensures.least stamped

pub returns-clause-log : goal.returns-clause-log
returns-clause-log g c =
    logged_on (g.M.QueuedMesh.seen c.args.mesh.now).set (g.M.QueuedMesh.seen c.split.new.self).set
    (g.M.QueuedMesh.seen c.enter_fresh.new.mesh).set
    (g.M.QueuedMesh.log c.args.mesh.now) (g.M.QueuedMesh.log c.split.new.self)
    (g.M.QueuedMesh.log c.enter_fresh.new.mesh)
    c.split.ensures.log c.enter_fresh.ensures.entered.set c.enter_fresh.ensures.log
