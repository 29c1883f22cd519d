use Rattle.std.proofs.Common.{◌+◌, ◌-◌, arith, ap}
use Rattle.view_priority.proofs.PriorityLemmas.{priority_at-by_parts, priority_seen-below_hi, priority_seen-above_lo}
use Rattle.view_priority.proofs.scene.Scene.bounds.Goals as goal

pub returns-clause-hi : goal.returns-clause-hi
returns-clause-hi c =
    let parts = c.factors-factors.ensures in
    priority_at-by_parts c.args.self.now c.args.t c.bounds.result.hi.p _ _ _ _ _ c.bounds.ensures.hi
    parts.threshold parts.mark parts.thickness (ap (λ d. d - c.args.slack) parts.distance)

pub returns-clause-lo : goal.returns-clause-lo
returns-clause-lo c =
    let parts = c.factors-factors.ensures in
    priority_at-by_parts c.args.self.now c.args.t c.bounds.result.lo.p _ _ _ _ _ c.bounds.ensures.lo
    parts.threshold parts.mark parts.thickness (ap (λ d. d + c.args.slack) parts.distance)

pub returns-clause-above : goal.returns-clause-above
returns-clause-above c = λ to within.
    let s = c.args.self.now in
    let hi = returns-clause-hi c in
    let le = priority_seen-below_hi s to c.args.t c.args.slack c.distance_laws.ensures.moved
    (c.distance_laws.ensures.ordered s.grid.n s.grid.heights s.view.spacing c.args.t) within in
    omega arith

pub returns-clause-below : goal.returns-clause-below
returns-clause-below c = λ to within.
    let s = c.args.self.now in
    let lo = returns-clause-lo c in
    let le = priority_seen-above_lo s to c.args.t c.args.slack c.distance_laws.ensures.moved
    (c.distance_laws.ensures.ordered s.grid.n s.grid.heights s.view.spacing c.args.t) within in
    omega arith
