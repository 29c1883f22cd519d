use Rattle.std.proofs.Common.{◌+◌, ◌-◌, ◌/◌, ap}
use Rattle.view_priority.proofs.PriorityLemmas.{priority_at-by_parts}
use Rattle.view_priority.proofs.scene.Scene.bounds_by_part.Goals as goal

pub returns-clause-hi : goal.returns-clause-hi
returns-clause-hi c =
    let parts = c.factors-factors in
    priority_at-by_parts c.args.self.now c.args.t c.bounds.result.hi.p _ _ _ _ _ c.bounds.ensures.hi
    parts.ensures.threshold parts.ensures.mark parts.ensures.thickness
    (ap (λ d. d - parts.result.distance / c.args.part) parts.ensures.distance)

pub returns-clause-lo : goal.returns-clause-lo
returns-clause-lo c =
    let parts = c.factors-factors in
    priority_at-by_parts c.args.self.now c.args.t c.bounds.result.lo.p _ _ _ _ _ c.bounds.ensures.lo
    parts.ensures.threshold parts.ensures.mark parts.ensures.thickness
    (ap (λ d. d + parts.result.distance / c.args.part) parts.ensures.distance)
