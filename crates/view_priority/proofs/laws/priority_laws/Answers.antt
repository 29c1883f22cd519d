use Rattle.std.proofs.Common.{◌+◌, ◌*◌, arith}
use Rattle.mesh_defs.specs.Priority.{priority_of}
use Rattle.view_priority.proofs.NestLemmas.{box_of-child}
use Rattle.view_priority.proofs.PriorityLemmas.{priority_of-inside, priority_of-none, parent-by_children}
use Rattle.view_priority.proofs.PriorityLemmas.{no_rank-before}
use Rattle.view_priority.proofs.laws.priority_laws.Goals as goal

pub returns-clause-left_box : goal.returns-clause-left_box
returns-clause-left_box c = λ n heights spacing a splittable.
    let low = c.wedge_laws.ensures.low n heights a splittable in
    let high = c.wedge_laws.ensures.high n heights a splittable in
    box_of-child n heights spacing a (2 * a) 0 (omega arith) (omega arith)
    (c.corner_laws.ensures.left n a splittable.low)

pub returns-clause-right_box : goal.returns-clause-right_box
returns-clause-right_box c = λ n heights spacing a splittable.
    let low = c.wedge_laws.ensures.low n heights a splittable in
    let high = c.wedge_laws.ensures.high n heights a splittable in
    box_of-child n heights spacing a (2 * a + 1) 1 (omega arith) (omega arith)
    (c.corner_laws.ensures.right n a splittable.low)

pub returns-clause-left : goal.returns-clause-left
returns-clause-left c = λ n heights view a splittable.
    let inside = returns-clause-left_box c n heights view.spacing a splittable in
    let thickness = c.wedge_laws.ensures.thickness n heights a splittable in
    priority_of-inside c.roots.ensures n heights view a (2 * a) inside
    (c.mark_laws.ensures.outside view.planes _ _ inside) (omega arith)

pub returns-clause-right : goal.returns-clause-right
returns-clause-right c = λ n heights view a splittable.
    let inside = returns-clause-right_box c n heights view.spacing a splittable in
    let thickness = c.wedge_laws.ensures.thickness n heights a splittable in
    priority_of-inside c.roots.ensures n heights view a (2 * a + 1) inside
    (c.mark_laws.ensures.outside view.planes _ _ inside) (omega arith)

pub returns-clause-parent : goal.returns-clause-parent
returns-clause-parent c = λ n heights view b four level.
    let above = c.level_laws.ensures.parent b four in
    parent-by_children (priority_of n heights view) n b (returns-clause-left c n heights view)
    (returns-clause-right c n heights view) (record { low = omega arith; coarse = omega arith })

pub returns-clause-order : goal.returns-clause-order
returns-clause-order c = λ n heights view b four level before.
    no_rank-before (priority_of n heights view) b (returns-clause-parent c n heights view b four level) before

pub returns-clause-finest : goal.returns-clause-finest
returns-clause-finest c = λ n heights view a level.
    priority_of-none n heights view a (c.wedge_laws.ensures.finest_thickness n heights a level)
