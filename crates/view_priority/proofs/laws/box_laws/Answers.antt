use Rattle.view_priority.proofs.MoveLemmas.{distance_of-moved}
use Rattle.view_priority.proofs.NestLemmas.{box_over-ordered, box_over-child}
use Rattle.view_priority.proofs.PriorityLemmas.{box_priority-inside, box_priority_at-flat}
use Rattle.view_priority.proofs.PriorityLemmas.{box_priority-below_hi, box_priority-above_lo}
use Rattle.view_priority.proofs.laws.box_laws.Goals as goal

pub returns-clause-ordered : goal.returns-clause-ordered
returns-clause-ordered c = box_over-ordered

pub returns-clause-child : goal.returns-clause-child
returns-clause-child c = box_over-child

pub returns-clause-nested : goal.returns-clause-nested
returns-clause-nested c = λ view inner outer thin thick inside thinner.
    box_priority-inside c.roots.ensures view inner outer thin thick inside
    (c.mark_laws.ensures.outside view.planes inner outer inside) thinner

pub returns-clause-flat : goal.returns-clause-flat
returns-clause-flat c = box_priority_at-flat

pub returns-clause-above : goal.returns-clause-above
returns-clause-above c = λ view to box thickness slack ordered within.
    box_priority-below_hi view to box thickness slack (distance_of-moved c.roots.ensures) ordered within

pub returns-clause-below : goal.returns-clause-below
returns-clause-below c = λ view to box thickness slack ordered within.
    box_priority-above_lo view to box thickness slack (distance_of-moved c.roots.ensures) ordered within
