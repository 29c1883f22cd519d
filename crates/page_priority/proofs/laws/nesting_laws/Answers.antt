use Rattle.page_laws.specs.Pages.{is_known}
use Rattle.page_laws.proofs.PyramidLemmas.{known-splittable, parent-known}
use Rattle.page_priority.specs.Loaded.{loaded_box}
use Rattle.page_priority.proofs.NestLemmas.{wedge-ordered, box-ordered, left-inside, right-inside, below-inside}
use Rattle.page_priority.proofs.laws.nesting_laws.Goals as goal

pub returns-clause-wedge : goal.returns-clause-wedge
returns-clause-wedge c s a = wedge-ordered s.pages.large s.height (is_known s.pages) a

pub returns-clause-ordered : goal.returns-clause-ordered
returns-clause-ordered c s a =
    box-ordered c.box_laws.ensures.ordered s.pages.large s.height (is_known s.pages) s.view.spacing a

pub returns-clause-left_box : goal.returns-clause-left_box
returns-clause-left_box c s a pyramid is = left-inside s.pages.large s.height (is_known s.pages) a
    (known-splittable s.pages pyramid a is) is c.box_laws.ensures.child s.view.spacing

pub returns-clause-right_box : goal.returns-clause-right_box
returns-clause-right_box c s a pyramid is = right-inside s.pages.large s.height (is_known s.pages) a
    (known-splittable s.pages pyramid a is) is c.box_laws.ensures.child s.view.spacing

pub returns-clause-outside_left : goal.returns-clause-outside_left
returns-clause-outside_left c s planes a pyramid is =
    c.mark_laws.ensures.outside planes _ _ (returns-clause-left_box c s a pyramid is)

pub returns-clause-outside_right : goal.returns-clause-outside_right
returns-clause-outside_right c s planes a pyramid is =
    c.mark_laws.ensures.outside planes _ _ (returns-clause-right_box c s a pyramid is)

pub returns-clause-inside_left : goal.returns-clause-inside_left
returns-clause-inside_left c s planes a pyramid is =
    c.mark_laws.ensures.inside planes _ _ (returns-clause-left_box c s a pyramid is)

pub returns-clause-inside_right : goal.returns-clause-inside_right
returns-clause-inside_right c s planes a pyramid is =
    c.mark_laws.ensures.inside planes _ _ (returns-clause-right_box c s a pyramid is)

pub returns-clause-box_below : goal.returns-clause-box_below
returns-clause-box_below c s t a pyramid =
    below-inside (loaded_box s) (is_known s.pages) (returns-clause-ordered c s) (parent-known s.pages pyramid)
    (λ b. returns-clause-left_box c s b pyramid) (λ b. returns-clause-right_box c s b pyramid) t a

pub returns-clause-outside_below : goal.returns-clause-outside_below
returns-clause-outside_below c s planes t a pyramid under is =
    c.mark_laws.ensures.outside planes _ _ (returns-clause-box_below c s t a pyramid under is)

pub returns-clause-inside_below : goal.returns-clause-inside_below
returns-clause-inside_below c s planes t a pyramid under is =
    c.mark_laws.ensures.inside planes _ _ (returns-clause-box_below c s t a pyramid under is)
