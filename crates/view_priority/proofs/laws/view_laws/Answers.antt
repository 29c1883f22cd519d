use Rattle.view_priority.proofs.MoveLemmas.{move_length-none, move_length-two}
use Rattle.view_priority.proofs.laws.view_laws.Goals as goal

pub returns-clause-outside_left : goal.returns-clause-outside_left
returns-clause-outside_left c = λ n heights spacing planes a splittable.
    c.mark_laws.ensures.outside planes _ _ (c.priority_laws.ensures.left_box n heights spacing a splittable)

pub returns-clause-outside_right : goal.returns-clause-outside_right
returns-clause-outside_right c = λ n heights spacing planes a splittable.
    c.mark_laws.ensures.outside planes _ _ (c.priority_laws.ensures.right_box n heights spacing a splittable)

pub returns-clause-inside_left : goal.returns-clause-inside_left
returns-clause-inside_left c = λ n heights spacing planes a splittable.
    c.mark_laws.ensures.inside planes _ _ (c.priority_laws.ensures.left_box n heights spacing a splittable)

pub returns-clause-inside_right : goal.returns-clause-inside_right
returns-clause-inside_right c = λ n heights spacing planes a splittable.
    c.mark_laws.ensures.inside planes _ _ (c.priority_laws.ensures.right_box n heights spacing a splittable)

pub returns-clause-no_move : goal.returns-clause-no_move
returns-clause-no_move c = move_length-none

pub returns-clause-two_moves : goal.returns-clause-two_moves
returns-clause-two_moves c = move_length-two
