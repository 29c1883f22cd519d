use Rattle.deferred_loop.proofs.choice.choose.Given as goal

abbrev pub ghost-settle_first : goal.ghost-settle_first
ghost-settle_first g a = g.w

abbrev pub ghost-choose_over : goal.ghost-choose_over
ghost-choose_over g a = g.w

abbrev pub ghost-choose_with : goal.ghost-choose_with
ghost-choose_with g a = g.w

abbrev pub ghost-choose_without : goal.ghost-choose_without
ghost-choose_without g a = g.w
