use Rattle.deferred_loop.proofs.choice.choose_with.Given as goal

abbrev pub ghost-settle_last : goal.ghost-settle_last
ghost-settle_last g a = g.w
