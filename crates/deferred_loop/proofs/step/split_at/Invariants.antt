use Rattle.deferred_loop.proofs.step.split_at.Given as goal

abbrev pub ghost-enter_fresh : goal.ghost-enter_fresh
ghost-enter_fresh g a = g.w
