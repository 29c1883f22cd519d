use Rattle.deferred_loop.proofs.entering.begin_frame.Given as goal

abbrev pub ghost-enter_fresh : goal.ghost-enter_fresh
ghost-enter_fresh g a = g.w
