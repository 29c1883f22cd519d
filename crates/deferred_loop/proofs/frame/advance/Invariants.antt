use Rattle.deferred_loop.proofs.PickLemmas.{frame_now}
use Rattle.deferred_loop.proofs.frame.advance.Given as goal

abbrev pub ghost-advance_over : goal.ghost-advance_over
ghost-advance_over g a =
    frame_now (g.G.Gauge.priorities a.gauge.now) (g.G.Gauge.readings a.gauge.now) a.odometer
    (g.M.QueuedMesh.seen a.mesh.now) a.budget
