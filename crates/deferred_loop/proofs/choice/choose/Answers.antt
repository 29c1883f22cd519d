use Rattle.deferred_loop.proofs.TellLemmas.{asked_then}
use Rattle.deferred_loop.proofs.choice.choose.Goals as goal

pub returns-in-Some-clause-asked : goal.returns-in-Some-clause-asked
returns-in-Some-clause-asked g c =
    asked_then g.w (g.M.QueuedMesh.seen c.args.mesh.now) (g.M.QueuedMesh.seen c.settle_first.new.mesh)
    (g.M.QueuedMesh.seen c.choose_with.new.mesh)
    (g.G.Gauge.count c.args.gauge.now) (g.G.Gauge.count c.settle_first.new.gauge)
    (g.G.Gauge.count c.choose_with.new.gauge) c.in-Some.ensures.asked c.choose_with.ensures.asked
