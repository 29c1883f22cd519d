use Rattle.std.proofs.Common.{◌≡◌, ◌-◌, ◌*◌, length}
use Rattle.deferred_loop.specs.Log.{emptied}
use Rattle.roam_mesh.proofs.BeginLemmas.{IsBeginning}
use Rattle.roam_mesh.proofs.queued.QueuedPartsQueuedMesh.begin.Given as goal

abbrev pub invariant-loop-self : goal.invariant-loop-self
invariant-loop-self l =
    IsBeginning l.fn.self.parts l.self-inside.parts l.odometer × (l.self-inside.log ≡ emptied l.fn.self.log)

abbrev pub decreases-loop-self : goal.decreases-loop-self
decreases-loop-self l = 2 * length l.self-inside.parts.pool.pairs - length l.self-inside.parts.fresh
