use Rattle.std.proofs.Common.{◌≡◌, length}
use Rattle.roam_mesh.proofs.ToldLemmas.{HasForgotten}
use Rattle.roam_mesh.proofs.queued.QueuedPartsQueuedMesh.forget.Given as goal

abbrev pub invariant-loop-self : goal.invariant-loop-self
invariant-loop-self l = HasForgotten l.fn.self.parts l.self-inside.parts × (l.self-inside.log ≡ l.fn.self.log)

abbrev pub decreases-loop-self : goal.decreases-loop-self
decreases-loop-self l = length l.self-inside.parts.asked
