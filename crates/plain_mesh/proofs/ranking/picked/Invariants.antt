-- What was picked so far is what is picked below the next address.
use Rattle.mesh_defs.specs.State.{priority_seen}
use Rattle.plain_mesh.specs.Ranks.{IsPicked}
use Rattle.plain_mesh.proofs.ranking.picked.Given as goal

abbrev pub invariant-loop-number : goal.invariant-loop-number
invariant-loop-number l = IsPicked (priority_seen l.scene) l.number l.ranks.items
