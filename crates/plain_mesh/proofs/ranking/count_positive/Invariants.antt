-- What was counted so far is below the next address.
use Rattle.std.proofs.Common.{◌≡◌, ◌≤◌}
use Rattle.mesh_defs.specs.State.{priority_seen}
use Rattle.plain_mesh.specs.Ranks.{positives_below}
use Rattle.plain_mesh.proofs.ranking.count_positive.Given as goal

abbrev pub invariant-loop-number : goal.invariant-loop-number
invariant-loop-number l = record {
  counted : l.count ≡ positives_below (priority_seen l.scene) l.number;
  few : l.count ≤ l.number;
}
