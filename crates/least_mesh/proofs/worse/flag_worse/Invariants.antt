-- Below the counter the flags are right, at most one question was asked for each address, and none was taken back.
use Rattle.std.proofs.Common.{◌+◌, ◌≤◌}
use Rattle.mesh_defs.specs.State.{priority_seen}
use Rattle.mesh_laws.specs.Least.{is_worse}
use Rattle.least_mesh.specs.Asked.{AreWantedFlagged}
use Rattle.least_mesh.proofs.worse.flag_worse.Given as goal

abbrev pub invariant-loop-number : goal.invariant-loop-number
invariant-loop-number l = record {
  flagged : AreWantedFlagged (is_worse l.scene.grid.n l.tolerance (priority_seen l.scene)) l.flags l.number;
  asked : l.meter + 2 ≤ l.fn.meter + l.number;
  count : l.fn.meter ≤ l.meter;
}
