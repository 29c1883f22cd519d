use Rattle.std.proofs.Common.{◌+◌, ◌≡◌, ◌≤◌, length, vec_capacity}
use Rattle.mesh_laws.specs.Sweep.{is_flagged}
use Rattle.fit_laws.specs.Error.{error_of}
use Rattle.fit_laws.specs.Settled.{IsLeastSettled}
use Rattle.fit_mesh.specs.Log.{HasLog}
use Rattle.fit_mesh.proofs.start.start.Given as goal

abbrev pub invariant-loop-from : goal.invariant-loop-from
invariant-loop-from l = record {
  capacity : vec_capacity l.log ≡ vec_capacity l.fn.log;
  grown : HasLog l.grid.n l.flags l.log.items;
  few : length l.log.items + 2 ≤ l.budget;
  above : l.tolerance ≤ l.from;
  fit : IsLeastSettled l.grid.n l.from (error_of l.grid.n l.grid.heights) (is_flagged l.flags);
}

abbrev pub decreases-loop-from : goal.decreases-loop-from
decreases-loop-from l = l.from
