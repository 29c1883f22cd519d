-- The set is the closure of the entries so far, and fits the budget.
use Rattle.std.proofs.Common.{◌≡◌, ◌≤◌, length}
use Rattle.mesh_defs.specs.ClosedSet.{leaves_of, among}
use Rattle.mesh_defs.specs.Ranking.{IsPrefixClosure}
use Rattle.plain_mesh.specs.Ranks.{ranked_triangles}
use Rattle.plain_mesh.proofs.refining.refined.Given as goal

abbrev pub invariant-loop-entry : goal.invariant-loop-entry
invariant-loop-entry l = record {
  same_grid : l.split.n ≡ l.n;
  closure : IsPrefixClosure l.n (ranked_triangles l.ranking) l.entry-index (among l.split.members);
  fits : length (leaves_of l.n (among l.split.members)) ≤ l.budget;
}
