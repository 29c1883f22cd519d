-- Errors are what a common tolerance limits.
use Rattle.std.proofs.Common.{ℕ, ◌≤◌, List, subst}
use Rattle.mesh_defs.specs.Priority.{worst_of}
use Rattle.fit_mesh.specs.declared.limit.Limit.{Limit}
use Rattle.fit_mesh.specs.Limit.{tolerance_of, error_within}
use Rattle.fit_mesh.proofs.limit.worst_under.Goals as goal

pub worst_within-requires-clause-bound : goal.worst_within-requires-clause-bound
worst_within-requires-clause-bound c =
    let n : ℕ = c.args.grid.now.n in
    let heights : List ℕ = c.args.grid.now.heights in
    subst (λ (l : Limit). worst_of (error_within n heights l) c.args.leaves.now ≤ tolerance_of l) c.in-Common.is
    c.requires.within
