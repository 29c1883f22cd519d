-- The mesh that is told of is that of the set.
use Rattle.std.proofs.Common.{◌*◌, ◌≤◌, sym, subst}
use Rattle.std.specs.Prelude.{All}
use Rattle.mesh_defs.specs.Triangle.{level_of}
use Rattle.fit_mesh.proofs.fit.told.Goals as goal

pub number-requires-clause-levels : goal.number-requires-clause-levels
number-requires-clause-levels c =
    subst (λ k. All (λ a. level_of a ≤ 2 * k) c.leaves.result.now) (sym c.n.ensures.value) c.leaves.ensures.levels
