-- What refinement finds for a tolerance and a budget. This project's own form.
-- Words: IsFound.
use Rattle.std.specs.Prelude.{ℕ, ◌<◌, ◌≤◌, Bool, length}
use Rattle.mesh_defs.specs.ClosedSet.{leaves_of}
use Rattle.mesh_defs.specs.Priority.{worst_of}
use Rattle.fit_laws.specs.Settled.{IsLeastSettled}
use Rattle.fit_laws.specs.Budget.{IsBudgetMesh}

-- The least settled set for its own greatest error, within the budget: that of the tolerance, where its
-- leaves are within it; else a mesh of the budget with the least greatest error.
pub record IsFound (n tolerance budget : ℕ) (error : ℕ → ℕ) (has : ℕ → Bool) : Type 0 where
  pub fit : IsLeastSettled n (worst_of error (leaves_of n has)) error has
  pub within : length (leaves_of n has) ≤ budget
  pub fewest : worst_of error (leaves_of n has) ≤ tolerance → IsLeastSettled n tolerance error has
  pub best : tolerance < worst_of error (leaves_of n has) → IsBudgetMesh n budget error (leaves_of n has)
