-- The mesh of a budget whose greatest error is the least that can be had.
-- This project's own form. Words: IsBudgetMesh.
use Rattle.std.specs.Prelude.{ℕ, ◌≤◌, List, length}
use Rattle.mesh_defs.specs.Tiling.{IsConforming}
use Rattle.mesh_defs.specs.Priority.{worst_of}
use Rattle.mesh_laws.specs.Least.{IsLeastMesh}

-- Conforming and within the budget; no conforming list within the budget has a lower greatest error; and each
-- conforming list with an error as low refines this one, so it has at least as many triangles.
pub record IsBudgetMesh (n budget : ℕ) (error : ℕ → ℕ) (triangles : List ℕ) : Type 0 where
  pub within : length triangles ≤ budget
  pub optimal : (others : List ℕ) → IsConforming n others → length others ≤ budget →
      worst_of error triangles ≤ worst_of error others
  pub least : IsLeastMesh n (worst_of error triangles) error triangles
