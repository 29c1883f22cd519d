-- The promise that a frame's mesh keeps: conforming, within the budget, as good as any, and greedy.
use Rattle.std.specs.Prelude.{◌≡◌, ℕ, ◌≤◌, Bool, List, length}
use Rattle.mesh_defs.specs.Tiling.{IsConforming}
use Rattle.mesh_defs.specs.ClosedSet.{leaves_of}
use Rattle.mesh_defs.specs.Priority.{worst_of}
use Rattle.mesh_defs.specs.Ranking.{IsRanking, IsRankClosure}
use Rattle.mesh_defs.specs.Greedy.{IsGreedyEnd}

-- The greedy mesh of a budget: the leaves of the rank closure, at which greedy refinement ends too.
pub record IsGreedyMesh (n budget : ℕ) (priority : ℕ → ℕ) (triangles : List ℕ) : Type 0 where
  pub ranking : List ℕ
  pub chosen : ℕ
  pub has : ℕ → Bool
  pub ranked : IsRanking n priority ranking
  pub closure : IsRankClosure n budget ranking chosen has
  pub refined : IsGreedyEnd n budget priority has
  pub leaves : triangles ≡ leaves_of n has

-- The best mesh of a budget: no conforming list within the budget has a lower worst.
pub record IsBestMesh (n budget : ℕ) (priority : ℕ → ℕ) (triangles : List ℕ) : Type 0 where
  pub conforming : IsConforming n triangles
  pub within : length triangles ≤ budget
  pub optimal : (others : List ℕ) → IsConforming n others → length others ≤ budget →
      worst_of priority triangles ≤ worst_of priority others
  pub greedy : IsGreedyMesh n budget priority triangles
