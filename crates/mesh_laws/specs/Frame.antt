-- The frame of a budget: the set that is split, the greatest priority of a leaf, and what blocks a finer mesh.
-- It is determined by the priorities and the budget.
-- Source: the greedy algorithm of Duchaineau et al., "ROAMing Terrain", IEEE Visualization 1997; that the
-- blocking triangle and its need belong to the frame is this project's own.
use Rattle.std.specs.Prelude.{◌≡◌, ℕ, Bool, List, length, Option, None, Some}
use Rattle.bintree_addr.specs.declared.blocked.Blocked.{Blocked}
use Rattle.mesh_defs.specs.ClosedSet.{leaves_of}
use Rattle.mesh_defs.specs.Priority.{worst_of}
use Rattle.mesh_defs.specs.Ranking.{IsRanking, IsRankClosure, IsBlockedBy}

-- The set is the rank closure of the budget, worst is the greatest priority of its leaves, and blocked is the
-- first triangle of the ranking that is not chosen. Where nothing blocks, the whole ranking is chosen.
pub record IsFrame (n budget : ℕ) (priority : ℕ → ℕ) (has : ℕ → Bool) (worst : ℕ)
    (blocked : Option Blocked) : Type 0 where
  pub ranking : List ℕ
  pub chosen : ℕ
  pub ranked : IsRanking n priority ranking
  pub closure : IsRankClosure n budget ranking chosen has
  pub greatest : worst ≡ worst_of priority (leaves_of n has)
  pub unblocked : blocked ≡ None → chosen ≡ length ranking
  pub blocking : (b : Blocked) → blocked ≡ Some b → IsBlockedBy n ranking chosen b.tri b.need
