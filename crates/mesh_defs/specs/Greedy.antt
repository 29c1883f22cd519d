-- Greedy refinement: from the two base triangles, split again and again the first leaf in rank, with what
-- it forces, and stop before the first step that exceeds the budget.
-- Source: Duchaineau et al., "ROAMing Terrain", IEEE Visualization 1997, the part on the greedy algorithm.
use Rattle.std.specs.Prelude.{◌≡◌, ◌≢◌, ℕ, zero, suc, ◌<◌, ◌≤◌, Bool, false, ◌||◌, nat_eq, length, Contains}
use Rattle.mesh_defs.specs.ClosedSet.{IsLeastClosed, leaves_of}
use Rattle.mesh_defs.specs.Ranking.{RanksBefore}

-- f is the first leaf in rank among those of positive priority
pub record IsFirstLeaf (n : ℕ) (priority : ℕ → ℕ) (has : ℕ → Bool) (f : ℕ) : Type 0 where
  pub leaf : Contains (leaves_of n has) f
  pub positive : 0 < priority f
  pub first : (a : ℕ) → Contains (leaves_of n has) a → 0 < priority a → a ≢ f → RanksBefore priority f a

-- a set and one more triangle
abbrev pub with_triangle : (ℕ → Bool) → ℕ → ℕ → Bool
with_triangle has f a = has a || nat_eq f a

-- one step: the first leaf in rank is split, with what it forces
pub record IsGreedyStep (n : ℕ) (priority : ℕ → ℕ) (has next : ℕ → Bool) : Type 0 where
  pub split : (f : ℕ) × IsFirstLeaf n priority has f × IsLeastClosed n (with_triangle has f) next

-- the set is reached in this many steps from the empty one, each set within the budget
abbrev pub IsReachedIn : ℕ → ℕ → (ℕ → ℕ) → ℕ → (ℕ → Bool) → Type 0
IsReachedIn zero n priority budget has = (a : ℕ) → has a ≡ false
IsReachedIn (suc steps) n priority budget has =
    (before : ℕ → Bool) × IsReachedIn steps n priority budget before × IsGreedyStep n priority before has
    × (length (leaves_of n has) ≤ budget)

-- For a budget of at least 2, greedy refinement ends at this set: it is reached, and each next step
-- exceeds the budget.
pub record IsGreedyEnd (n budget : ℕ) (priority : ℕ → ℕ) (has : ℕ → Bool) : Type 0 where
  pub reached : (steps : ℕ) × IsReachedIn steps n priority budget has
  pub stops : (next : ℕ → Bool) → IsGreedyStep n priority has next → budget < length (leaves_of n next)
