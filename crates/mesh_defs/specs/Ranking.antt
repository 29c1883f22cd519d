-- The order in which triangles deserve to be split, and the mesh of a budget that follows from it.
-- Source: the greedy algorithm of Duchaineau et al., "ROAMing Terrain", IEEE Visualization 1997, the part on the greedy
-- algorithm; that ties go by address and that a later, smaller triangle is not tried are this project's own. Priorities
-- are any function of the address here.
use Rattle.std.specs.Prelude.{◌≡◌, ℕ, ◌+◌, ◌<◌, ◌≤◌, ◌⊎◌, ◌↔◌, Bool, List, length, take, Contains, AllPairs, Some}
use Rattle.std.specs.Prelude.{slice_get}
use Rattle.mesh_defs.specs.Triangle.{IsSplittable}
use Rattle.mesh_defs.specs.ClosedSet.{IsLeastClosed, leaves_of, among}

-- The order of ranks: triangle a with priority p is before b with q, where p is greater, or they are equal
-- and a is less.
abbrev pub IsBefore : ℕ → ℕ → ℕ → ℕ → Type 0
IsBefore p a q b = (q < p) ⊎ ((p ≡ q) × (a < b))

-- a ranks before b, each by its priority
abbrev pub RanksBefore : (ℕ → ℕ) → ℕ → ℕ → Type 0
RanksBefore priority a b = IsBefore (priority a) a (priority b) b

-- the splittable triangles of positive priority, each once, in rank order
pub record IsRanking (n : ℕ) (priority : ℕ → ℕ) (ranking : List ℕ) : Type 0 where
  pub ordered : AllPairs (RanksBefore priority) ranking
  pub members : (a : ℕ) → Contains ranking a ↔ (IsSplittable n a × (0 < priority a))

-- the least closed set that holds the first k of the ranking
abbrev pub IsPrefixClosure : ℕ → List ℕ → ℕ → (ℕ → Bool) → Type 0
IsPrefixClosure n ranking k has = IsLeastClosed n (among (take k ranking)) has

-- The rank closure for a budget: the closure of the longest prefix of the ranking whose closure has at
-- most as many leaves as the budget. The prefix's triangles are the chosen ones, chosen is their number.
pub record IsRankClosure (n budget : ℕ) (ranking : List ℕ) (chosen : ℕ) (has : ℕ → Bool) : Type 0 where
  pub prefix : chosen ≤ length ranking
  pub closure : IsPrefixClosure n ranking chosen has
  pub fits : length (leaves_of n has) ≤ budget
  pub longest : (k : ℕ) (other : ℕ → Bool) → chosen < k → k ≤ length ranking →
      IsPrefixClosure n ranking k other → budget < length (leaves_of n other)

-- The first triangle that is not chosen blocks; its need is the number of leaves with it too.
pub record IsBlockedBy (n : ℕ) (ranking : List ℕ) (chosen triangle need : ℕ) : Type 0 where
  pub next : slice_get ranking chosen ≡ Some triangle
  pub counted : (has : ℕ → Bool) × IsPrefixClosure n ranking (chosen + 1) has × (need ≡ length (leaves_of n has))
