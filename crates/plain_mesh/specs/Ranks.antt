-- Lists of ranks: which triangles they are of, and with which priorities.
-- Words: ranked_triangles, HavePriorities, priorities_below, positives_below, IsPicked, IsRanked.
use Rattle.std.specs.Prelude.{◌≡◌, ℕ, ◌-◌, ◌<◌, ◌≤◌, nat_eq, nat_lt, List, map, All}
use Rattle.std.specs.List.{count_by, range_with_len}
use Rattle.mesh_defs.specs.Ranking.{IsRanking}
use Rattle.bintree_addr.specs.declared.rank.Rank.{Rank}

-- the addresses, in the list's order
abbrev pub ranked_triangles : List Rank → List ℕ
ranked_triangles ranks = map (λ (r : Rank). r.tri) ranks

-- each triangle has its priority beside it
abbrev pub HavePriorities : (ℕ → ℕ) → List Rank → Type 0
HavePriorities priority ranks = All (λ (r : Rank). r.p ≡ priority r.tri) ranks

-- the priorities of the addresses below the bound, from that of 2 on
abbrev pub priorities_below : (ℕ → ℕ) → ℕ → List ℕ
priorities_below priority bound = map priority (range_with_len 2 (bound - 2))

-- how many of them are positive
abbrev pub positives_below : (ℕ → ℕ) → ℕ → ℕ
positives_below priority bound = count_by (λ p. nat_lt 0 p) (priorities_below priority bound)

-- the addresses below the bound that have a positive priority, each once
pub record IsPicked (priority : ℕ → ℕ) (bound : ℕ) (ranks : List Rank) : Type 0 where
  pub valued : HavePriorities priority ranks
  pub once : (a : ℕ) → 2 ≤ a → a < bound → 0 < priority a → count_by (λ t. nat_eq t a) (ranked_triangles ranks) ≡ 1
  pub only : (a : ℕ) → 1 ≤ count_by (λ t. nat_eq t a) (ranked_triangles ranks) →
      (2 ≤ a) × (a < bound) × (0 < priority a)

-- the ranking, with priorities
pub record IsRanked (n : ℕ) (priority : ℕ → ℕ) (ranks : List Rank) : Type 0 where
  pub valued : HavePriorities priority ranks
  pub ranked : IsRanking n priority (ranked_triangles ranks)
