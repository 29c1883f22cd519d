-- Which triangle stands for a diamond: the one that ranks first, so that a diamond's rank is that of an address.
-- Source: Duchaineau et al., "ROAMing Terrain", IEEE Visualization 1997, the part on the merge queue, where a diamond
-- is named by its two triangles.
-- Words: IsLead, IsLastLead.
use Rattle.std.specs.Prelude.{◌≢◌, ℕ, Bool}
use Rattle.mesh_defs.specs.Triangle.{IsMate}
use Rattle.mesh_defs.specs.Ranking.{RanksBefore}
use Rattle.mesh_laws.specs.Diamond.{CanMerge}

-- a leads its diamond: it can be merged, and a ranks before its mate
pub record IsLead (n : ℕ) (priority : ℕ → ℕ) (has : ℕ → Bool) (a : ℕ) : Type 0 where
  pub mergeable : CanMerge n has a
  pub first : (b : ℕ) → IsMate n a b → RanksBefore priority a b

-- d leads the diamond that is last in rank of those that can be merged
pub record IsLastLead (n : ℕ) (priority : ℕ → ℕ) (has : ℕ → Bool) (d : ℕ) : Type 0 where
  pub lead : IsLead n priority has d
  pub last : (a : ℕ) → IsLead n priority has a → a ≢ d → RanksBefore priority a d
