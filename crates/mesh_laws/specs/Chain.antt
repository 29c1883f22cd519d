-- The chain of splits that the split of one leaf forces.
-- Source: Duchaineau et al., "ROAMing Terrain", IEEE Visualization 1997, the part on forced splits.
use Rattle.std.specs.Prelude.{◌≡◌, ℕ, ◌/◌, ◌≤◌, Bool, List, [], ◌∷◌}
use Rattle.mesh_laws.specs.Edge.{mate_of}
use Rattle.mesh_laws.specs.LeafAcross.{IsLeafOf}

-- b must be split before a: it is the parent of a's mate, and the mate is no leaf
pub record IsForcedFirst (has : ℕ → Bool) (a b : ℕ) : Type 0 where
  pub some : 1 ≤ mate_of a
  pub coarser : IsLeafOf has (mate_of a) → ⊥
  pub parent : b ≡ mate_of a / 2

-- a list of leaves, each followed by the one that must be split before it
abbrev pub IsForcedChain : (ℕ → Bool) → List ℕ → Type 0
IsForcedChain has [] = Unit {0}
IsForcedChain has (a ∷ []) = IsLeafOf has a
IsForcedChain has (a ∷ (b ∷ rest)) = IsLeafOf has a × (IsForcedFirst has a b × IsForcedChain has (b ∷ rest))
