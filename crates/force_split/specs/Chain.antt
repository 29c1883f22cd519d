-- The chain of splits that the split of one triangle forces.
use Rattle.std.specs.Prelude.{◌≡◌, ℕ, ◌+◌, ◌/◌, ◌≤◌, ◌⊎◌, Bool, true, List, [], ◌∷◌, ◌++◌, length, IsNone, IfSome}
use Rattle.mesh_defs.specs.Triangle.{level_of}
use Rattle.mesh_defs.specs.ClosedSet.{IsLeastClosed, leaves_of}
use Rattle.mesh_defs.specs.Greedy.{with_triangle}
use Rattle.mesh_laws.specs.Edge.{mate_of}
use Rattle.triangle_pool.specs.declared.pool.Born.{Born}
use Rattle.mesh_laws.specs.Slots.{address_at, split_set, diamond_size, HasLeaf, IsMateLive}
use Rattle.triangle_pool.specs.Answer.{AreChildren, IsBorn}

-- What follows a leaf in its chain: the coarser leaf across its base, and nothing where the leaf across is as fine as
-- itself, or there is none.
abbrev pub IsNextInChain : List ℕ → ℕ → List ℕ → Type 0
IsNextInChain pairs s [] = IsMateLive pairs (address_at pairs s)
IsNextInChain pairs s (t ∷ _) =
    (1 ≤ mate_of (address_at pairs s)) × (address_at pairs t ≡ mate_of (address_at pairs s) / 2)

-- a chain: leaves, each followed by the one that must be split before it
abbrev pub IsChain : List ℕ → List ℕ → Type 0
IsChain pairs [] = Unit {0}
IsChain pairs (s ∷ rest) = HasLeaf pairs s × (IsNextInChain pairs s rest × IsChain pairs rest)

-- how many triangles are split where each of these slots is split, with its mate
abbrev pub chain_size : List ℕ → List ℕ → ℕ
chain_size pairs [] = 0
chain_size pairs (s ∷ rest) = diamond_size (address_at pairs s) + chain_size pairs rest

-- the least closed set with a has so many members, and so leaves, more
abbrev pub IsGainOf : ℕ → List ℕ → ℕ → ℕ → Type 0
IsGainOf n pairs a gain = (next : ℕ → Bool) → IsLeastClosed n (with_triangle (split_set pairs) a) next →
    length (leaves_of n next) ≡ length (leaves_of n (split_set pairs)) + gain

-- the set is that of pairs, or if there is a first slot, the least closed one that also has its triangle
abbrev pub IsForcedBy : ℕ → List ℕ → List ℕ → (ℕ → Bool) → Type 0
IsForcedBy n pairs [] now = (p : ℕ) → now p ≡ split_set pairs p
IsForcedBy n pairs (s ∷ _) now = IsLeastClosed n (with_triangle (split_set pairs) (address_at pairs s)) now

-- p is no finer than the first slot's triangle
abbrev pub IsLow : List ℕ → List ℕ → ℕ → Type 0
IsLow pairs [] p = ⊥
IsLow pairs (s ∷ _) p = level_of p ≤ level_of (address_at pairs s)

-- the set after a chain's splits: the forced one, and what is new in it is no finer than the first slot's triangle
pub record IsChained (n : ℕ) (pairs slots : List ℕ) (now : ℕ → Bool) : Type 0 where
  pub forced : IsForcedBy n pairs slots now
  pub low : (p : ℕ) → now p ≡ true → (split_set pairs p ≡ true) ⊎ IsLow pairs slots p

-- r is one of the slots that the splits gave out
abbrev pub IsBornOf : List Born → ℕ → Type 0
IsBornOf [] r = ⊥
IsBornOf (born ∷ others) r = IsBorn born r ⊎ IsBornOf others r

-- the answer to the split of slot s: the slots of the children of its triangle, and of its mate's where it has one
pub record IsAnswer (old new : List ℕ) (s : ℕ) (born : Born) : Type 0 where
  pub first : AreChildren new (address_at old s) born.first
  pub second : IfSome born.second (λ pair. (1 ≤ mate_of (address_at old s))
      × AreChildren new (mate_of (address_at old s)) pair)
  pub alone : IsNone born.second → mate_of (address_at old s) ≡ 0

-- one answer a slot, that of the last slot first
abbrev pub AreAnswers : List ℕ → List ℕ → List ℕ → List Born → Type 0
AreAnswers old new [] answers = answers ≡ []
AreAnswers old new (s ∷ rest) answers =
    (before : List Born) × (born : Born) × (answers ≡ before ++ (born ∷ [])) × AreAnswers old new rest before
    × IsAnswer old new s born
