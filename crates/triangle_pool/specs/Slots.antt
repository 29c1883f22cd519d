-- What a contract sees of a pool, and its free pairs.
use Rattle.std.specs.Prelude.{◌≡◌, ◌⊎◌, ℕ, ◌+◌, ◌^◌, ◌<◌, ◌≤◌, ◌++◌, List, [], ◌∷◌, slice_index, length}
use Rattle.mesh_laws.specs.Slots.{room_of}

-- What a contract sees of a pool: the grid, the greatest number of leaves, the pairs of slots, and how many triangles
-- were split and merged so far.
pub record PoolState : Type 0 where
  pub n : ℕ
  pub most : ℕ
  pub pairs : List ℕ
  pub splits : ℕ
  pub merges : ℕ

-- What is seen of the free pairs: the pairs that were given back, the first pair that was never given out, and how many
-- pairs there are.
pub record FreeState : Type 0 where
  pub returned : List ℕ
  pub unused : ℕ
  pub pairs : ℕ

-- there is space for every pair that was given out to come back
pub record HasSpace (returned : List ℕ) (unused pairs capacity : ℕ) : Type 0 where
  pub below : length returned ≤ unused
  pub within : unused ≤ pairs
  pub room : capacity ≡ pairs
  pub few : pairs < 2 ^ 32

-- k is given out: the pair that was given back last, and where there is none, the first that was never given out
abbrev pub IsGivenOut : FreeState → FreeState → ℕ → Type 0
IsGivenOut before after k =
    ((before.returned ≡ after.returned ++ (k ∷ [])) × (after.unused ≡ before.unused))
    ⊎ ((before.returned ≡ []) × (after.returned ≡ []) × (k ≡ before.unused) × (after.unused ≡ before.unused + 1))

-- the free pairs are those that were given back, each once, and all from the first that was never given out on
pub record IsFree (pairs : List ℕ) (free : FreeState) : Type 0 where
  pub all : free.pairs ≡ length pairs
  pub within : free.unused ≤ length pairs
  pub count : length free.returned + length pairs ≡ room_of pairs + free.unused
  pub fresh : (k : ℕ) → free.unused ≤ k → slice_index pairs k ≡ 0
  pub vacant : (i : ℕ) → i < length free.returned →
      (slice_index free.returned i < free.unused) × (slice_index pairs (slice_index free.returned i) ≡ 0)
  pub distinct : (i j : ℕ) → i < length free.returned → j < length free.returned →
      slice_index free.returned i ≡ slice_index free.returned j → i ≡ j

-- what is seen of the nodes: the grid, and the pairs of slots
pub record NodesState : Type 0 where
  pub n : ℕ
  pub pairs : List ℕ
