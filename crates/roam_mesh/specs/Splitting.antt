-- What a split does to the parts of a mesh.
-- All of it is this project's own.
-- Words: pair_slots, second_slots, born_slots, born_leaves, IsLeafMate, IsChainSplit, IsSplitAt.
use Rattle.std.specs.Prelude.{◌≡◌, ℕ, ◌+◌, ◌/◌, ◌≤◌, ◌⊎◌, true, List, [], ◌∷◌, ◌++◌, length, slice_index, Option, None}
use Rattle.std.specs.Prelude.{Some}
use Rattle.std.specs.List.{filter}
use Rattle.mesh_defs.specs.ClosedSet.{IsLeastClosed}
use Rattle.mesh_defs.specs.Greedy.{with_triangle}
use Rattle.mesh_laws.specs.Edge.{mate_of}
use Rattle.mesh_laws.specs.Slots.{address_at, has_children, IsLive, IsPool, split_set, room_of}
use Rattle.bintree_addr.specs.declared.slot.Slot.{Slot}
use Rattle.triangle_pool.specs.declared.pool.Born.{Born}
use Rattle.triangle_pool.specs.Slots.{PoolState}
use Rattle.force_split.specs.Chain.{IsChain, AreAnswers, IsBornOf, chain_size}
use Rattle.roam_mesh.specs.Parts.{PartsState, is_leaf_at}
use Rattle.roam_mesh.specs.Change.{with_chain, diamond_slots, left_all, pushed_all}

-- two slots, and those of a second pair where there is one
abbrev pub pair_slots : Slot × Slot → List ℕ
pair_slots pair = pair.0.0 ∷ (pair.1.0 ∷ [])

abbrev pub second_slots : Option (Slot × Slot) → List ℕ
second_slots None = []
second_slots (Some pair) = pair_slots pair

-- the slots that splits gave out
abbrev pub born_slots : List Born → List ℕ
born_slots [] = []
born_slots (born ∷ others) = (pair_slots born.first ++ second_slots born.second) ++ born_slots others

-- those of them that have leaves
abbrev pub born_leaves : List ℕ → List Born → List ℕ
born_leaves pairs answers = filter (is_leaf_at pairs) (born_slots answers)

-- t has the mate of the leaf at slot s, and that is a leaf too
pub record IsLeafMate (parts : PartsState) (s t : ℕ) : Type 0 where
  pub pool : IsPool parts.pool.n parts.pool.pairs
  pub some : 1 ≤ mate_of (address_at parts.pool.pairs s)
  pub above : has_children parts.pool.pairs (mate_of (address_at parts.pool.pairs s) / 2) ≡ true
  pub mate : address_at parts.pool.pairs t ≡ mate_of (address_at parts.pool.pairs s)
  pub leaf : is_leaf_at parts.pool.pairs t ≡ true

-- what the pool's splits of a chain do to it
pub record IsChainSplit (before after : PoolState) (chain : List ℕ) (answers : List Born) : Type 0 where
  pub n : after.n ≡ before.n
  pub most : after.most ≡ before.most
  pub merges : after.merges ≡ before.merges
  pub splits : after.splits ≡ before.splits + chain_size before.pairs chain
  pub room : room_of after.pairs + chain_size before.pairs chain ≡ room_of before.pairs
  pub set : IsLeastClosed before.n
      (with_triangle (split_set before.pairs) (address_at before.pairs (slice_index chain 0))) (split_set after.pairs)
  pub kept : (r : ℕ) → IsLive before.pairs r → address_at after.pairs r ≡ address_at before.pairs r
  pub live : (r : ℕ) → IsLive after.pairs r → IsLive before.pairs r ⊎ IsBornOf answers r
  pub answered : AreAnswers before.pairs after.pairs chain answers
  pub old : IsPool before.n before.pairs
  pub valid : IsPool after.n after.pairs

-- The leaf at slot s is split with what it forces: its chain, with the diamonds above it, leaves; the pool splits; the
-- new leaves are fresh, and the diamond of s.
pub record IsSplitAt (before after : PartsState) (s : ℕ) : Type 0 where
  pub chain : List ℕ
  pub answers : List Born
  pub some : 1 ≤ length chain
  pub first : slice_index chain 0 ≡ s
  pub linked : IsChain before.pool.pairs chain
  pub n : after.pool.n ≡ before.pool.n
  pub most : after.pool.most ≡ before.pool.most
  pub merges : after.pool.merges ≡ before.pool.merges
  pub splits : after.pool.splits ≡ before.pool.splits + chain_size before.pool.pairs chain
  pub room : room_of after.pool.pairs + chain_size before.pool.pairs chain ≡ room_of before.pool.pairs
  pub set : IsLeastClosed before.pool.n (with_triangle (split_set before.pool.pairs) (address_at before.pool.pairs s))
      (split_set after.pool.pairs)
  pub kept : (r : ℕ) → IsLive before.pool.pairs r → address_at after.pool.pairs r ≡ address_at before.pool.pairs r
  pub live : (r : ℕ) → IsLive after.pool.pairs r → IsLive before.pool.pairs r ⊎ IsBornOf answers r
  pub answered : AreAnswers before.pool.pairs after.pool.pairs chain answers
  pub valid : IsPool after.pool.n after.pool.pairs
  pub state : after
      ≡ pushed_all (pushed_all (record (left_all before (with_chain before.pool.pairs chain)) { pool = after.pool })
      (born_leaves after.pool.pairs answers)) (diamond_slots after.pool.pairs s)
