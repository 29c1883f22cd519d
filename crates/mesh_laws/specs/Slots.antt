-- Triangles in pairs of slots: slots 2k and 2k + 1 have the two children of one triangle.
-- Words: address_at, has_children, IsLive, split_set, split_list, room_of, IsPool, HasLeaf, IsMateLive, IsSplit,
-- HasTwoLeaves, IsMergeReady, diamond_size, IsUnder, IsMerge.
use Rattle.std.specs.Prelude.{◌≡◌, ◌≢◌, ◌⊎◌, ℕ, ◌+◌, ◌*◌, ◌/◌, ◌%◌, ◌^◌, ◌<◌, ◌≤◌, Bool, ◌&&◌, true, false, nat_lt}
use Rattle.std.specs.Prelude.{nat_eq, List, slice_index, count_by}
use Rattle.std.specs.List.{filter, range_with_len}
use Rattle.mesh_defs.specs.ClosedSet.{among, IsClosed}
use Rattle.mesh_defs.specs.declared.level.TheConstants.{GREATEST_LEVEL}
use Rattle.mesh_laws.specs.Edge.{mate_of}
use Rattle.mesh_laws.specs.LeafAcross.{IsGrown}

-- The address at slot s. pairs has for each pair of slots 2k and 2k + 1 the address whose children they are: 1 for
-- the halves of the square, 0 for a free pair. So an address below 2 says that the slot is free.
abbrev pub address_at : List ℕ → ℕ → ℕ
address_at pairs s = 2 * slice_index pairs (s / 2) + s % 2

-- p has children in some pair of slots
abbrev pub has_children : List ℕ → ℕ → Bool
has_children pairs p = nat_lt 0 p && among pairs p

-- the slot is live
abbrev pub IsLive : List ℕ → ℕ → Type 0
IsLive pairs s = 2 ≤ address_at pairs s

-- the set of split triangles
abbrev pub split_set : List ℕ → ℕ → Bool
split_set pairs p = nat_lt 1 p && among pairs p

-- the same as a list, in ascending order
abbrev pub split_list : ℕ → List ℕ → List ℕ
split_list n pairs = filter (split_set pairs) (range_with_len 0 (4 * 2 ^ (2 * n)))

-- the pairs that are free
abbrev pub room_of : List ℕ → ℕ
room_of pairs = count_by (λ t. nat_eq t 0) pairs

-- the slot has a leaf
pub record HasLeaf (pairs : List ℕ) (s : ℕ) : Type 0 where
  pub live : IsLive pairs s
  pub leaf : has_children pairs (address_at pairs s) ≡ false

-- a has no mate, or its mate is live
abbrev pub IsMateLive : List ℕ → ℕ → Type 0
IsMateLive pairs a = 1 ≤ mate_of a → has_children pairs (mate_of a / 2) ≡ true

-- What a split of a does to the pairs: a and its mate are added to the set, and live slots keep their triangles.
pub record IsSplit (before after : List ℕ) (a : ℕ) : Type 0 where
  pub grown : IsGrown (split_set before) (split_set after) a
  pub slots : (r : ℕ) → IsLive before r → address_at after r ≡ address_at before r

-- What holds of the pairs of every pool: the set is closed, and no address has two slots. That each child of a member
-- has a slot needs no saying: it stands in the pair of its parent.
pub record IsPool (n : ℕ) (pairs : List ℕ) : Type 0 where
  pub n_low : 1 ≤ n
  pub n_high : n ≤ GREATEST_LEVEL
  pub closed : IsClosed n (split_set pairs)
  pub root : has_children pairs 1 ≡ true
  pub once : (q r : ℕ) → IsLive pairs q → address_at pairs q ≡ address_at pairs r → q ≡ r

-- a is split, and its children are leaves
pub record HasTwoLeaves (pairs : List ℕ) (a : ℕ) : Type 0 where
  pub split : has_children pairs a ≡ true
  pub left : has_children pairs (2 * a) ≡ false
  pub right : has_children pairs (2 * a + 1) ≡ false

-- The diamond of a can be merged.
pub record IsMergeReady (pairs : List ℕ) (a : ℕ) : Type 0 where
  pub own : HasTwoLeaves pairs a
  pub mate : 1 ≤ mate_of a → HasTwoLeaves pairs (mate_of a)

-- how many triangles the diamond of a has
abbrev pub diamond_size : ℕ → ℕ
diamond_size a = elim (nat_lt 0 (mate_of a)) as (λ _. ℕ) [ true ↦ 2 | false ↦ 1 ]

-- p is a child of a member of the diamond of a
abbrev pub IsUnder : ℕ → ℕ → Type 0
IsUnder a p = (p / 2 ≡ a) ⊎ ((1 ≤ mate_of a) × (p / 2 ≡ mate_of a))

-- What a merge of a does to the pairs: a and its mate leave the set, their children's slots become free, and the other
-- live slots keep their triangles.
pub record IsMerge (before after : List ℕ) (a : ℕ) : Type 0 where
  pub removed : split_set after a ≡ false
  pub mate : 1 ≤ mate_of a → split_set after (mate_of a) ≡ false
  pub others : (p : ℕ) → p ≢ a → (1 ≤ mate_of a → p ≢ mate_of a) → split_set after p ≡ split_set before p
  pub slots : (r : ℕ) → IsLive before r → (IsUnder a (address_at before r) → ⊥) →
      address_at after r ≡ address_at before r
  pub free : (r : ℕ) → IsLive before r → IsUnder a (address_at before r) → address_at after r < 2
  pub empty : (r : ℕ) → address_at before r < 2 → address_at after r < 2
