-- The links of nodes, as a net.
use Rattle.std.specs.Prelude.{◌≡◌, ◌≢◌, ◌⊎◌, ℕ, ◌+◌, ◌*◌, ◌/◌, ◌%◌, ◌^◌, ◌<◌, ◌≤◌, Bool, true, false, nat_eq, List}
use Rattle.std.specs.Prelude.{slice_index, slice_index_or, length}
use Rattle.mesh_laws.specs.Edge.{mate_of, owner}
use Rattle.mesh_laws.specs.Net.{nowhere, Net, IsLinked, IsTree}
use Rattle.triangle_pool.specs.declared.forest.Node.{Node}
use Rattle.triangle_pool.specs.declared.pool.TheConstants.{MOST_LEAVES}
use Rattle.mesh_laws.specs.Slots.{address_at, has_children, IsLive, split_set}
use Rattle.triangle_pool.specs.Slots.{FreeState, IsFree}
use Rattle.mesh_defs.specs.ClosedSet.{IsClosed}
use Rattle.mesh_defs.specs.Triangle.{level_of}
use Rattle.mesh_defs.specs.declared.level.TheConstants.{GREATEST_LEVEL}

abbrev pub blank_node : Node
blank_node = record { children = 0; base = 0; left = 0; right = 0 }

abbrev pub node_at : List Node → ℕ → Node
node_at nodes s = slice_index_or nodes s blank_node

-- the link of a node with the address a across its edge e
abbrev pub edge_link : Node → ℕ → ℕ → ℕ
edge_link node a e = elim (nat_eq e a) as (λ _. ℕ) [
  | true ↦ node.base
  | false ↦ elim (nat_eq (e % 2) 0) as (λ _. ℕ) [ true ↦ node.left | false ↦ node.right ]
]

abbrev pub net_of : List ℕ → List Node → Net
net_of pairs nodes = record {
  at = λ s. address_at pairs s;
  split = λ p. has_children pairs p;
  link = λ r e. edge_link (node_at nodes r) (address_at pairs r) e;
}

-- x is the slot of the leaf across the edge f, or nowhere
abbrev pub IsAcross : List ℕ → ℕ → ℕ → Type 0
IsAcross pairs f x =
    ((mate_of f ≡ 0) × (x ≡ nowhere))
    ⊎ ((1 ≤ mate_of f) × (address_at pairs x ≡ owner (has_children pairs) (mate_of f)))

-- the edge across f is linked to the slot `to`, and each other edge is linked as before
pub record IsRelinked (pairs : List ℕ) (before after : List Node) (f to : ℕ) : Type 0 where
  pub there : (r e : ℕ) → IsLive pairs r → owner (has_children pairs) e ≡ address_at pairs r → mate_of e ≡ f →
      edge_link (node_at after r) (address_at pairs r) e ≡ to
  pub others : (r e : ℕ) → IsLive pairs r → owner (has_children pairs) e ≡ address_at pairs r → mate_of e ≢ f →
      edge_link (node_at after r) (address_at pairs r) e ≡ edge_link (node_at before r) (address_at pairs r) e
  pub free : (r : ℕ) → address_at pairs r < 2 → node_at after r ≡ node_at before r
  pub children : (r : ℕ) → (node_at after r).children ≡ (node_at before r).children

-- a node with one link changed: its base if the edge is its base, and else a leg
abbrev pub with_link : Node → Bool → Bool → ℕ → Node
with_link node true even to = record { children = node.children; base = to; left = node.left; right = node.right }
with_link node false true to = record { children = node.children; base = node.base; left = node.left; right = to }
with_link node false false to = record { children = node.children; base = node.base; left = to; right = node.right }

-- what is known of pairs where links are read
pub record ArePairs (pairs : List ℕ) : Type 0 where
  pub tree : IsTree (record { at = λ s. address_at pairs s; split = λ p. has_children pairs p; link = λ r e. 0 })
  pub small : (i : ℕ) → slice_index pairs i < 2 ^ 29
  pub short : length pairs < 2 ^ 31

-- the pair of a triangle's children, or nowhere where it is a leaf
abbrev pub AreChildrenAt : List ℕ → ℕ → ℕ → Type 0
AreChildrenAt pairs a children =
    ((children ≡ nowhere) × (has_children pairs a ≡ false)) ⊎ ((children ≢ nowhere) × (slice_index pairs children ≡ a))

-- Live slots with right links to parents, to children and across edges. Whether the set is closed under mates is
-- not said: a forest stays one when one half of a diamond is split.
pub record IsForest (pairs parents : List ℕ) (nodes : List Node) : Type 0 where
  pub sound : ArePairs pairs
  pub parent_count : length parents ≡ length pairs
  pub node_count : length nodes ≡ 2 * length pairs
  pub linked : IsLinked (net_of pairs nodes)
  pub children : (r : ℕ) → IsLive pairs r → AreChildrenAt pairs (address_at pairs r) (node_at nodes r).children
  pub upward : (k : ℕ) → 2 ≤ slice_index pairs k → address_at pairs (slice_index parents k) ≡ slice_index pairs k

-- What is known before a triangle is split: a leaf a at slot s, a free pair k, and where its mate was split
-- before, the pair of the mate's children.
pub record MayHalve (pairs : List ℕ) (s k a mate : ℕ) : Type 0 where
  pub address : address_at pairs s ≡ a
  pub low : 2 ≤ a
  pub high : a < 2 ^ 29
  pub leaf : has_children pairs a ≡ false
  pub within : k < length pairs
  pub free : slice_index pairs k ≡ 0
  pub childless : 1 ≤ mate_of a →
      (has_children pairs (2 * mate_of a) ≡ false) × (has_children pairs (2 * mate_of a + 1) ≡ false)
  pub alone : mate ≡ nowhere → has_children pairs (mate_of a) ≡ false
  pub paired : mate ≢ nowhere → (1 ≤ mate_of a) × (slice_index pairs mate ≡ mate_of a)

-- the two edges between a's new children and those of its mate, where these have a pair already
pub record AreInnerLinks (pairs : List ℕ) (before after : List Node) (k a mate : ℕ) : Type 0 where
  pub there : (r e : ℕ) → IsLive pairs r → owner (has_children pairs) e ≡ address_at pairs r → mate ≢ nowhere →
      ((mate_of e ≡ 4 * a + 1 → edge_link (node_at after r) (address_at pairs r) e ≡ 2 * k)
      × (mate_of e ≡ 4 * a + 2 → edge_link (node_at after r) (address_at pairs r) e ≡ 2 * k + 1))
  pub others : (r e : ℕ) → IsLive pairs r → owner (has_children pairs) e ≡ address_at pairs r →
      mate_of e ≢ 4 * a + 1 → mate_of e ≢ 4 * a + 2 →
      edge_link (node_at after r) (address_at pairs r) e ≡ edge_link (node_at before r) (address_at pairs r) e
  pub children : (r : ℕ) → (node_at after r).children ≡ (node_at before r).children

-- the two new nodes stand in the pair k, and the node at s has this pair as its children
pub record ArePlacedNodes (before after : List Node) (s k : ℕ) (one two : Node) : Type 0 where
  pub left : node_at after (2 * k) ≡ one
  pub right : node_at after (2 * k + 1) ≡ two
  pub own : node_at after s ≡ record {
    children = k;
    base = (node_at before s).base;
    left = (node_at before s).left;
    right = (node_at before s).right;
  }
  pub others : (r : ℕ) → r / 2 ≢ k → r ≢ s → node_at after r ≡ node_at before r

-- what the fields of the nodes are
pub record IsMesh (n : ℕ) (pairs parents : List ℕ) (nodes : List Node) : Type 0 where
  pub n_low : 1 ≤ n
  pub n_high : n ≤ GREATEST_LEVEL
  pub forest : IsForest pairs parents nodes
  pub closed : IsClosed n (split_set pairs)

-- the pool's pairs: as many as the greatest number of leaves asks for
pub record HasPairs (most : ℕ) (pairs : List ℕ) (free : FreeState) : Type 0 where
  pub most_low : 2 ≤ most
  pub most_high : most ≤ MOST_LEAVES
  pub pair_count : length pairs + 1 ≡ most
  pub vacancies : IsFree pairs free

-- What is asked of a split: a leaf a at s, below the finest level, and a free pair k.
pub record MaySplit (n : ℕ) (pairs : List ℕ) (s k a : ℕ) : Type 0 where
  pub address : address_at pairs s ≡ a
  pub low : 2 ≤ a
  pub coarse : level_of a < 2 * n
  pub n_high : n ≤ GREATEST_LEVEL
  pub leaf : has_children pairs a ≡ false
  pub within : k < length pairs
  pub free : slice_index pairs k ≡ 0

-- what is asked of the other half: t has the mate, and j is another free pair
pub record MaySplitMate (pairs : List ℕ) (t k j a : ℕ) : Type 0 where
  pub some : 1 ≤ mate_of a
  pub address : address_at pairs t ≡ mate_of a
  pub within : j < length pairs
  pub free : slice_index pairs j ≡ 0
  pub apart : j ≢ k

-- What is known before the children of a, the pair k, are taken away: a is at slot s, and both are leaves.
pub record MayJoin (pairs : List ℕ) (s k a : ℕ) : Type 0 where
  pub address : address_at pairs s ≡ a
  pub low : 2 ≤ a
  pub high : a < 2 ^ 29
  pub pair : slice_index pairs k ≡ a
  pub whole_left : has_children pairs (2 * a) ≡ false
  pub whole_right : has_children pairs (2 * a + 1) ≡ false

-- the node at s, with the legs that its children had as bases, and no children
pub record IsLeafAgain (before after : List Node) (s : ℕ) (left right : ℕ) : Type 0 where
  pub own : node_at after s ≡ record { children = nowhere; base = (node_at before s).base; left = left; right = right }
  pub others : (r : ℕ) → r ≢ s → node_at after r ≡ node_at before r

-- What is asked of a merge: a is split at slot s, its children are the pair k and are leaves.
pub record MayMerge (pairs : List ℕ) (s k a : ℕ) : Type 0 where
  pub address : address_at pairs s ≡ a
  pub low : 2 ≤ a
  pub pair : slice_index pairs k ≡ a
  pub whole_left : has_children pairs (2 * a) ≡ false
  pub whole_right : has_children pairs (2 * a + 1) ≡ false
