-- The links of a leaf, in the words of geometry.
use Rattle.std.proofs.Common.{◌≡◌, ◌≢◌, sym, ◌∙◌, false, ℕ, ◌+◌, ◌*◌, ◌/◌, ◌^◌, ◌<◌, ◌≤◌, refl, arith, inl, inr, ⊎_elim}
use Rattle.std.proofs.Common.{subst, List, length}
use Rattle.mesh_defs.specs.declared.point.Point.{Point}
use Rattle.mesh_defs.specs.Triangle.{corners_of, child, OnOneSide}
use Rattle.bintree_laws.proofs.CornerLemmas.{corners_of-left, corners_of-right}
use Rattle.mesh_laws.specs.Edge.{mate_of, owner, with_square, IsEdgeOf}
use Rattle.mesh_laws.specs.Net.{nowhere}
use Rattle.mesh_laws.specs.LeafAcross.{IsLeafOf, IsLeafAcross}
use Rattle.mesh_laws.proofs.MateLemmas.{mate_of-low}
use Rattle.mesh_laws.proofs.OwnerLemmas.{owner-same, owner-low}
use Rattle.mesh_laws.proofs.LeafAcrossLemmas.{leaf_across, edge-low, edge-border}
use Rattle.mesh_laws.specs.Slots.{address_at, has_children, IsLive, split_set, IsPool}
use Rattle.triangle_pool.specs.Links.{IsAcross}
use Rattle.mesh_laws.proofs.SlotLemmas.{IsLeafOf-slot, square-children}
use Rattle.triangle_pool.proofs.MergeLemmas.{linked_small}

-- what a link across an edge says
pub record IsLeafLink (n : ℕ) (pairs : List ℕ) (a : ℕ) (p q : Point) (link : ℕ) : Type 0 where
  pub border : link ≡ nowhere → OnOneSide (2 ^ n) p q
  pub none : OnOneSide (2 ^ n) p q → link ≡ nowhere
  pub some : link ≢ nowhere → IsLeafAcross n (split_set pairs) a p q (address_at pairs link)

edge_link_words : (n : ℕ) (pairs : List ℕ) (a e link : ℕ) → IsPool n pairs → length pairs < 2 ^ 31 →
    IsLeafOf (split_set pairs) a → IsEdgeOf a e → IsAcross pairs e link →
    IsLeafLink n pairs a (corners_of n e).v0 (corners_of n e).v1 link
edge_link_words n pairs a e link pool short leaf edge read =
    let low = edge-low a e leaf.low edge in
    let border = edge-border n (split_set pairs) a e pool.closed leaf edge in
    let live : 1 ≤ mate_of e → address_at pairs link ≡ owner (has_children pairs) (mate_of e) →
    IsLive pairs link = λ some at.
    let z = owner-low (has_children pairs) (mate_of e) pool.root (mate_of-low e low some) in omega arith in
    record {
      border = λ is. border.0 (⊎_elim (λ v. v.0) (λ v. absurd (linked_small pairs link short (live v.0 v.1) is)) read);
      none = λ side. ⊎_elim (λ v. v.1) (λ v. absurd (let z = border.1 side in let y = v.0 in omega arith)) read;
      some = λ given. ⊎_elim (λ v. absurd (given v.1))
          (λ v. let two = mate_of-low e low v.0 in
          let same : owner (has_children pairs) (mate_of e) ≡ owner (with_square (split_set pairs)) (mate_of e) =
          owner-same (has_children pairs) (with_square (split_set pairs)) (mate_of e)
          (square-children n pairs (mate_of e / 2) pool (omega arith)) in
          subst (IsLeafAcross n (split_set pairs) a (corners_of n e).v0 (corners_of n e).v1) (sym (v.1 ∙ same))
          (leaf_across n (split_set pairs) a e pool.closed leaf edge v.0)) read;
    }

-- ---- the three edges of a leaf

-- the link across a leaf's base, from v0 to v1, is nowhere just at the border, and else the slot of the leaf across
pub base_words : (n : ℕ) (pairs : List ℕ) (s link : ℕ) → IsPool n pairs → length pairs < 2 ^ 31 → IsLive pairs s →
    has_children pairs (address_at pairs s) ≡ false → IsAcross pairs (address_at pairs s) link →
    IsLeafLink n pairs (address_at pairs s) (corners_of n (address_at pairs s)).v0
    (corners_of n (address_at pairs s)).v1 link
base_words n pairs s link pool short live leaf read =
    edge_link_words n pairs (address_at pairs s) (address_at pairs s) link pool short
    (IsLeafOf-slot pairs s live leaf) (inl refl) read

-- the same of its left leg, from the apex to v0
pub left_words : (n : ℕ) (pairs : List ℕ) (s link : ℕ) → IsPool n pairs → length pairs < 2 ^ 31 → IsLive pairs s →
    has_children pairs (address_at pairs s) ≡ false → IsAcross pairs (2 * address_at pairs s) link →
    IsLeafLink n pairs (address_at pairs s) (corners_of n (address_at pairs s)).apex
    (corners_of n (address_at pairs s)).v0 link
left_words n pairs s link pool short live leaf read =
    let a : ℕ = address_at pairs s in
    let half : 2 * a / 2 ≡ a = omega arith in
    let ends : corners_of n (2 * a) ≡ child 0 (corners_of n a) = corners_of-left n a live in
    subst (λ c. IsLeafLink n pairs a c.v0 c.v1 link) ends
    (edge_link_words n pairs a (2 * a) link pool short (IsLeafOf-slot pairs s live leaf) (inr half) read)

-- the same of its right leg, from v1 to the apex
pub right_words : (n : ℕ) (pairs : List ℕ) (s link : ℕ) → IsPool n pairs → length pairs < 2 ^ 31 → IsLive pairs s →
    has_children pairs (address_at pairs s) ≡ false → IsAcross pairs (2 * address_at pairs s + 1) link →
    IsLeafLink n pairs (address_at pairs s) (corners_of n (address_at pairs s)).v1
    (corners_of n (address_at pairs s)).apex link
right_words n pairs s link pool short live leaf read =
    let a : ℕ = address_at pairs s in
    let half : (2 * a + 1) / 2 ≡ a = omega arith in
    let ends : corners_of n (2 * a + 1) ≡ child 1 (corners_of n a) = corners_of-right n a live in
    subst (λ c. IsLeafLink n pairs a c.v0 c.v1 link) ends
    (edge_link_words n pairs a (2 * a + 1) link pool short (IsLeafOf-slot pairs s live leaf) (inr half) read)
