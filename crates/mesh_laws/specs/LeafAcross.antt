-- The leaf across an edge of a leaf, in the words of geometry, and what stands there after a split and a merge.
-- Words: IsLeafOf, IsLeafAcross, IsAcrossEdge, IsGrown, AreAcrossChildren, AreAcrossMerged.
use Rattle.std.specs.Prelude.{◌≡◌, ◌≢◌, ◌⊎◌, ℕ, ◌+◌, ◌*◌, ◌/◌, ◌≤◌, Bool, true, false, IsTrue}
use Rattle.mesh_defs.specs.declared.point.Point.{Point}
use Rattle.mesh_defs.specs.Triangle.{corners_of, IsCorner, IsEdge}
use Rattle.mesh_laws.specs.Edge.{mate_of, owner, with_square}

-- a is a leaf of the closed set: 2, 3 or a child of a member, and no member itself
pub record IsLeafOf (has : ℕ → Bool) (a : ℕ) : Type 0 where
  pub low : 2 ≤ a
  pub above : 4 ≤ a → IsTrue (has (a / 2))
  pub whole : has a ≡ false

-- b is the leaf across the edge of a with the ends p and q: the other leaf that has both ends among its corners
pub record IsLeafAcross (n : ℕ) (has : ℕ → Bool) (a : ℕ) (p q : Point) (b : ℕ) : Type 0 where
  pub leaf : IsLeafOf has b
  pub other : b ≢ a
  pub first : IsCorner (corners_of n b) p
  pub second : IsCorner (corners_of n b) q
  pub only : (c : ℕ) → IsLeafOf has c → c ≢ a → IsCorner (corners_of n c) p → IsCorner (corners_of n c) q → c ≡ b

-- b is the leaf across the edge of a from p to q, and has this edge from q to p
pub record IsAcrossEdge (n : ℕ) (has : ℕ → Bool) (a : ℕ) (p q : Point) (b : ℕ) : Type 0 where
  pub across : IsLeafAcross n has a p q b
  pub back : IsEdge (corners_of n b) q p

-- a and its mate, where it has one, are added to a set
pub record IsGrown (before after : ℕ → Bool) (a : ℕ) : Type 0 where
  pub kept : (p : ℕ) → before p ≡ true → after p ≡ true
  pub added : after a ≡ true
  pub mate : 1 ≤ mate_of a → after (mate_of a) ≡ true
  pub only : (p : ℕ) → after p ≡ true → (before p ≡ true) ⊎ ((p ≡ a) ⊎ ((1 ≤ mate_of a) × (p ≡ mate_of a)))

-- What stands across the edges of the children of a, once a and its mate are split: across their bases what stood
-- across the legs of a, across one leg the other child, and across the other leg a child of the mate, or the border.
pub record AreAcrossChildren (before after : ℕ → Bool) (a : ℕ) : Type 0 where
  pub left_base : 1 ≤ mate_of (2 * a) →
      owner (with_square after) (mate_of (2 * a)) ≡ owner (with_square before) (mate_of (2 * a))
  pub right_base : 1 ≤ mate_of (2 * a + 1) →
      owner (with_square after) (mate_of (2 * a + 1)) ≡ owner (with_square before) (mate_of (2 * a + 1))
  pub left_leg : owner (with_square after) (mate_of (4 * a)) ≡ 2 * a + 1
  pub right_leg : owner (with_square after) (mate_of (4 * a + 3)) ≡ 2 * a
  pub left_mate : 1 ≤ mate_of a → owner (with_square after) (mate_of (4 * a + 1)) ≡ 2 * mate_of a + 1
  pub right_mate : 1 ≤ mate_of a → owner (with_square after) (mate_of (4 * a + 2)) ≡ 2 * mate_of a
  pub border : mate_of a ≡ 0 → (mate_of (4 * a + 1) ≡ 0) × (mate_of (4 * a + 2) ≡ 0)

-- What stands across the edges of a, once the diamond of a is merged: across its base its mate, and across its legs
-- what stood across the bases of its children.
pub record AreAcrossMerged (before after : ℕ → Bool) (a : ℕ) : Type 0 where
  pub base : 1 ≤ mate_of a → owner (with_square after) (mate_of a) ≡ mate_of a
  pub left_leg : 1 ≤ mate_of (2 * a) →
      owner (with_square after) (mate_of (2 * a)) ≡ owner (with_square before) (mate_of (2 * a))
  pub right_leg : 1 ≤ mate_of (2 * a + 1) →
      owner (with_square after) (mate_of (2 * a + 1)) ≡ owner (with_square before) (mate_of (2 * a + 1))
