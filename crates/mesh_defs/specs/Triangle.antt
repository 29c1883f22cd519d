-- Triangles of the bintree, named by addresses: 2 and 3 are the halves of the square, 2a and 2a + 1 the left and right
-- child of a. Source: Duchaineau et al., "ROAMing Terrain", IEEE Visualization 1997, the part on the triangle bintree;
-- the numbering is that of a binary heap, this project's own choice.
-- Words: halvings, level_of, IsAddress, IsSplittable, midpoint, base_triangle, child, corners_at, corners_of,
-- IsCorner, IsEdge, SameEnds, IsMate, OnOneSide, HasBorderBase.
use Rattle.std.specs.Prelude.{◌≡◌, ◌≢◌, ℕ, zero, suc, ◌+◌, ◌*◌, ◌/◌, ◌%◌, ◌^◌, ◌<◌, ◌≤◌, ◌⊎◌, true, false, nat_lt}
use Rattle.mesh_defs.specs.declared.point.Point.{Point}
use Rattle.mesh_defs.specs.declared.point.Corners.{Corners}

-- how often a is halved, rounded down, until it is below 4; at most steps times
abbrev pub halvings : ℕ → ℕ → ℕ
halvings zero a = 0
halvings (suc steps) a = elim (nat_lt a 4) as (λ _. ℕ) [ true ↦ 0 | false ↦ suc (halvings steps (a / 2)) ]

-- The level of an address: 0 for 2 and 3, and for a child one more than for its parent.
unfoldable pub level_of : ℕ → ℕ
level_of a = halvings a a

-- An address of a grid with this n has a level of at most 2 n.
pub record IsAddress (n a : ℕ) : Type 0 where
  pub low : 2 ≤ a
  pub high : a < 2 ^ (2 * n + 2)

-- A triangle below the finest level 2 n may be split; the others are finest.
pub record IsSplittable (n a : ℕ) : Type 0 where
  pub low : 2 ≤ a
  pub coarse : level_of a < 2 * n

-- the point halfway between two points
abbrev pub midpoint : Point → Point → Point
midpoint p q = record { x = (p.x + q.x) / 2; y = (p.y + q.y) / 2 }

-- Half of the square of side m: below its falling diagonal at 0 (address 2), above it at 1 (address 3).
abbrev pub base_triangle : ℕ → ℕ → Corners
base_triangle m zero =
    record { apex = record { x = 0; y = 0 }; v0 = record { x = m; y = 0 }; v1 = record { x = 0; y = m } }
base_triangle m (suc _) =
    record { apex = record { x = m; y = m }; v0 = record { x = 0; y = m }; v1 = record { x = m; y = 0 } }

-- The left child at 0, the right child at 1: the base's midpoint is the apex, and a leg is the base.
abbrev pub child : ℕ → Corners → Corners
child zero c = record { apex = midpoint c.v0 c.v1; v0 = c.apex; v1 = c.v0 }
child (suc _) c = record { apex = midpoint c.v0 c.v1; v0 = c.v1; v1 = c.apex }

-- the corners of the triangle with this level and address, in a square of side m
abbrev pub corners_at : ℕ → ℕ → ℕ → Corners
corners_at zero m a = base_triangle m (a % 2)
corners_at (suc level) m a = child (a % 2) (corners_at level m (a / 2))

-- the corners of triangle a of a grid with this n, counterclockwise, in grid steps
unfoldable pub corners_of : ℕ → ℕ → Corners
corners_of n a = corners_at (level_of a) (2 ^ n) a

-- p is one of the three corners
abbrev pub IsCorner : Corners → Point → Type 0
IsCorner c p = (p ≡ c.apex) ⊎ ((p ≡ c.v0) ⊎ (p ≡ c.v1))

-- from p to q is an edge, counterclockwise: the left leg, the base or the right leg
abbrev pub IsEdge : Corners → Point → Point → Type 0
IsEdge c p q = ((p ≡ c.apex) × (q ≡ c.v0)) ⊎ (((p ≡ c.v0) × (q ≡ c.v1)) ⊎ ((p ≡ c.v1) × (q ≡ c.apex)))

-- the bases have the same two ends
abbrev pub SameEnds : Corners → Corners → Type 0
SameEnds c d = ((c.v0 ≡ d.v0) × (c.v1 ≡ d.v1)) ⊎ ((c.v0 ≡ d.v1) × (c.v1 ≡ d.v0))

-- The mate of an address a is the other address of its level with the same base. A splittable triangle,
-- with its mate where it has one, is a diamond.
pub record IsMate (n a b : ℕ) : Type 0 where
  pub address : IsAddress n b
  pub other : b ≢ a
  pub level : level_of b ≡ level_of a
  pub base : SameEnds (corners_of n a) (corners_of n b)

-- both points lie on one side of the square of side m
abbrev pub OnOneSide : ℕ → Point → Point → Type 0
OnOneSide m p q =
    ((p.x ≡ 0) × (q.x ≡ 0)) ⊎ (((p.x ≡ m) × (q.x ≡ m)) ⊎ (((p.y ≡ 0) × (q.y ≡ 0)) ⊎ ((p.y ≡ m) × (q.y ≡ m))))

-- the base of a lies on the border of the square
abbrev pub HasBorderBase : ℕ → ℕ → Type 0
HasBorderBase n a = OnOneSide (2 ^ n) (corners_of n a).v0 (corners_of n a).v1
