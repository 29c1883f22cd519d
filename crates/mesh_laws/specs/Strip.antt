-- The strip of a closed set: its leaves in an order in which each two neighbours share an edge, and so do
-- the last and the first. Order of the children of a triangle: left first at even levels, right first at odd
-- ones (this project's own form of the bintree's space-filling curve).
-- Words: has_even_level, strip_under, strip_of, AreLeavesInOrder, SharesEdge, IsStripChain, IsRing.
use Rattle.std.specs.Prelude.{◌≡◌, ℕ, zero, suc, ◌+◌, ◌*◌, ◌%◌, ◌≤◌, Bool, true, false, nat_eq, List, [], ◌∷◌, ◌++◌}
use Rattle.mesh_defs.specs.declared.point.Point.{Point}
use Rattle.mesh_defs.specs.Triangle.{level_of, corners_of, IsEdge}
use Rattle.mesh_defs.specs.ClosedSet.{IsClosed, leaves_of}
use Rattle.mesh_defs.specs.declared.level.TheConstants.{GREATEST_LEVEL}

-- the level of a is even
abbrev pub has_even_level : ℕ → Bool
has_even_level a = nat_eq (level_of a % 2) 0

-- the leaves at and below a along the strip, where levels are left below a
abbrev pub strip_under : ℕ → (ℕ → Bool) → ℕ → List ℕ
strip_under zero has a = a ∷ []
strip_under (suc levels) has a = elim (has a) as (λ _. List ℕ) [
  | true ↦ elim (has_even_level a) as (λ _. List ℕ) [
    | true ↦ strip_under levels has (2 * a) ++ strip_under levels has (2 * a + 1)
    | false ↦ strip_under levels has (2 * a + 1) ++ strip_under levels has (2 * a)
  ]
  | false ↦ a ∷ []
]

-- The strip of a closed set: that of 2 and then that of 3.
unfoldable pub strip_of : ℕ → (ℕ → Bool) → List ℕ
strip_of n has = strip_under (2 * n) has 2 ++ strip_under (2 * n) has 3

-- the list is the leaves of a closed set, depth first, in a grid of at most the largest side
pub record AreLeavesInOrder (n : ℕ) (has : ℕ → Bool) (leaves : List ℕ) : Type 0 where
  pub in_grid : n ≤ GREATEST_LEVEL
  pub closed : IsClosed n has
  pub is : leaves ≡ leaves_of n has

-- a and b lie on the two sides of one whole edge
pub record SharesEdge (n a b : ℕ) : Type 0 where
  pub from : Point
  pub to : Point
  pub here : IsEdge (corners_of n a) from to
  pub there : IsEdge (corners_of n b) to from

-- a list of triangles from the first to the last, of which each two neighbours share an edge
pub data IsStripChain (n : ℕ) : ℕ → ℕ → List ℕ → Type 0 where
  one : (a : ℕ) → IsStripChain n a a (a ∷ [])
  more : (a b last : ℕ) (rest : List ℕ) → SharesEdge n a b → IsStripChain n b last rest →
      IsStripChain n a last (a ∷ rest)

-- a chain whose last and first triangle share an edge, too
pub record IsRing (n : ℕ) (triangles : List ℕ) : Type 0 where
  pub first : ℕ
  pub last : ℕ
  pub chain : IsStripChain n first last triangles
  pub closing : SharesEdge n last first
