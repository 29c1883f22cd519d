-- Closed sets of split triangles, and the mesh that each of them is.
-- Source: Duchaineau et al., "ROAMing Terrain", IEEE Visualization 1997, the part on forced splits; they speak of a
-- triangulation, this project of the set of triangles that were split.
use Rattle.std.specs.Prelude.{ℕ, zero, suc, ◌+◌, ◌*◌, ◌/◌, ◌≤◌, Bool, true, false, IsTrue, nat_eq, List, [], ◌∷◌, ◌++◌}
use Rattle.std.specs.List.{list_any}
use Rattle.mesh_defs.specs.Triangle.{IsSplittable, IsMate}

-- A closed set holds splittable triangles, and with each of them its parent (2 and 3 have none) and its
-- mate where it has one. A set is a test of addresses.
pub record IsClosed (n : ℕ) (has : ℕ → Bool) : Type 0 where
  pub splittable : (a : ℕ) → IsTrue (has a) → IsSplittable n a
  pub parent : (a : ℕ) → IsTrue (has a) → 4 ≤ a → IsTrue (has (a / 2))
  pub mate : (a b : ℕ) → IsTrue (has a) → IsMate n a b → IsTrue (has b)

-- every member of the one set is a member of the other
abbrev pub IsSubset : (ℕ → Bool) → (ℕ → Bool) → Type 0
IsSubset some all = (a : ℕ) → IsTrue (some a) → IsTrue (all a)

-- the least closed set that holds the wanted triangles
pub record IsLeastClosed (n : ℕ) (wanted has : ℕ → Bool) : Type 0 where
  pub closed : IsClosed n has
  pub holds : IsSubset wanted has
  pub least : (other : ℕ → Bool) → IsClosed n other → IsSubset wanted other → IsSubset has other

-- the leaves at and below a, depth first and left child before right child, where levels are left below a
abbrev pub leaves_under : ℕ → (ℕ → Bool) → ℕ → List ℕ
leaves_under zero has a = a ∷ []
leaves_under (suc levels) has a = elim (has a) as (λ _. List ℕ) [
  | true ↦ leaves_under levels has (2 * a) ++ leaves_under levels has (2 * a + 1)
  | false ↦ a ∷ []
]

-- The leaves of a closed set: the children of members, and 2 and 3, that are not members; depth first,
-- 2 before 3.
unfoldable pub leaves_of : ℕ → (ℕ → Bool) → List ℕ
leaves_of n has = leaves_under (2 * n) has 2 ++ leaves_under (2 * n) has 3

-- the set of a list's entries
abbrev pub among : List ℕ → ℕ → Bool
among triangles a = list_any (λ t. nat_eq t a) triangles
