-- Thickness by the children, and a bound on it.
use Rattle.std.proofs.Common.{◌≡◌, ℕ, zero, suc, ◌+◌, ◌-◌, ◌*◌, ◌<◌, ◌≤◌, max, List, length, get_or, refl, arith}
use Rattle.std.proofs.Common.{⊎_elim}
use Rattle.std.proofs.lemmas.Bool.{cases_lt}
use Rattle.std.proofs.lemmas.List.{get_or_past}
use Rattle.std.proofs.lemmas.Nat.{mul-le}
use Rattle.std.specs.List.{All}
use Rattle.mesh_defs.specs.declared.point.Point.{Point}
use Rattle.mesh_defs.specs.declared.point.Corners.{Corners}
use Rattle.mesh_defs.specs.HeightField.{HeightField, IsHeightField, place_of}
use Rattle.mesh_defs.specs.Triangle.{level_of, corners_of, midpoint, IsSplittable}
use Rattle.mesh_defs.specs.Thickness.{height_of, deviation, thickness_under, thickness_of}
use Rattle.wedgie_tree.proofs.AreaLemmas.{AddressLaws}

-- a finest triangle has thickness 0
pub thickness_of-finest : (n : ℕ) (heights : List ℕ) (a : ℕ) → level_of a ≡ 2 * n → thickness_of n heights a ≡ 0
unfolding thickness_of
thickness_of-finest n heights a finest = let none : 2 * n - level_of a ≡ 0 = omega arith in rw none refl

-- the thickness of a splittable triangle is that of its thicker child plus its own deviation
pub thickness_of-children : AddressLaws → (n : ℕ) (heights : List ℕ) (a : ℕ) → IsSplittable n a →
    thickness_of n heights a ≡
    max (thickness_of n heights (2 * a)) (thickness_of n heights (2 * a + 1)) + deviation n heights (corners_of n a)
unfolding thickness_of
thickness_of-children laws n heights a split =
    let coarse : level_of a < 2 * n = split.coarse in
    let own : 2 * n - level_of a ≡ suc (2 * n - (level_of a + 1)) = omega arith in
    rw (own, laws.left a split.low, laws.right a split.low) refl

-- ---- a bound

-- a height is at most the bound of all heights, and 0 where there is none
height-le : (heights : List ℕ) (top k : ℕ) → All (λ h. h ≤ top) heights → get_or heights k 0 ≤ top
height-le heights top k bounded = ⊎_elim {C = get_or heights k 0 ≤ top}
    (λ lt. bounded k 0 lt) (λ ge. omega (arith, get_or_past heights k 0 ge)) (cases_lt k (length heights))

deviation-le : (n : ℕ) (heights : List ℕ) (top : ℕ) (c : Corners) → All (λ h. h ≤ top) heights →
    deviation n heights c ≤ 2 * top
deviation-le n heights top c bounded =
    let height : (p : Point) → height_of n heights p ≤ top = λ p. height-le heights top (place_of n p.x p.y) bounded in
    omega (arith, height (midpoint c.v0 c.v1), height c.v0, height c.v1)

thickness_under-le : (levels n : ℕ) (heights : List ℕ) (top a : ℕ) → All (λ h. h ≤ top) heights →
    thickness_under levels n heights a ≤ 2 * top * levels
thickness_under-le zero n heights top a bounded = omega arith
thickness_under-le (suc levels) n heights top a bounded = omega (
  arith,
  thickness_under-le levels n heights top (2 * a) bounded,
  thickness_under-le levels n heights top (2 * a + 1) bounded,
  deviation-le n heights top (corners_of n a) bounded,
)

thickness-limit : (top levels n t : ℕ) → t ≤ 2 * top * levels → top ≤ 65535 → levels ≤ 2 * n → t ≤ 262140 * n
thickness-limit top levels n t h top_small few =
    let wide : 2 * top * levels ≤ 131070 * (2 * n) = mul-le (2 * top) levels 131070 (2 * n) (omega arith) few in
    omega arith

-- 2 n levels, each of at most twice 65,535
pub thickness_of-le : (g : HeightField) (a : ℕ) → IsHeightField g → thickness_of g.n g.heights a ≤ 262140 * g.n
unfolding thickness_of
thickness_of-le g a valid =
    thickness-limit g.maxval (2 * g.n - level_of a) g.n (thickness_under (2 * g.n - level_of a) g.n g.heights a)
    (thickness_under-le (2 * g.n - level_of a) g.n g.heights g.maxval a valid.bounded) valid.maxval_high
    (omega arith)
