-- The bound for a list of triangles: the greatest over all of them and all their points.
use Rattle.std.proofs.Common.{◌≡◌, ◌∙◌, ℕ, ◌+◌, ◌*◌, ◌/◌, ◌^◌, ◌<◌, ◌≤◌, Bool, max, List, [], ◌∷◌, ◌++◌, length, take}
use Rattle.std.proofs.Common.{get_or, map, All, refl, sym, ap, subst, arith, mul-le-mul_left}
use Rattle.std.proofs.lemmas.List.{take_more}
use Rattle.std.proofs.lemmas.List.Elements.{All-head, All-tail}
use Rattle.std.specs.List.{flat_map}
use Rattle.mesh_defs.specs.Triangle.{IsAddress, level_of}
use Rattle.mesh_defs.specs.ClosedSet.{leaves_of}
use Rattle.bintree_laws.proofs.LevelLemmas.{level-le}
use Rattle.mesh_defs.specs.Thickness.{thickness_of}
use Rattle.mesh_defs.specs.BoundingBox.{points_of, holds_point, greatest}
use Rattle.mesh_defs.proofs.PointLemmas.{greatest-le}
use Rattle.mesh_laws.proofs.DescentLemmas.{IsAddress-leaves_of}
use Rattle.fit_laws.specs.PlaneHeight.{off_plane, offs_in, deviation_of, thickest_of}
use Rattle.fit_laws.proofs.PlaneLemmas.{off_plane-le, off_plane-most}

-- the greatest entry of two lists
greatest-append : (xs ys : List ℕ) → greatest (xs ++ ys) ≡ max (greatest xs) (greatest ys)
greatest-append [] ys = omega arith
greatest-append (x ∷ xs) ys = omega (arith, greatest-append xs ys)

-- a triangle's bound
offs_in-le : (n : ℕ) (heights : List ℕ) (a : ℕ) → IsAddress n a →
    2 * greatest (offs_in n heights a) ≤ 2 ^ n * thickness_of n heights a
offs_in-le n heights a address =
    let le : greatest (offs_in n heights a) ≤ 2 ^ n * thickness_of n heights a / 2 =
    greatest-le (2 ^ n * thickness_of n heights a / 2) (off_plane n heights a) (holds_point n a)
    (λ r held. omega (arith, off_plane-le n heights a r address held)) (points_of n) in
    omega arith

-- the greatest is at most the greatest height, times 2 ^ n
pub offs_in-most : (n : ℕ) (heights : List ℕ) (top a : ℕ) → IsAddress n a → All (λ h. h ≤ top) heights →
    greatest (offs_in n heights a) ≤ 2 ^ n * top
offs_in-most n heights top a address bounded = greatest-le (2 ^ n * top) (off_plane n heights a) (holds_point n a)
    (λ r held. off_plane-most n heights top a r address bounded held) (points_of n)

-- twice the deviation is at most the greatest thickness, times 2 ^ n
pub deviation_of-le : (n : ℕ) (heights triangles : List ℕ) → All (IsAddress n) triangles →
    2 * deviation_of n heights triangles ≤ 2 ^ n * thickest_of n heights triangles
unfolding deviation_of thickest_of
deviation_of-le n heights [] addresses = omega arith
deviation_of-le n heights (a ∷ rest) addresses =
    let first = offs_in-le n heights a (All-head (IsAddress n) a rest addresses) in
    let others = deviation_of-le n heights rest (All-tail (IsAddress n) a rest addresses) in
    let thick : ℕ = max (thickness_of n heights a) (greatest (map (thickness_of n heights) rest)) in
    let left : 2 ^ n * thickness_of n heights a ≤ 2 ^ n * thick = mul-le-mul_left (2 ^ n) (omega arith) in
    let right : 2 ^ n * greatest (map (thickness_of n heights) rest) ≤ 2 ^ n * thick =
    mul-le-mul_left (2 ^ n) (omega arith) in
    omega (arith, greatest-append (offs_in n heights a) (flat_map (offs_in n heights) rest))

-- ---- one triangle more

-- of the deviation
deviation_of-append : (n : ℕ) (heights triangles : List ℕ) (a : ℕ) →
    deviation_of n heights (triangles ++ (a ∷ []))
    ≡ max (deviation_of n heights triangles) (greatest (offs_in n heights a))
unfolding deviation_of
deviation_of-append n heights [] a = omega (arith, greatest-append (offs_in n heights a) [])
deviation_of-append n heights (b ∷ rest) a =
    let more = deviation_of-append n heights rest a in
    let left = greatest-append (offs_in n heights b) (flat_map (offs_in n heights) (rest ++ (a ∷ []))) in
    let right = greatest-append (offs_in n heights b) (flat_map (offs_in n heights) rest) in
    omega arith

pub deviation_of-more : (n : ℕ) (heights triangles : List ℕ) (i d : ℕ) → i < length triangles →
    deviation_of n heights (take (i + 1) triangles)
    ≡ max (deviation_of n heights (take i triangles)) (greatest (offs_in n heights (get_or triangles i d)))
deviation_of-more n heights triangles i d below =
    ap (deviation_of n heights) (take_more triangles i d below)
    ∙ deviation_of-append n heights (take i triangles) (get_or triangles i d)

-- of the greatest thickness
thickest_of-append : (n : ℕ) (heights triangles : List ℕ) (a : ℕ) →
    thickest_of n heights (triangles ++ (a ∷ [])) ≡ max (thickest_of n heights triangles) (thickness_of n heights a)
unfolding thickest_of
thickest_of-append n heights [] a = omega arith
thickest_of-append n heights (b ∷ rest) a = let more = thickest_of-append n heights rest a in omega arith

pub thickest_of-more : (n : ℕ) (heights triangles : List ℕ) (i d : ℕ) → i < length triangles →
    thickest_of n heights (take (i + 1) triangles)
    ≡ max (thickest_of n heights (take i triangles)) (thickness_of n heights (get_or triangles i d))
thickest_of-more n heights triangles i d below =
    ap (thickest_of n heights) (take_more triangles i d below)
    ∙ thickest_of-append n heights (take i triangles) (get_or triangles i d)

-- of none
pub deviation_of-none : (n : ℕ) (heights : List ℕ) → deviation_of n heights [] ≡ 0
unfolding deviation_of
deviation_of-none n heights = refl

pub thickest_of-none : (n : ℕ) (heights : List ℕ) → thickest_of n heights [] ≡ 0
unfolding thickest_of
thickest_of-none n heights = refl

-- a leaf's level
pub level-leaf : (n : ℕ) (has : ℕ → Bool) (leaves : List ℕ) (i a : ℕ) → leaves ≡ leaves_of n has → i < length leaves →
    a ≡ get_or leaves i a → level_of a ≤ 2 * n
level-leaf n has leaves i a is below at =
    let addresses : All (IsAddress n) leaves =
    subst (λ (xs : List ℕ). All (IsAddress n) xs) (sym is) (IsAddress-leaves_of n has) in
    subst (λ z. level_of z ≤ 2 * n) (sym at) (level-le n (get_or leaves i a) (addresses i a below))
