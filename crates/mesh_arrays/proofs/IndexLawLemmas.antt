-- Indices, read back as triangles, are the triangles that they were written of.
use Rattle.std.proofs.Common.{◌≡◌, ℕ, ◌+◌, ◌-◌, ◌/◌, ◌%◌, ◌^◌, ◌<◌, ◌≤◌, Bool, List, [], ◌∷◌, map, refl, sym, ap, ◌∙◌}
use Rattle.std.proofs.Common.{subst, cond, arith}
use Rattle.std.specs.List.{All, count_by}
use Rattle.std.proofs.lemmas.Nat.{div-mul-add, mod-mul-add}
use Rattle.std.proofs.lemmas.List.Elements.{All-map, All-weaker}
use Rattle.std.proofs.lemmas.List.Folds.{fold-map}
use Rattle.mesh_defs.specs.declared.point.Point.{Point}
use Rattle.mesh_defs.specs.HeightField.{side_of}
use Rattle.mesh_defs.specs.Triangle.{corners_of, IsAddress}
use Rattle.mesh_defs.specs.Tiling.{is_within, IsConforming}
use Rattle.bintree_laws.specs.Corners.{IsWithin, IsCounterclockwise}
use Rattle.bintree_laws.proofs.CornerLemmas.{IsWithin-corners_of}
use Rattle.mesh_laws.proofs.OrientationLemmas.{counterclockwise}
use Rattle.mesh_arrays.specs.Indices.{index_of, indices_of, point_at, triangles_at, CoversOnce}

-- a grid point is found at its place
pub point_at-index_of : (n : ℕ) (p : Point) → p.x ≤ 2 ^ n → p.y ≤ 2 ^ n → point_at n (index_of n p) ≡ p
point_at-index_of n p column row =
    let within : p.x < side_of n = omega arith in
    let x : index_of n p % side_of n ≡ p.x = mod-mul-add (2 ^ n - p.y) (side_of n) p.x within in
    let line : index_of n p / side_of n ≡ 2 ^ n - p.y = div-mul-add (2 ^ n - p.y) (side_of n) p.x within in
    let y : 2 ^ n - index_of n p / side_of n ≡ p.y = omega arith in
    λ i. record { x = x i; y = y i }

-- the triangles of the indices are those of which they were written
pub triangles_at-indices_of : (n : ℕ) (triangles : List ℕ) →
    triangles_at n (indices_of n triangles) ≡ map (corners_of n) triangles
triangles_at-indices_of n [] = refl
triangles_at-indices_of n (a ∷ triangles) =
    let w : IsWithin (2 ^ n) (corners_of n a) = IsWithin-corners_of n a in
    let apex = point_at-index_of n (corners_of n a).apex w.apex_x w.apex_y in
    let v0 = point_at-index_of n (corners_of n a).v0 w.v0_x w.v0_y in
    let v1 = point_at-index_of n (corners_of n a).v1 w.v1_x w.v1_y in
    let others = triangles_at-indices_of n triangles in
    λ i. record { apex = apex i; v0 = v0 i; v1 = v1 i } ∷ others i

-- as many of the images pass as of the list
count_by-map : {X Y : Type 0} (p : Y → Bool) (f : X → Y) (xs : List X) →
    count_by p (map f xs) ≡ count_by (λ x. p (f x)) xs
count_by-map p f xs = fold-map (λ k y. k + cond (p y) 1 0) f 0 xs

-- the indices of a conforming list cover the square once
pub CoversOnce-indices_of : (n : ℕ) (triangles : List ℕ) → IsConforming n triangles →
    CoversOnce n (triangles_at n (indices_of n triangles))
CoversOnce-indices_of n triangles conforming x y sample =
    ap (count_by (is_within x y)) (triangles_at-indices_of n triangles)
    ∙ count_by-map (is_within x y) (corners_of n) triangles ∙ conforming.tiles x y sample

-- each of its triangles is named counterclockwise
pub All-IsCounterclockwise-indices_of : (n : ℕ) (triangles : List ℕ) → IsConforming n triangles →
    All IsCounterclockwise (triangles_at n (indices_of n triangles))
All-IsCounterclockwise-indices_of n triangles conforming =
    subst (All IsCounterclockwise) (sym (triangles_at-indices_of n triangles))
    (All-map IsCounterclockwise (corners_of n) triangles
    (All-weaker (IsAddress n) (λ a. IsCounterclockwise (corners_of n a))
    (counterclockwise n) triangles conforming.addresses))
