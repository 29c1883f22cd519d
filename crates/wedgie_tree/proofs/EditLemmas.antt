-- What a change of heights leaves: a triangle lies in its bounding rectangle, and its thickness and box depend
-- on the points that it holds alone.
use Rattle.std.proofs.Common.{◌≡◌, ℕ, zero, suc, ◌+◌, ◌-◌, ◌*◌, ◌^◌, ◌<◌, ◌≤◌, Bool, true, false, cond, List, [], ◌∷◌}
use Rattle.std.proofs.Common.{map, refl, ap, ◌∙◌, arith, subst}
use Rattle.std.proofs.lemmas.Bool.{or_left, or_right}
use Rattle.std.proofs.lemmas.Nat.{pow_pos}
use Rattle.std.specs.List.{filter}
use Rattle.mesh_defs.specs.declared.point.Point.{Point}
use Rattle.mesh_defs.specs.declared.point.Corners.{Corners}
use Rattle.mesh_defs.specs.HeightField.{HeightField}
use Rattle.mesh_defs.specs.Triangle.{level_of, corners_of, midpoint, IsSplittable}
use Rattle.mesh_defs.specs.Thickness.{height_of, deviation, apart, thickness_under, thickness_of}
use Rattle.mesh_defs.specs.BoundingBox.{is_in_closed, holds_point, points_of, heights_in, low_of, high_of, box_of}
use Rattle.bintree_laws.specs.Corners.{IsWithin}
use Rattle.wedgie_tree.specs.declared.wedge.Wedge.{Wedge}
use Rattle.wedgie_tree.specs.Table.{IsWedge}
use Rattle.bintree_laws.specs.Areas.{IsInRectangle}
use Rattle.wedgie_tree.specs.Edits.{AgreesOn}
use Rattle.wedgie_tree.proofs.AreaLemmas.{AddressLaws, mean-held, v0-held, v1-held}
use Rattle.wedgie_tree.proofs.HeightLemmas.{holds_point-children, apex-passes}
use Rattle.bintree_laws.proofs.WeightLemmas.{HasArea, HasArea-corners_of, IsInRectangle-mean}

-- ---- a held point lies in the bounding rectangle

-- a triangle with some area lies in its bounding rectangle
in-rectangle : (c : Corners) (r : Point) (d : ℕ) → 0 < d → HasArea c d → is_in_closed c r ≡ true → IsInRectangle c r
in-rectangle c r d some h held = let m = mean-held c r d h held in IsInRectangle-mean d c r m.0 m.1 m.2 some m.3

-- a point that a triangle of the grid holds lies in the bounding rectangle of its corners
pub IsInRectangle-held : AddressLaws → (n a : ℕ) (r : Point) → 2 ≤ a → level_of a ≤ 2 * n → holds_point n a r ≡ true →
    IsInRectangle (corners_of n a) r
IsInRectangle-held laws n a r low fits held =
    in-rectangle (corners_of n a) r (2 ^ (2 * n - level_of a)) (pow_pos (2 * n - level_of a))
    (HasArea-corners_of n a fits) held

-- a held point is a grid point
pub held-x : AddressLaws → (n a : ℕ) (r : Point) → 2 ≤ a → level_of a ≤ 2 * n → holds_point n a r ≡ true → r.x ≤ 2 ^ n
held-x laws n a r low fits held =
    let in_rectangle : IsInRectangle (corners_of n a) r = IsInRectangle-held laws n a r low fits held in
    let w : IsWithin (2 ^ n) (corners_of n a) = laws.within n a in
    omega (arith, in_rectangle.right, w.apex_x, w.v0_x, w.v1_x)

-- the same of the row
pub held-y : AddressLaws → (n a : ℕ) (r : Point) → 2 ≤ a → level_of a ≤ 2 * n → holds_point n a r ≡ true → r.y ≤ 2 ^ n
held-y laws n a r low fits held =
    let in_rectangle : IsInRectangle (corners_of n a) r = IsInRectangle-held laws n a r low fits held in
    let w : IsWithin (2 ^ n) (corners_of n a) = laws.within n a in
    omega (arith, in_rectangle.top, w.apex_y, w.v0_y, w.v1_y)

-- ---- what children hold

-- a triangle holds what its left child holds
pub held-left : AddressLaws → (n a : ℕ) → IsSplittable n a → (r : Point) → holds_point n (2 * a) r ≡ true →
    holds_point n a r ≡ true
held-left laws n a split r held =
    holds_point-children laws n a split r ∙ or_left (holds_point n (2 * a) r) (holds_point n (2 * a + 1) r) held

-- a triangle holds what its right child holds
pub held-right : AddressLaws → (n a : ℕ) → IsSplittable n a → (r : Point) → holds_point n (2 * a + 1) r ≡ true →
    holds_point n a r ≡ true
held-right laws n a split r held =
    holds_point-children laws n a split r ∙ or_right (holds_point n (2 * a) r) (holds_point n (2 * a + 1) r) held

-- ---- boxes

map-cond : (f g : Point → ℕ) (b : Bool) (x : Point) (xs : List Point) → (b ≡ true → f x ≡ g x) → map f xs ≡ map g xs →
    map f (cond b (x ∷ xs) xs) ≡ map g (cond b (x ∷ xs) xs)
map-cond f g true x xs here rest = rw (here refl, rest) refl
map-cond f g false x xs here rest = rest

map-filter : (f g : Point → ℕ) (p : Point → Bool) → ((r : Point) → p r ≡ true → f r ≡ g r) → (xs : List Point) →
    map f (filter p xs) ≡ map g (filter p xs)
map-filter f g p same [] = refl
map-filter f g p same (x ∷ xs) = map-cond f g (p x) x (filter p xs) (same x) (map-filter f g p same xs)

heights_in-same : (n : ℕ) (heights others : List ℕ) (a : ℕ) → AgreesOn n heights others a →
    heights_in n heights a ≡ heights_in n others a
heights_in-same n heights others a agrees =
    map-filter (height_of n heights) (height_of n others) (holds_point n a) agrees (points_of n)

-- the least height in a triangle depends on the heights of the held points alone
pub low_of-same : (n : ℕ) (heights others : List ℕ) (a : ℕ) → AgreesOn n heights others a →
    low_of n heights a ≡ low_of n others a
unfolding low_of
low_of-same n heights others a agrees = rw (heights_in-same n heights others a agrees) refl

-- and so does the greatest
pub high_of-same : (n : ℕ) (heights others : List ℕ) (a : ℕ) → AgreesOn n heights others a →
    high_of n heights a ≡ high_of n others a
unfolding high_of
high_of-same n heights others a agrees = rw (heights_in-same n heights others a agrees) refl

-- the box depends on the held points alone
pub box_of-same : (n : ℕ) (heights others : List ℕ) (spacing a : ℕ) → AgreesOn n heights others a →
    box_of n heights spacing a ≡ box_of n others spacing a
unfolding box_of
box_of-same n heights others spacing a agrees =
    rw (low_of-same n heights others a agrees, high_of-same n heights others a agrees) refl

-- ---- thickness

apart-same : (i j k l u v : ℕ) → i ≡ j → k ≡ l → u ≡ v → apart (2 * i) (k + u) ≡ apart (2 * j) (l + v)
apart-same i j k l u v e f g = rw (e, f, g) refl

-- the midpoint of the base is held: it is the apex of the left child
middle-held : AddressLaws → (n a : ℕ) → IsSplittable n a →
    holds_point n a (midpoint (corners_of n a).v0 (corners_of n a).v1) ≡ true
middle-held laws n a split =
    let held : holds_point n (2 * a) (corners_of n (2 * a)).apex ≡ true =
    apex-passes laws n (2 * a) (omega (arith, split.low)) (omega (arith, laws.left a split.low, split.coarse)) in
    let at : (corners_of n (2 * a)).apex ≡ midpoint (corners_of n a).v0 (corners_of n a).v1 =
    ap (λ (c : Corners). c.apex) (laws.left_corners n a split.low) in
    let P : Point → Type 0 = λ r. holds_point n a r ≡ true in
    subst P at (held-left laws n a split (corners_of n (2 * a)).apex held)

deviation-same : AddressLaws → (n : ℕ) (heights others : List ℕ) (a : ℕ) → IsSplittable n a →
    AgreesOn n heights others a →
    deviation n heights (corners_of n a) ≡ deviation n others (corners_of n a)
deviation-same laws n heights others a split agrees =
    let c : Corners = corners_of n a in
    let some : 2 ≤ a = split.low in
    let coarse : level_of a < 2 * n = split.coarse in
    let area : HasArea c (2 ^ (2 * n - level_of a)) = HasArea-corners_of n a (omega arith) in
    apart-same _ _ _ _ _ _ (agrees (midpoint c.v0 c.v1) (middle-held laws n a split)) (agrees c.v0 (v0-held c _ area))
    (agrees c.v1 (v1-held c _ area))

thickness_under-same : AddressLaws → (levels n : ℕ) (heights others : List ℕ) (a : ℕ) → 2 ≤ a →
    level_of a + levels ≡ 2 * n →
    AgreesOn n heights others a → thickness_under levels n heights a ≡ thickness_under levels n others a
thickness_under-same laws zero n heights others a some level agrees = refl
thickness_under-same laws (suc levels) n heights others a some level agrees =
    let split : IsSplittable n a = record { low = some; coarse = omega arith } in
    rw (
      thickness_under-same laws levels n heights others (2 * a) (omega arith) (omega (arith, laws.left a some))
          (λ r held. agrees r (held-left laws n a split r held)),
      thickness_under-same laws levels n heights others (2 * a + 1) (omega arith) (omega (arith, laws.right a some))
          (λ r held. agrees r (held-right laws n a split r held)),
      deviation-same laws n heights others a split agrees,
    ) refl

-- thickness depends on the held points alone
pub thickness_of-same : AddressLaws → (n : ℕ) (heights others : List ℕ) (a : ℕ) → 2 ≤ a → level_of a ≤ 2 * n →
    AgreesOn n heights others a → thickness_of n heights a ≡ thickness_of n others a
unfolding thickness_of
thickness_of-same laws n heights others a some fits agrees =
    thickness_under-same laws (2 * n - level_of a) n heights others a some (omega arith) agrees

-- a wedge stays right where the heights of the held points stay
pub IsWedge-same : AddressLaws → (g h : HeightField) (a : ℕ) (w : Wedge) → g.n ≡ h.n → 2 ≤ a → level_of a ≤ 2 * g.n →
    AgreesOn g.n g.heights h.heights a → IsWedge g a w → IsWedge h a w
IsWedge-same laws g h a w same some fits agrees right = record {
  thickness = rw (← same) (right.thickness ∙ thickness_of-same laws g.n g.heights h.heights a some fits agrees);
  low = rw (← same) (right.low ∙ low_of-same g.n g.heights h.heights a agrees);
  high = rw (← same) (right.high ∙ high_of-same g.n g.heights h.heights a agrees);
}
