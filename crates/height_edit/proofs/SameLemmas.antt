-- Triangles that an edit does not reach: all heights that they hold are as they were.
use Rattle.std.proofs.Common.{◌≡◌, ℕ, ◌+◌, ◌*◌, ◌^◌, ◌<◌, ◌≤◌, ◌↔◌, true, false, List, arith, subst}
use Rattle.mesh_defs.specs.declared.point.Point.{Point}
use Rattle.mesh_defs.specs.HeightField.{height_at}
use Rattle.mesh_defs.specs.State.{Area, is_in_area}
use Rattle.mesh_defs.specs.Triangle.{level_of, corners_of, IsAddress}
use Rattle.mesh_defs.specs.BoundingBox.{holds_point, point}
use Rattle.bintree_laws.specs.Corners.{IsWithin}
use Rattle.bintree_laws.proofs.LatticeLemmas.{same_point}
use Rattle.bintree_laws.specs.Areas.{IsInRectangle, MeetsArea}
use Rattle.wedgie_tree.specs.Edits.{AgreesOn}

-- what the law functions say that is used here
pub record HeldLaws : Type 0 where
  pub below : (a k : ℕ) → 2 ≤ a → ((level_of a < k) ↔ (a < 2 ^ (k + 1)))
  pub within : (n a : ℕ) → IsWithin (2 ^ n) (corners_of n a)
  pub rectangle : (n a : ℕ) (r : Point) → 2 ≤ a → level_of a ≤ 2 * n → holds_point n a r ≡ true →
      IsInRectangle (corners_of n a) r

-- an address of the grid has a level of the grid
pub level-fits : HeldLaws → (n a : ℕ) → IsAddress n a → level_of a ≤ 2 * n
level-fits laws n a address =
    let high : a < 2 ^ (2 * n + 2) = address.high in
    let same : 2 * n + 1 + 1 ≡ 2 * n + 2 = omega arith in
    let below : level_of a < 2 * n + 1 = (laws.below a (2 * n + 1) address.low).1 (rw same high) in omega arith

-- heights that changed in an area alone agree on a triangle that does not meet the area
pub AgreesOn-area : HeldLaws → (n : ℕ) (new old : List ℕ) (area : Area) →
    ((i j : ℕ) → i ≤ 2 ^ n → j ≤ 2 ^ n → (is_in_area area i j ≡ true → ⊥) → height_at n new i j ≡ height_at n old i j) →
    (a : ℕ) → IsAddress n a → (MeetsArea (corners_of n a) area → ⊥) → AgreesOn n new old a
AgreesOn-area laws n new old area others a address apart = λ r held.
    let inside : IsInRectangle (corners_of n a) r =
    laws.rectangle n a r address.low (level-fits laws n a address) held in
    let w : IsWithin (2 ^ n) (corners_of n a) = laws.within n a in
    others r.x r.y (omega (arith, inside.right, w.apex_x, w.v0_x, w.v1_x))
    (omega (arith, inside.top, w.apex_y, w.v0_y, w.v1_y))
    (λ in_area. apart (r, record { in_rectangle = inside; in_area = in_area }))

-- heights that changed at a point alone agree on a triangle that does not hold the point
pub AgreesOn-point : HeldLaws → (n : ℕ) (new old : List ℕ) (x y : ℕ) →
    ((i j : ℕ) → i ≤ 2 ^ n → j ≤ 2 ^ n → (i ≡ x → j ≡ y → ⊥) → height_at n new i j ≡ height_at n old i j) →
    (a : ℕ) → IsAddress n a → holds_point n a (point x y) ≡ false → AgreesOn n new old a
AgreesOn-point laws n new old x y others a address apart = λ r held.
    let inside : IsInRectangle (corners_of n a) r =
    laws.rectangle n a r address.low (level-fits laws n a address) held in
    let w : IsWithin (2 ^ n) (corners_of n a) = laws.within n a in
    others r.x r.y (omega (arith, inside.right, w.apex_x, w.v0_x, w.v1_x))
    (omega (arith, inside.top, w.apex_y, w.v0_y, w.v1_y))
    (λ at_x at_y. let P : Point → Type 0 = λ q. holds_point n a q ≡ true in
    let here : holds_point n a (point x y) ≡ true = subst P (same_point r.x r.y x y at_x at_y) held in
    absurd (cc (here, apart)))
