-- Places in the list of heights: of a base's midpoint half the sum of its ends' places; all within the list.
use Rattle.std.proofs.Common.{◌≡◌, ℕ, ◌+◌, ◌-◌, ◌*◌, ◌/◌, ◌%◌, ◌^◌, ◌<◌, ◌≤◌, List, length, refl, ap, arith}
use Rattle.std.proofs.Common.{slice_index}
use Rattle.std.proofs.Math.Nat.{mul-le-mul_left}
use Rattle.mesh_defs.specs.declared.point.Corners.{Corners}
use Rattle.mesh_defs.specs.HeightField.{HeightField, IsHeightField, place_of}
use Rattle.mesh_defs.specs.Triangle.{level_of, corners_of, midpoint}
use Rattle.mesh_defs.specs.Thickness.{deviation, apart}
use Rattle.bintree_laws.specs.Corners.{IsWithin, HasEvenBase}
use Rattle.wedgie_tree.specs.declared.fine.Places.{Places}
use Rattle.wedgie_tree.specs.Places.{IsAt}
use Rattle.wedgie_tree.proofs.AreaLemmas.{AddressLaws}

-- a place of a square of side m
place-within : (m x y : ℕ) → x ≤ m → (m - y) * (m + 1) + x < (m + 1) * (m + 1)
place-within m x y in_columns =
    let rows : (m + 1) * (m - y) ≤ (m + 1) * m = mul-le-mul_left (m + 1) (omega arith) in omega arith

-- halfway between two points of a square of side m
place-halfway : (m px py qx qy : ℕ) → py ≤ m → qy ≤ m → (px + qx) % 2 ≡ 0 → (py + qy) % 2 ≡ 0 →
    (((m - py) * (m + 1) + px) + ((m - qy) * (m + 1) + qx)) / 2 ≡ (m - (py + qy) / 2) * (m + 1) + (px + qx) / 2
place-halfway m px py qx qy p_in q_in even_x even_y =
    let rows : (m - py) + (m - qy) ≡ 2 * (m - (py + qy) / 2) = omega arith in
    let all : ((m - py) + (m - qy)) * (m + 1) ≡ 2 * (m - (py + qy) / 2) * (m + 1) = ap (λ t. t * (m + 1)) rows in
    omega arith

-- the three places of a triangle's corners lie within the list
pub record AreWithin (p : Places) (count : ℕ) : Type 0 where
  pub apex : p.apex < count
  pub v0 : p.v0 < count
  pub v1 : p.v1 < count

-- the places of the corners of a triangle of a height field lie within its list of heights
pub AreWithin-at : AddressLaws → (g : HeightField) (a : ℕ) (p : Places) → IsHeightField g →
    IsAt g.n (corners_of g.n a) p →
    AreWithin p (length g.heights)
AreWithin-at laws g a p valid at =
    let c : Corners = corners_of g.n a in
    let w : IsWithin (2 ^ g.n) c = laws.within g.n a in
    record {
      apex = rw (at.apex, valid.count) (place-within (2 ^ g.n) c.apex.x c.apex.y w.apex_x);
      v0 = rw (at.v0, valid.count) (place-within (2 ^ g.n) c.v0.x c.v0.y w.v0_x);
      v1 = rw (at.v1, valid.count) (place-within (2 ^ g.n) c.v1.x c.v1.y w.v1_x);
    }

-- the place of the midpoint of a triangle's base
pub middle-at : AddressLaws → (n a : ℕ) (p : Places) → level_of a < 2 * n → IsAt n (corners_of n a) p →
    (p.v0 + p.v1) / 2 ≡ place_of n (midpoint (corners_of n a).v0 (corners_of n a).v1).x
    (midpoint (corners_of n a).v0 (corners_of n a).v1).y
middle-at laws n a p coarse at =
    let c : Corners = corners_of n a in
    let w : IsWithin (2 ^ n) c = laws.within n a in
    let even : HasEvenBase c = laws.even n a coarse in
    rw (at.v0, at.v1) (place-halfway (2 ^ n) c.v0.x c.v0.y c.v1.x c.v1.y w.v0_y w.v1_y even.x even.y)

-- the places of the children
pub IsAt-left : AddressLaws → (n a : ℕ) (p : Places) → 2 ≤ a → level_of a < 2 * n → IsAt n (corners_of n a) p →
    IsAt n (corners_of n (2 * a)) (record { apex = (p.v0 + p.v1) / 2; v0 = p.apex; v1 = p.v0 })
IsAt-left laws n a p some coarse at = rw (laws.left_corners n a some) (record {
  apex = middle-at laws n a p coarse at;
  v0 = at.apex;
  v1 = at.v0;
})

-- the right child has the middle of the base, its second end and the apex
pub IsAt-right : AddressLaws → (n a : ℕ) (p : Places) → 2 ≤ a → level_of a < 2 * n → IsAt n (corners_of n a) p →
    IsAt n (corners_of n (2 * a + 1)) (record { apex = (p.v0 + p.v1) / 2; v0 = p.v1; v1 = p.apex })
IsAt-right laws n a p some coarse at = rw (laws.right_corners n a some) (record {
  apex = middle-at laws n a p coarse at;
  v0 = at.v1;
  v1 = at.apex;
})

-- the deviation by places
pub deviation-at : AddressLaws → (n : ℕ) (heights : List ℕ) (a : ℕ) (p : Places) → level_of a < 2 * n →
    IsAt n (corners_of n a) p →
    apart (2 * slice_index heights ((p.v0 + p.v1) / 2)) (slice_index heights p.v0 + slice_index heights p.v1)
    ≡ deviation n heights (corners_of n a)
deviation-at laws n heights a p coarse at = rw (middle-at laws n a p coarse at, at.v0, at.v1) refl
