-- Square roots, rounded down: unique, and they keep the order.
use Rattle.std.proofs.Common.{◌⊎◌, inl, inr, ◌≡◌, ℕ, ◌+◌, ◌*◌, ◌-◌, ◌^◌, ◌<◌, ◌≤◌, ℤ, refl, arith}
use Rattle.std.proofs.Math.Nat.{mul-le-mul}
use Rattle.std.proofs.lemmas.Bool.{cases_lt}
use Rattle.mesh_defs.specs.BoundingBox.{BoundingBox, CameraAt, IsRoot, gap, squared_distance, root_of, distance_of}

-- a root is no greater than a number whose next square is above the whole
pub root-at_most : (s r k : ℕ) → r * r ≤ s → s < (k + 1) * (k + 1) → r ≤ k
root-at_most s r k within above = by_cases (cases_lt k r)
  where
    by_cases : ((k < r) ⊎ (r ≤ k)) → r ≤ k
    by_cases (inl more) =
        let next : k + 1 ≤ r = omega arith in absurd (omega (arith, mul-le-mul next next))
    by_cases (inr le) = le

-- the root of a lesser number is no greater
pub root-order : (s t r q : ℕ) → IsRoot s r → IsRoot t q → s ≤ t → r ≤ q
root-order s t r q root_s root_t le = root-at_most t r q (omega arith) root_t.next_square_above

pub root-unique : (s r q : ℕ) → IsRoot s r → IsRoot s q → r ≡ q
root-unique s r q root_r root_q =
    let le : r ≤ q = root-order s s r q root_r root_q (omega arith) in
    let ge : q ≤ r = root-order s s q r root_q root_r (omega arith) in omega arith

-- the root of less than 2 ^ 62 is below 2 ^ 31
pub root-small : (s r : ℕ) → r * r ≤ s → s < 2 ^ 62 → r < 2 ^ 31
root-small s r within small = omega (arith, root-at_most s r (2 ^ 31 - 1) within (omega arith))

-- ---- for the code

-- the sum of the squares, from the gaps that the code finds
pub squared_distance-by_gaps : (box : BoundingBox) (camera : CameraAt) (i j k : ℤ) (x y z : ℕ) → i ≡ camera.x →
    j ≡ camera.y → k ≡ camera.z → x ≡ gap i box.x0 box.x1 → y ≡ gap j box.y0 box.y1 → z ≡ gap k box.z0 box.z1 →
    x * x + y * y + z * z ≡ squared_distance box camera
squared_distance-by_gaps box camera i j k x y z i_is j_is k_is x_is y_is z_is =
    rw (x_is, y_is, z_is, i_is, j_is, k_is) refl

module _ (box : BoundingBox) (camera : CameraAt) (s r : ℕ) (s_is : s ≡ squared_distance box camera)
    (within : r * r ≤ s) (above : s < (r + 1) * (r + 1)) where
  pub IsRoot-squared_distance : IsRoot (squared_distance box camera) r
  IsRoot-squared_distance =
      rw (← s_is) (record { square_within = within; next_square_above = above })

  pub distance_of-root : IsRoot (squared_distance box camera) (root_of (squared_distance box camera)) →
      r ≡ distance_of box camera
  unfolding distance_of
  distance_of-root root = root-unique _ _ _ IsRoot-squared_distance root
