-- Products with a slope along a range: greatest at the far end, least at the near one; and how large they are.
use Rattle.std.proofs.Common.{◌≡◌, ℕ, zero, suc, ◌^◌, ◌≤◌, false, arith, ℤ, pos, negsuc, ◌*ℤ◌, ◌≤ℤ◌, unsigned_abs}
use Rattle.std.proofs.Common.{int_lt, FitsSigned, w64}
use Rattle.std.proofs.Math.IntN.{zero-*ℤ, suc_ℤ-*ℤ, pred_ℤ-*ℤ}
use Rattle.std.proofs.Math.Nat.{mul-le-mul}
use Rattle.std.proofs.lemmas.Int.{ints, unsigned_abs-mul, fits_signed_from_abs}
use Rattle.cull_marks.specs.Plane.{far_end}

-- a slope that is no less than 0 keeps the order
rising : (n : ℕ) (x y : ℤ) → x ≤ℤ y → (pos n *ℤ x) ≤ℤ (pos n *ℤ y)
rising zero x y le = omega (arith, ints, zero-*ℤ x, zero-*ℤ y)
rising (suc n) x y le = omega (arith, ints, suc_ℤ-*ℤ (pos n) x, suc_ℤ-*ℤ (pos n) y, rising n x y le)

-- a slope below 0 turns it round
falling : (n : ℕ) (x y : ℤ) → x ≤ℤ y → (negsuc n *ℤ y) ≤ℤ (negsuc n *ℤ x)
falling zero x y le =
    omega (arith, ints, zero-*ℤ x, zero-*ℤ y, pred_ℤ-*ℤ (pos 0) x, pred_ℤ-*ℤ (pos 0) y)
falling (suc n) x y le =
    omega (arith, ints, pred_ℤ-*ℤ (negsuc n) x, pred_ℤ-*ℤ (negsuc n) y, falling n x y le)

no_less : (n : ℕ) → int_lt (pos n) (pos 0) ≡ false
no_less n = grind (arith, ints)

-- no product along the range is greater than that at the far end
pub below_far : (a x low high : ℤ) → low ≤ℤ x → x ≤ℤ high → (a *ℤ x) ≤ℤ (a *ℤ far_end a low high)
below_far (pos n) x low high over under = rw (no_less n) (rising n x high under)
below_far (negsuc n) x low high over under = falling n low x over

-- no product along the range is less than that at the near end
pub above_near : (a x low high : ℤ) → low ≤ℤ x → x ≤ℤ high → (a *ℤ far_end a high low) ≤ℤ (a *ℤ x)
above_near (pos n) x low high over under = rw (no_less n) (rising n low x over)
above_near (negsuc n) x low high over under = falling n x high under

-- how large a product is
pub product_small : (a x : ℤ) → unsigned_abs a ≤ 2 ^ 20 → unsigned_abs x ≤ 2 ^ 24 → unsigned_abs (a *ℤ x) ≤ 2 ^ 44
product_small a x slope reach = omega (arith, unsigned_abs-mul a x, mul-le-mul slope reach)

-- what is at most 2 ^ 50 in size fits
pub small_fits : (z : ℤ) → unsigned_abs z ≤ 2 ^ 50 → FitsSigned w64 z
small_fits z small = fits_signed_from_abs w64 z (omega arith)
