-- Thresholds: none at 0, and the order of ratios is kept.
use Rattle.std.proofs.Common.{◌≡◌, ℕ, ◌≤◌, ◌↔◌, nat_lt, arith}
use Rattle.mesh_defs.specs.Priority.{above}

-- at threshold 0 a ratio stays as it is
pub above-none : (p : ℕ) → above 0 p ≡ p
above-none p = grind arith

-- a greater ratio is no less above a threshold
pub above-order : (t p q : ℕ) → p ≤ q → above t p ≤ above t q
above-order t p q le = grind arith

-- what is above the threshold is what has more than 0 left
pub lt-above : (t p : ℕ) → nat_lt 0 (above t p) ≡ nat_lt t (above 0 p)
lt-above t p = grind arith

-- what is good enough has 0, and nothing else has
pub above-good : (t p : ℕ) → (above t p ≡ 0) ↔ (p ≤ t)
above-good t p = grind arith
