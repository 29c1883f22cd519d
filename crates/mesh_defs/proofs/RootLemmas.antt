-- The square root by digits in base 2 is the square root, rounded down.
use Rattle.std.proofs.Common.{◌≡◌, ℕ, zero, suc, ◌+◌, ◌*◌, ◌/◌, ◌≤◌, Bool, true, false, leb, refl, sym, arith, leb-true}
use Rattle.std.proofs.Common.{leb-false, if◌then◌else◌}
use Rattle.mesh_defs.specs.BoundingBox.{IsRoot, root_by, root_of}

-- one more digit: from the root r of a quarter, twice r or one more
IsRoot-digit : (b : Bool) (s r : ℕ) → b ≡ leb ((2 * r + 1) * (2 * r + 1)) s → IsRoot (s / 4) r →
    IsRoot s (if b then 2 * r + 1 else 2 * r)
IsRoot-digit true s r e h = record {
  square_within = leb-true _ s (sym e);
  next_square_above = omega arith;
}
IsRoot-digit false s r e h = record {
  square_within = omega arith;
  next_square_above = leb-false _ s (sym e);
}

-- the root by at least as many digits as the number's value is the root
IsRoot-root_by : (steps s : ℕ) → s ≤ steps → IsRoot s (root_by steps s)
IsRoot-root_by zero zero h = record { square_within = omega arith; next_square_above = omega arith }
IsRoot-root_by zero (suc k) h = absurd (omega arith)
IsRoot-root_by (suc steps) zero h = record { square_within = omega arith; next_square_above = omega arith }
IsRoot-root_by (suc steps) (suc k) h =
    IsRoot-digit _ (suc k) (root_by steps (suc k / 4)) refl (IsRoot-root_by steps (suc k / 4) (omega arith))

-- the root by digits is the root, rounded down
pub root_of-IsRoot : (s : ℕ) → IsRoot s (root_of s)
unfolding root_of
root_of-IsRoot s = IsRoot-root_by s s (omega arith)
