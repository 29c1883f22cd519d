-- Priorities that fall from parent to child, as thickness over distance does.
use Rattle.std.specs.Prelude.{◌≡◌, ℕ, ◌*◌, ◌/◌, ◌≤◌}
use Rattle.mesh_defs.specs.Triangle.{level_of, IsAddress}

-- no child is above its parent, so that it never ranks before it; and a finest triangle has priority 0
pub record IsFalling (n : ℕ) (priority : ℕ → ℕ) : Type 0 where
  pub finest : (a : ℕ) → IsAddress n a → level_of a ≡ 2 * n → priority a ≡ 0
  pub child : (a : ℕ) → IsAddress n a → 4 ≤ a → priority a ≤ priority (a / 2)
