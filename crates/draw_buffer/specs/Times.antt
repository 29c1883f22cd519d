-- How often a number stands in a list.
use Rattle.std.specs.Prelude.{ℕ, nat_eq, List, count_by, if◌then◌else◌}

-- how often the number stands in the list
unfoldable pub times : List ℕ → ℕ → ℕ
times numbers a = count_by (λ t. nat_eq t a) numbers

-- 1 if both are one number, else 0
unfoldable pub same : ℕ → ℕ → ℕ
same t a = if nat_eq t a then 1 else 0
