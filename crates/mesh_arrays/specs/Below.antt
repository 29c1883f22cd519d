-- What lies below a triangle. This project's own.
-- Words: is_at_or_below.
use Rattle.std.specs.Prelude.{ℕ, Bool, ◌||◌, nat_eq}
use Rattle.mesh_laws.specs.Ancestors.{is_above}

-- a is t, or lies below it
abbrev pub is_at_or_below : ℕ → ℕ → Bool
is_at_or_below t a = nat_eq a t || is_above t a
