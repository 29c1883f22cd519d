-- The ancestors of the entries of a list, and when a list is the leaves of a set.
-- Words: halves_to, is_above, ancestors_of, AreLeaves.
use Rattle.std.specs.Prelude.{◌≡◌, ℕ, zero, suc, ◌/◌, Bool, false, ◌&&◌, ◌||◌, nat_eq, nat_lt, List, count_by}
use Rattle.std.specs.List.{list_any}
use Rattle.mesh_defs.specs.ClosedSet.{leaves_of}

-- some number of halvings, of one to steps, brings e to a
abbrev pub halves_to : ℕ → ℕ → ℕ → Bool
halves_to zero e a = false
halves_to (suc steps) e a = nat_eq (e / 2) a || halves_to steps (e / 2) a

-- a is a proper ancestor of e: an address, and e comes to it by halving once or more
unfoldable pub is_above : ℕ → ℕ → Bool
is_above a e = nat_lt 1 a && halves_to e e a

-- the set of all proper ancestors of the entries
abbrev pub ancestors_of : List ℕ → ℕ → Bool
ancestors_of triangles a = list_any (λ e. is_above a e) triangles

-- the leaves of the set are the entries of the list, each address as often in the one as in the other
pub record AreLeaves (n : ℕ) (has : ℕ → Bool) (triangles : List ℕ) : Type 0 where
  pub counts : (a : ℕ) → count_by (λ t. nat_eq t a) (leaves_of n has) ≡ count_by (λ t. nat_eq t a) triangles
