-- The chief of a diamond: the member under whose slot the diamond's entry stands.
use Rattle.std.specs.Prelude.{ℕ, nat_lt, min, true, false}
use Rattle.mesh_laws.specs.Edge.{mate_of}

-- the lesser of a and its mate, or a where it has none
abbrev pub chief_of : ℕ → ℕ
chief_of a = elim (nat_lt 0 (mate_of a)) as (λ _. ℕ) [ true ↦ min a (mate_of a) | false ↦ a ]
