-- What a mesh may split where only some triangles are known, and the priorities that keep it there.
-- This project's own. Words: IsOpen, with_known_mate, opened.
use Rattle.std.specs.Prelude.{ℕ, Bool, ◌&&◌, ◌||◌, cond, nat_eq}
use Rattle.mesh_defs.specs.ClosedSet.{IsClosed, IsSubset}
use Rattle.mesh_laws.specs.Edge.{mate_of}

-- The open triangles are the greatest closed set of known ones: those that some mesh of known triangles splits.
pub record IsOpen (n : ℕ) (known is_open : ℕ → Bool) : Type 0 where
  pub closed : IsClosed n is_open
  pub inside : IsSubset is_open known
  pub greatest : (other : ℕ → Bool) → IsClosed n other → IsSubset other known → IsSubset other is_open

-- the known triangles that have no mate, or a known one
abbrev pub with_known_mate : (ℕ → Bool) → ℕ → Bool
with_known_mate known a = known a && (nat_eq (mate_of a) 0 || known (mate_of a))

-- the priorities of what is open, and 0 elsewhere
abbrev pub opened : (ℕ → Bool) → (ℕ → ℕ) → ℕ → ℕ
opened is_open priority a = cond (is_open a) (priority a) 0
