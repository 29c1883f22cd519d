-- Runs of a depth-first list, and what becomes of them.
-- Words: turned, facing, IsFront, IsArranged.
use Rattle.std.specs.Prelude.{◌≡◌, ℕ, ◌+◌, ◌≤◌, Bool, true, false, List, ◌++◌, length, reverse}
use Rattle.mesh_defs.specs.Triangle.{level_of}
use Rattle.mesh_defs.specs.ClosedSet.{leaves_under}
use Rattle.mesh_laws.specs.Strip.{has_even_level, strip_under}

-- a list, or that list backwards
abbrev pub turned : Bool → List ℕ → List ℕ
turned true strip = strip
turned false strip = reverse strip

-- the strip of a triangle of even level, and that of one of odd level backwards
abbrev pub facing : ℕ → (ℕ → Bool) → ℕ → List ℕ
facing levels has a = turned (has_even_level a) (strip_under levels has a)

-- the run begins with the leaves at and below a, depth first
pub record IsFront (levels : ℕ) (has : ℕ → Bool) (a : ℕ) (rest run : List ℕ) : Type 0 where
  pub low : 2 ≤ a
  pub deep : levels + level_of a ≤ 28
  pub is : run ≡ leaves_under levels has a ++ rest

-- these count so many, and were put in the order that faces so
pub record IsArranged (levels : ℕ) (has : ℕ → Bool) (a : ℕ) (rest run : List ℕ) (count : ℕ) : Type 0 where
  pub counted : count ≡ length (leaves_under levels has a)
  pub is : run ≡ facing levels has a ++ rest
