-- A closed set as the code has it: the members in ascending order. The definition is this project's own;
-- forced splits are those of Duchaineau et al., "ROAMing Terrain", IEEE Visualization 1997, section 4.
-- Words: GridSet, IsAscending, IsGridSet, IsForced, IsGain.
use Rattle.std.specs.Prelude.{◌≡◌, ℕ, ◌+◌, ◌<◌, ◌≤◌, List, [], ◌∷◌, length, All}
use Rattle.mesh_defs.specs.ClosedSet.{IsClosed, IsLeastClosed, among}
use Rattle.mesh_defs.specs.Greedy.{with_triangle}
use Rattle.mesh_defs.specs.declared.level.TheConstants.{GREATEST_LEVEL}

-- a set of triangles of the grid with this n: its members in ascending order
pub record GridSet : Type 0 where
  pub n : ℕ
  pub members : List ℕ

-- each entry is less than all that follow it
abbrev pub IsAscending : List ℕ → Type 0
IsAscending [] = Unit {0}
IsAscending (x ∷ xs) = All (λ y. x < y) xs × IsAscending xs

-- a closed set of a grid of side 2 ^ n
pub record IsGridSet (n : ℕ) (members : List ℕ) : Type 0 where
  pub n_low : 1 ≤ n
  pub n_high : n ≤ GREATEST_LEVEL
  pub ascending : IsAscending members
  pub closed : IsClosed n (among members)

-- after is the least closed set with before and t
pub record IsForced (n : ℕ) (before : List ℕ) (t : ℕ) (after : List ℕ) : Type 0 where
  pub ascending : IsAscending after
  pub least : IsLeastClosed n (with_triangle (among before) t) (among after)

-- the least closed set with before and t has so many members more than before
pub record IsGain (n : ℕ) (before : List ℕ) (t gain : ℕ) : Type 0 where
  pub after : List ℕ
  pub forced : IsForced n before t after
  pub grown : length after ≡ length before + gain
