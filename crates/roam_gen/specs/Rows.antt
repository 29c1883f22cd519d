-- What stands in a row of heights while it is made, and in a grid whose rows are made one after the other.
-- Words: cell_at, IsCellSmall, HasOctaves, HasRow, Wrote.
use Rattle.std.specs.Prelude.{◌≡◌, ℕ, ◌+◌, ◌<◌, ◌≤◌, ◌^◌, List, ◌++◌, length, slice_index, Option, Some}
use Rattle.mesh_defs.specs.HeightField.{HeightField, height_at}
use Rattle.roam_gen.specs.declared.octave.Cell.{Cell}
use Rattle.roam_gen.specs.Generated.{lattice_from, octaves, made_height}

-- the square of the lattice whose lower left corner is (i, j)
abbrev pub cell_at : ℕ → ℕ → ℕ → Cell
cell_at base i j = record {
  column = i;
  low_left = lattice_from base i j;
  low_right = lattice_from base (i + 1) j;
  high_left = lattice_from base i (j + 1);
  high_right = lattice_from base (i + 1) (j + 1);
}

-- the values at its corners have 16 bits
pub record IsCellSmall (cell : Cell) : Type 0 where
  pub low_left : cell.low_left < 2 ^ 16
  pub low_right : cell.low_right < 2 ^ 16
  pub high_left : cell.high_left < 2 ^ 16
  pub high_right : cell.high_right < 2 ^ 16

-- the first places of a row have the sum of so many octaves
abbrev pub HasOctaves : List ℕ → ℕ → ℕ → ℕ → ℕ → Type 0
HasOctaves row k n seed y = (x : ℕ) → x < length row → slice_index row x ≡ octaves k n seed x y

-- row y of the grid has its heights
abbrev pub HasRow : HeightField → ℕ → ℕ → ℕ → Type 0
HasRow grid n seed y = (x : ℕ) → x ≤ 2 ^ n → height_at n grid.heights x y ≡ made_height n seed x y

-- if the sink had told its bytes before, these stand behind them now
abbrev pub Wrote : Option (List ℕ) → Option (List ℕ) → List ℕ → Type 0
Wrote before now text = (all : List ℕ) → before ≡ Some all → now ≡ Some (all ++ text)
