-- What holds of generated grids and scripts, in the words of the crates that read them.
use Rattle.std.specs.Prelude.{◌≡◌, ℕ, ◌≤◌, Ok, unsigned_abs, ◌^◌}
use Rattle.mesh_defs.specs.HeightField.{IsHeightField}
use Rattle.mesh_defs.specs.declared.level.TheConstants.{GREATEST_FILE_LEVEL}
use Rattle.pgm_grid.specs.PgmText.{IsFileText}
use Rattle.pgm_grid.specs.Progress.{grid_of}
use Rattle.roam_script.specs.declared.line.Line.{Line}
use Rattle.roam_script.specs.declared.line.Line.TheVariants.{Camera, Set, Frame}
use Rattle.roam_gen.specs.Generated.{made_grid}
use Rattle.roam_gen.specs.LineAt.{line_at}
use Rattle.roam_gen.specs.Written.{grid_text}

-- a generated grid is one
abbrev pub MadeGridsAreGrids : Type 0
MadeGridsAreGrids = (n seed : ℕ) → 1 ≤ n → n ≤ GREATEST_FILE_LEVEL → IsHeightField (made_grid n seed)

-- what is written of it is a file text of it
abbrev pub WrittenGridsAreTexts : Type 0
WrittenGridsAreTexts = (n seed : ℕ) → 1 ≤ n → n ≤ GREATEST_FILE_LEVEL → IsFileText (made_grid n seed) (grid_text n seed)

-- so it is read back
abbrev pub WrittenGridsAreReadBack : Type 0
WrittenGridsAreReadBack = (n seed : ℕ) → 1 ≤ n → n ≤ GREATEST_FILE_LEVEL → grid_of (grid_text n seed) ≡ Ok (made_grid n seed)

-- the line is one of three kinds, and its numbers lie in the ranges of a script's line
abbrev pub IsMadeLine : ℕ → Line → Type 0
IsMadeLine n (Camera x y z) = (unsigned_abs x ≤ 2 ^ 30) × (unsigned_abs y ≤ 2 ^ 30) × (unsigned_abs z ≤ 2 ^ 30)
IsMadeLine n (Set x y h) = (x ≤ 2 ^ n) × (y ≤ 2 ^ n) × (h ≤ 65535)
IsMadeLine n Frame = Unit {0}
IsMadeLine n _ = ⊥

-- each line of a generated script is such a line
abbrev pub MadeLinesLieInRange : Type 0
MadeLinesLieInRange = (n seed i : ℕ) → n ≤ GREATEST_FILE_LEVEL → 1 ≤ i → i ≤ 105 → IsMadeLine n (line_at n seed i)
