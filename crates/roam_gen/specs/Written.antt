-- The texts of the generated grid and script.
-- Words: written_word, line_numbers, spaced_number, line_text, script_text, header_text, grid_text.
use Rattle.std.specs.Prelude.{ℕ, false, List, [], ◌∷◌, ◌++◌, codes, ℤ, pos}
use Rattle.std.specs.Fmt.{signed_decimal}
use Rattle.std.specs.List.{flat_map}
use Rattle.mesh_defs.specs.HeightField.{side_of}
use Rattle.pgm_grid.specs.declared.header_machine.HeaderValues.{HeaderValues}
use Rattle.pgm_grid.specs.HeaderText.{written_header}
use Rattle.text_laws.specs.Words.{two_bytes}
use Rattle.roam_script.specs.declared.line.Line.{Line}
use Rattle.roam_script.specs.declared.line.Line.TheVariants.{Blank, Camera, Set, Frame, Plane, NoPlanes, Budget, Raise}
use Rattle.roam_gen.specs.Generated.{made_grid, made_lines}

-- the command of a line
abbrev pub written_word : Line → List ℕ
written_word Blank = []
written_word (Camera x y z) = codes "camera"
written_word (Set x y h) = codes "set"
written_word Frame = codes "frame"
written_word (Plane a b c d) = codes "plane"
written_word NoPlanes = codes "noplanes"
written_word (Budget n) = codes "budget"
written_word (Raise x0 y0 x1 y1 dz) = codes "raise"

-- the numbers of a line
abbrev pub line_numbers : Line → List ℤ
line_numbers Blank = []
line_numbers (Camera x y z) = x ∷ y ∷ z ∷ []
line_numbers (Set x y h) = pos x ∷ pos y ∷ pos h ∷ []
line_numbers Frame = []
line_numbers (Plane a b c d) = a ∷ b ∷ c ∷ d ∷ []
line_numbers NoPlanes = []
line_numbers (Budget n) = pos n ∷ []
line_numbers (Raise x0 y0 x1 y1 dz) = pos x0 ∷ pos y0 ∷ pos x1 ∷ pos y1 ∷ dz ∷ []

-- a blank (32) and a number
abbrev pub spaced_number : ℤ → List ℕ
spaced_number v = 32 ∷ signed_decimal v

-- a line: its command and its numbers, with one blank before each of them, and an LF (10)
abbrev pub line_text : Line → List ℕ
line_text line = written_word line ++ flat_map spaced_number (line_numbers line) ++ 10 ∷ []

-- all lines of the script
abbrev pub script_text : ℕ → ℕ → List ℕ
script_text n seed = flat_map line_text (made_lines n seed)

-- what stands in the header of a generated grid of this level
abbrev pub generated_header : ℕ → HeaderValues
generated_header n = record { plain = false; width = side_of n; height = side_of n; maxval = 65535 }

-- `P5`, LF, the side, a blank, the side, LF, `65535`, LF
abbrev pub header_text : ℕ → List ℕ
header_text n = written_header (generated_header n) []

-- the grid as a raw file of two bytes a sample
abbrev pub grid_text : ℕ → ℕ → List ℕ
grid_text n seed = header_text n ++ flat_map two_bytes (made_grid n seed).heights
