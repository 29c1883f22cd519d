-- Which frames are strips, and the lines of strips and measures from their numbers. This project's own.
-- Words: is_strip, IsMeshNumber, strip_numbers, measure_numbers.
use Rattle.std.specs.Prelude.{ℕ, ◌≤◌, Bool, true, false, List, ◌++◌, codes, decimal}
use Rattle.roam_edge.specs.declared.mesh_sink.TheConstants.{GREATEST_NUMBER}
use Rattle.run_words.specs.declared.showing.Showing.{Showing}
use Rattle.run_words.specs.declared.showing.Showing.TheVariants.{Meshes, Strips, Measures}

-- frames are shown as strips, which want room
abbrev pub is_strip : Showing → Bool
is_strip (Meshes prefix) = false
is_strip (Strips prefix) = true
is_strip Measures = false

-- a mesh can have this number
abbrev pub IsMeshNumber : ℕ → Type 0
IsMeshNumber number = (1 ≤ number) × (number ≤ GREATEST_NUMBER)

-- the line of the strip of this number: how many triangles, and how many turns to the left and to the right
abbrev pub strip_numbers : (number triangles left right : ℕ) → List ℕ
strip_numbers number triangles left right =
    codes "strip " ++ decimal number ++ codes " triangles " ++ decimal triangles
    ++ codes " left " ++ decimal left ++ codes " right " ++ decimal right ++ codes "\n"

-- the line of the measure of this number: a deviation, over how many, and a thickness
abbrev pub measure_numbers : (number off over thick : ℕ) → List ℕ
measure_numbers number off over thick =
    codes "measure " ++ decimal number ++ codes " deviation " ++ decimal off
    ++ codes " over " ++ decimal over ++ codes " thickness " ++ decimal thick ++ codes "\n"
