-- The generated script by the number of a line.
-- Words: line_of_tens, line_at.
use Rattle.std.specs.Prelude.{ℕ, ◌+◌, ◌-◌, ◌*◌, ◌/◌, ◌%◌, ◌==◌, nat_lt, if◌then◌else◌}
use Rattle.roam_script.specs.declared.line.Line.{Line}
use Rattle.roam_script.specs.declared.line.Line.TheVariants.{Frame}
use Rattle.roam_gen.specs.Generated.{camera_line, edit_line}

-- of the 21 lines of the tens of frames that follow so many, the line at this place
abbrev pub line_of_tens : ℕ → ℕ → ℕ → ℕ → Line
line_of_tens n seed tens place =
    if nat_lt place 18 then (if place % 2 == 0 then camera_line n (10 * tens + place / 2 + 1) else Frame)
    else (if place == 18 then camera_line n (10 * tens + 10)
    else (if place == 19 then edit_line n seed (10 * tens + 10) else Frame))

-- line i, counted from 1
abbrev pub line_at : ℕ → ℕ → ℕ → Line
line_at n seed i = line_of_tens n seed ((i - 1) / 21) ((i - 1) % 21)
