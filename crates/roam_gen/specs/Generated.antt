-- A grid and a script that are made from a level and a seed. This project's own.
--
-- Words: plus, product, mixed, octave_base, lattice_from, lattice, between, octave, octaves, made_height,
-- height_of_place, made_grid, camera_line, edit_line, frame_lines, made_lines.
use Rattle.std.specs.Prelude.{ℕ, zero, suc, ◌+◌, ◌-◌, ◌*◌, ◌/◌, ◌%◌, ◌^◌, ◌==◌, if◌then◌else◌, List, [], ◌∷◌, ◌++◌, map}
use Rattle.std.specs.Prelude.{pos}
use Rattle.std.specs.List.{range_with_len, flat_map}
use Rattle.mesh_defs.specs.HeightField.{HeightField, side_of}
use Rattle.roam_script.specs.declared.line.Line.{Line}
use Rattle.roam_script.specs.declared.line.Line.TheVariants.{Camera, Set, Frame}

-- sums and products are taken modulo 2 ^ 64
abbrev pub plus : ℕ → ℕ → ℕ
plus a b = (a + b) % 2 ^ 64

abbrev pub product : ℕ → ℕ → ℕ
product a b = (a * b) % 2 ^ 64

-- a number of 64 bits, mixed: a linear congruence, and the product of its halves
unfoldable pub mixed : ℕ → ℕ
mixed z = plus (plus (product z 6364136223846793005) (product (z / 2 ^ 32) (z % 2 ^ 32))) 1442695040888963407

-- what the values of an octave's lattice begin with
abbrev pub octave_base : ℕ → ℕ → ℕ
octave_base seed k = mixed (plus (mixed seed) k)

-- the value of the lattice point (i, j) of an octave: the first 16 of 64 mixed bits
abbrev pub lattice_from : ℕ → ℕ → ℕ → ℕ
lattice_from base i j = mixed (mixed (plus (mixed (plus base i)) j)) / 2 ^ 48

abbrev pub lattice : ℕ → ℕ → ℕ → ℕ → ℕ
lattice seed k i j = lattice_from (octave_base seed k) i j

-- the value at (a, b) of a square of width w whose corners have these values, rounded down
abbrev pub between : ℕ → ℕ → ℕ → ℕ → ℕ → ℕ → ℕ → ℕ
between w a b low_left low_right high_left high_right =
    (low_left * (w - a) * (w - b) + low_right * a * (w - b) + high_left * (w - a) * b + high_right * a * b) / (w * w)

-- the value of octave k, whose lattice has a point each 2 ^ k grid steps, at the point (x, y)
abbrev pub octave : ℕ → ℕ → ℕ → ℕ → ℕ
octave seed k x y =
    let w : ℕ = 2 ^ k in
    let i : ℕ = x / w in
    let j : ℕ = y / w in
    between w (x % w) (y % w) (lattice seed k i j) (lattice seed k (i + 1) j) (lattice seed k i (j + 1))
    (lattice seed k (i + 1) (j + 1))

-- the sum of the first octaves: the coarsest counts a half, each finer one half of the next coarser
unfoldable pub octaves : ℕ → ℕ → ℕ → ℕ → ℕ → ℕ
octaves zero n seed x y = 0
octaves (suc k) n seed x y = octaves k n seed x y + octave seed k x y / 2 ^ (n - k + 1)

-- the height of the point (x, y)
abbrev pub made_height : ℕ → ℕ → ℕ → ℕ → ℕ
made_height n seed x y = octaves (n + 1) n seed x y

-- the height at a place in file order
abbrev pub height_of_place : ℕ → ℕ → ℕ → ℕ
height_of_place n seed place = made_height n seed (place % side_of n) (2 ^ n - place / side_of n)

-- the grid, whose heights stand in file order
unfoldable pub made_grid : ℕ → ℕ → HeightField
made_grid level seed = record {
  n = level;
  maxval = 65535;
  heights = map (height_of_place level seed) (range_with_len 0 (side_of level * side_of level));
}

-- where the camera is put before frame f, counted from 1: it flies from the upper left to the lower right
abbrev pub camera_line : ℕ → ℕ → Line
camera_line n f = Camera (pos (2 ^ n * 30 * f / 51)) (pos (2 ^ n * 30 * (51 - f) / 51)) (pos 40000)

-- which height is set before each tenth frame
abbrev pub edit_line : ℕ → ℕ → ℕ → Line
edit_line n seed f = Set (7 * f % side_of n) (11 * f % side_of n) (lattice seed 0 f f)

-- the lines that make frame f
abbrev pub frame_lines : ℕ → ℕ → ℕ → List Line
frame_lines n seed f = (camera_line n f ∷ []) ++ (if f % 10 == 0 then edit_line n seed f ∷ [] else []) ++ Frame ∷ []

-- the script: 50 frames, 105 lines
unfoldable pub made_lines : ℕ → ℕ → List Line
made_lines n seed = flat_map (frame_lines n seed) (range_with_len 1 50)
