-- What a card draws that indexes an array of positions. This project's own.
-- Words: drawn, corner_positions.
use Rattle.std.specs.Prelude.{ℕ, ◌*◌, List, ◌++◌, take, drop}
use Rattle.std.specs.List.{flat_map}
use Rattle.mesh_defs.specs.Triangle.{corners_of}
use Rattle.obj_write.specs.Arrays.{position_of}

-- the three numbers at each place, of positions that stand three by three
abbrev pub drawn : List ℕ → List ℕ → List ℕ
drawn positions places = flat_map (λ k. take 3 (drop (3 * k) positions)) places

-- the positions of the corners of a triangle: apex, v0 and v1
abbrev pub corner_positions : ℕ → List ℕ → ℕ → ℕ → List ℕ
corner_positions n heights spacing a =
    position_of n heights spacing (corners_of n a).apex
    ++ (position_of n heights spacing (corners_of n a).v0 ++ position_of n heights spacing (corners_of n a).v1)
