-- The order of triangles, depth first: each stands for the triangles of the deepest level below it, which follow one
-- another.
-- This project's own.
-- Words: first_of, run_length, begins_with; end_of is that of mesh_arrays: the first triangle of level 28 behind those
-- at and below a.
use Rattle.std.specs.Prelude.{ℕ, ◌+◌, ◌-◌, ◌*◌, ◌^◌, Bool, false, nat_lt, nat_eq, cond, List, [], ◌∷◌}
use Rattle.mesh_defs.specs.Triangle.{level_of}
pub use Rattle.mesh_arrays.specs.Changes.{end_of}

-- the first triangle of level 28 at or below a
abbrev pub first_of : ℕ → ℕ
first_of a = a * 2 ^ (28 - level_of a)

-- how many triangles at the beginning of a list begin before the end of t
abbrev pub run_length : ℕ → List ℕ → ℕ
run_length t [] = 0
run_length t (b ∷ more) = cond (nat_lt (first_of b) (end_of t)) (1 + run_length t more) 0

-- the list begins with t
abbrev pub begins_with : ℕ → List ℕ → Bool
begins_with t [] = false
begins_with t (b ∷ more) = nat_eq b t
