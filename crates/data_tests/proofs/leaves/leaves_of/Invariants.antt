use Rattle.std.proofs.Common.{◌≤◌, ◌*◌, All}
use Rattle.mesh_defs.specs.Triangle.{level_of}
use Rattle.data_tests.proofs.leaves.leaves_of.Given as goal

-- the triangles so far are of the grid
abbrev pub invariant-loop-number : goal.invariant-loop-number
invariant-loop-number l = All (λ a. level_of a ≤ 2 * l.n) l.leaves.items
