-- The grid stays of this side, and takes any height.
use Rattle.std.proofs.Common.{◌≡◌}
use Rattle.mesh_tests.proofs.mosaics.grid_from.Given as goal

abbrev pub invariant-loop-place : goal.invariant-loop-place
invariant-loop-place l = (l.grid.n ≡ l.fn.n) × (l.grid.maxval ≡ 65535)
