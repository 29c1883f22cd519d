use Rattle.std.proofs.Common.{◌≡◌, ℕ, ◌<◌, false}
use Rattle.mesh_cover.specs.Conforming.{is_marked}
use Rattle.mesh_cover.proofs.sides.clear.Given as goal

abbrev pub invariant-loop-row : goal.invariant-loop-row
invariant-loop-row l = (y : ℕ) → y < l.row-index → is_marked l.rows y ≡ false
