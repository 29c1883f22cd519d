use Rattle.std.proofs.Common.{◌≡◌, ℕ, ◌<◌, true}
use Rattle.mesh_cover.specs.Conforming.{is_marked}
use Rattle.mesh_cover.proofs.sides.first_bare.Given as goal

abbrev pub invariant-loop-y : goal.invariant-loop-y
invariant-loop-y l = (k : ℕ) → k < l.y → is_marked l.rows k ≡ true
