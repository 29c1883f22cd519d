-- How far apart two cameras are.
use Rattle.std.proofs.Common.{◌^◌, ◌≤◌, arith, ℤ, ◌-ℤ◌, unsigned_abs}
use Rattle.std.proofs.lemmas.Int.{ints}
use Rattle.mesh_defs.specs.BoundingBox.{CameraAt}
use Rattle.mesh_defs.specs.State.{move_length}
use Rattle.view_priority.specs.Camera.{IsCamera}

-- along an axis
along-short : (a b : ℤ) → unsigned_abs a ≤ 2 ^ 30 → unsigned_abs b ≤ 2 ^ 30 → unsigned_abs (b -ℤ a) ≤ 2 ^ 31
along-short a b one two = grind (arith, ints, one, two)

-- in all
pub way-short : (from to : CameraAt) → IsCamera from → IsCamera to → move_length from to ≤ 2 ^ 33
way-short from to a b =
    omega (
      arith,
      along-short from.x to.x a.x_small b.x_small,
      along-short from.y to.y a.y_small b.y_small,
      along-short from.z to.z a.z_small b.z_small,
    )
