-- What is farther has no greater ratio, and a way back is as long as the way.
use Rattle.std.proofs.Common.{◌≡◌, ◌+◌, ◌*◌, ◌≤◌, ℕ, arith}
use Rattle.std.proofs.Math.Nat.{mul-le-mul, div-mul-le_self}
use Rattle.std.proofs.lemmas.Int.{ints}
use Rattle.std.proofs.lemmas.Nat.{le-div}
use Rattle.mesh_defs.specs.BoundingBox.{CameraAt}
use Rattle.mesh_defs.specs.Priority.{ratio_of}
use Rattle.mesh_defs.specs.State.{move_length}

-- farther is no more
pub ratio_of-farther : (e c d : ℕ) → d ≤ c → ratio_of e c ≤ ratio_of e d
ratio_of-farther e c d nearer =
    let q = ratio_of e c in
    let nearer_next : d + 1 ≤ c + 1 = omega arith in
    let same : q ≤ q = omega arith in
    le-div q (65536 * e) (d + 1) (omega arith)
    (omega (arith, div-mul-le_self (65536 * e) (c + 1), mul-le-mul same nearer_next))

-- a move back is as long
pub move_length-back : (from to : CameraAt) → move_length to from ≡ move_length from to
move_length-back from to = grind (arith, ints)
