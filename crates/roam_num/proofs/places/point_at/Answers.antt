use Rattle.std.proofs.Common.{arith}
use Rattle.roam_num.proofs.PlacesLemmas.{point-later}
use Rattle.roam_num.proofs.places.point_at.Goals as goal

pub loop-byte-preserved : goal.loop-byte-preserved
loop-byte-preserved c =
    let before = c.loop-byte.invariant in
    let step = point-later c.args.bytes.now c.loop-byte.byte-index c.loop-byte-test.true (λ e. omega (arith, e)) in
    record { counted = omega (arith, before.counted); ahead = omega (arith, before.ahead, step) }
