use Rattle.std.proofs.Common.{◌*◌, ap, arith}
use Rattle.obj_write.proofs.PlaceLemmas.{place-below}
use Rattle.obj_write.proofs.vertices.place.Goals as goal

pub returns-clause-below : goal.returns-clause-below
returns-clause-below c =
    let below = place-below c.args.n c.args.point c.requires.within in
    let row = ap (λ w. c.args.point.y * w) c.side_for.ensures.value in
    omega arith
