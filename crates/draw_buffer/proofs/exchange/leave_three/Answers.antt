use Rattle.std.proofs.Common.{arith, refl}
use Rattle.draw_buffer.proofs.TimesLemmas.{same-one}
use Rattle.draw_buffer.proofs.UseLemmas.{corner_uses-is}
use Rattle.draw_buffer.proofs.exchange.leave_three.Goals as goal

pub returns-clause-uses : goal.returns-clause-uses
returns-clause-uses c v =
    let is = corner_uses-is c.args.corners v in
    omega (arith, c.leave.ensures.uses v, c.leave-2.ensures.uses v, c.leave-3.ensures.uses v)

pub leave-requires : goal.leave-requires
leave-requires c =
    let v = c.args.corners.apex in
    let is = corner_uses-is c.args.corners v in
    let one = same-one v v refl in
    omega (arith, c.requires.used v)

pub leave-requires-2 : goal.leave-requires-2
leave-requires-2 c =
    let v = c.args.corners.v0 in
    let is = corner_uses-is c.args.corners v in
    let one = same-one v v refl in
    omega (arith, c.requires.used v, c.leave.ensures.uses v)

pub leave-requires-3 : goal.leave-requires-3
leave-requires-3 c =
    let v = c.args.corners.v1 in
    let is = corner_uses-is c.args.corners v in
    let one = same-one v v refl in
    omega (arith, c.requires.used v, c.leave.ensures.uses v, c.leave-2.ensures.uses v)
