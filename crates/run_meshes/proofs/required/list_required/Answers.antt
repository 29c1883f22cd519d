use Rattle.std.proofs.Common.{◌<◌, length, take, arith}
use Rattle.std.proofs.lemmas.List.{take_more}
use Rattle.run_meshes.proofs.KeptLemmas.{required-next}
use Rattle.run_meshes.proofs.required.list_required.Goals as goal

pub loop-point-preserved : goal.loop-point-preserved
loop-point-preserved c =
    let i = c.loop-point.invariant in
    let below : c.loop-point.point-index < length c.args.points.now = omega arith in
    record {
      listed = required-next c.args.n c.args.points.now c.loop-point.point-index _ _
          (take_more c.args.points.now c.loop-point.point-index _ below)
          (c.list_centred.ensures.listed (take c.loop-point.point-index c.args.points.now) i.listed);
      count = (let most = c.list_centred.ensures.most in omega (arith, most, i.count));
      room = (let more = c.list_centred.ensures.capacity in omega (arith, more, i.room));
    }
