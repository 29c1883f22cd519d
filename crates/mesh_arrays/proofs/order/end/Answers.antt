use Rattle.std.proofs.Common.{arith}
use Rattle.mesh_arrays.proofs.ListOrderLemmas.{shifted_end}
use Rattle.mesh_arrays.proofs.order.end.Goals as goal

pub returns : goal.returns
returns c =
    shifted_end c.args.t c.number.result c.level.result (omega arith)
    (omega arith) c.number.ensures.value c.level.ensures.value
