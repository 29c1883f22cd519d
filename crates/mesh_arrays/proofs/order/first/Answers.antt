use Rattle.mesh_arrays.proofs.ListOrderLemmas.{shifted_first}
use Rattle.mesh_arrays.proofs.order.first.Goals as goal
use Rattle.std.proofs.Common.{arith}

pub returns : goal.returns
returns c =
    shifted_first c.args.t c.number.result c.level.result (omega arith)
    (omega arith) c.number.ensures.value c.level.ensures.value
