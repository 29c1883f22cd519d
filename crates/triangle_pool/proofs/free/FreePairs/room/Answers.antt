use Rattle.std.proofs.Common.{arith}
use Rattle.triangle_pool.proofs.free.FreePairs.room.Goals as goal

pub overflow_cast-result : goal.overflow_cast-result
overflow_cast-result c =
    let below = c.self.invariant.below in
    let len = c.self.inside.returned.ok.0 in
    let few = c.self.invariant.few in
    omega arith

pub overflow_add-result : goal.overflow_add-result
overflow_add-result c =
    let below = c.self.invariant.below in
    let len = c.self.inside.returned.ok.0 in
    let few = c.self.invariant.few in
    omega arith
