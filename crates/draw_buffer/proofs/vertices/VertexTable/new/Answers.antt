use Rattle.std.proofs.Common.{arith}
use Rattle.draw_buffer.proofs.TakenLemmas.{sound-none}
use Rattle.draw_buffer.proofs.vertices.VertexTable.new.Goals as goal

pub invariant_of-result : goal.invariant_of-result
invariant_of-result c =
    let fits = c.ranges.most.fits in
    sound-none c.in_ok-with_capacity.field-0.items c.in_ok-with_capacity-2.field-0.items c.in_ok-vec.field-0.items
    c.in_ok-with_capacity-3.field-0.items
    c.args.most _ _ _ _ c.in_ok-with_capacity.ensures.items c.in_ok-with_capacity-2.ensures.items
    c.in_ok-with_capacity-3.ensures.items (omega arith)
    c.in_ok-with_capacity.ensures.exact c.in_ok-with_capacity-2.ensures.exact
    c.in_ok-with_capacity-3.ensures.exact c.in_ok-with_capacity-4.ensures.exact
