use Rattle.std.proofs.Common.{◌≡◌, ◌+◌, ◌*◌, ◌<◌, ◌≤◌, ap, subst}
use Rattle.mesh_defs.specs.Triangle.{level_of}
use Rattle.draw_buffer.specs.Times.{times}
use Rattle.draw_buffer.specs.Vertices.{AreTaken}
use Rattle.draw_buffer.specs.Exchange.{ExchangeState, addresses_of}
use Rattle.draw_buffer.proofs.ExchangeLemmas.{address-low, whole-admit}
use Rattle.draw_buffer.proofs.exchange.Exchange.admit.Goals as goal

pub invariant_of-self : goal.invariant_of-self
invariant_of-self c =
    let i = c.self.inside in
    let triangles = ap (λ (e : ExchangeState). e.triangles) c.self.view_is in
    let waiting = ap (λ (e : ExchangeState). e.waiting) c.self.view_is in
    let n = ap (λ (e : ExchangeState). e.n) c.self.view_is in
    let fine : level_of c.args.t ≤ 2 * i.n = rw n c.requires.level in
    let low : c.args.t < i.places.end = rw c.self.invariant.end (address-low i.n c.args.t fine) in
    let away : times i.places.triangles c.args.t + times (addresses_of i.waiting.items) c.args.t ≡ 0 =
    rw (triangles, waiting) c.requires.new in
    let taken = subst (λ p. AreTaken i.vertices c.take_three-corners.new.vertices p c.take_three-corners.result)
    c.grid_indices-places.ensures.value c.take_three-corners.ensures in
    rw c.push_reserved.ensures.items (whole-admit i.n i.places i.vertices i.corners.items i.waiting.items _ _ _
    c.self.invariant c.take_three-corners.new.vertices
    (record { tri = c.args.t; corners = c.take_three-corners.result }) _ c.push_reserved.ensures.capacity
    low taken away)
