use Rattle.std.proofs.Common.{get_or, sym, ap, ◌∙◌}
use Rattle.draw_buffer.proofs.vertices.VertexTable.points.Goals as goal

pub returns-clause-apart : goal.returns-clause-apart
returns-clause-apart c =
    let numbered = c.self.invariant.numbered in
    rw (← c.self.view_is) (λ v w one other e.
    sym (numbered v one).1 ∙ ap (λ p. get_or c.self.inside.numbers.items p 0) e ∙ (numbered w other).1)
