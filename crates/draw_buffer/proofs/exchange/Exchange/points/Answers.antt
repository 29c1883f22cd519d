use Rattle.std.proofs.Common.{arith}
use Rattle.draw_buffer.proofs.exchange.Exchange.points.Goals as goal

pub returns-clause-apart : goal.returns-clause-apart
returns-clause-apart c =
    let used = c.self.invariant.used in
    rw (← c.self.view_is)
    (λ v w one other e. c.points.ensures.apart v w (omega (arith, used v)) (omega (arith, used w)) e)
