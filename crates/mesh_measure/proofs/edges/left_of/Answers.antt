-- A level edge has the row on its outer side, or not.
use Rattle.std.proofs.Common.{arith}
use Rattle.mesh_measure.proofs.edges.left_of.Goals as goal

pub returns-then-is_beyond : goal.returns-then-is_beyond
returns-then-is_beyond c x = (
  λ column. absurd (let from = column.0 in let before = column.1 in omega arith),
  λ h. absurd (c.is_beyond.ensures.outer c.if-is_beyond.true x h.1),
)

pub returns-else-is_beyond : goal.returns-else-is_beyond
returns-else-is_beyond c x = (λ column. (column, c.is_beyond.ensures.inner c.if-is_beyond.false x), λ h. h.0)
