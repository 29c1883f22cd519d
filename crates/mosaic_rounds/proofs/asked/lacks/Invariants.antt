-- So far nothing lacks across the first sides.
use Rattle.std.proofs.Common.{ℕ, ◌<◌}
use Rattle.mosaic_rounds.specs.Across.{LacksAcross}
use Rattle.mosaic_rounds.proofs.asked.lacks.Given as goal

abbrev pub invariant-loop-side : goal.invariant-loop-side
invariant-loop-side l = (side : ℕ) → side < l.side → LacksAcross l.fn.shape l.fn.words l.fn.t side → ⊥
