-- So far nobody waits.
use Rattle.std.proofs.Common.{ℕ, ◌<◌, ◌≤◌}
use Rattle.mosaic_rounds.specs.Turn.{Waits}
use Rattle.mosaic_rounds.proofs.turn.first_waiting.Given as goal

abbrev pub invariant-loop-at : goal.invariant-loop-at
invariant-loop-at l = (v : ℕ) → l.fn.from ≤ v → v < l.at → Waits l.fn.shape l.fn.words v → ⊥
