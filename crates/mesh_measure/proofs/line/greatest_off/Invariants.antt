use Rattle.std.proofs.Common.{◌≡◌, ◌+◌, ◌*◌, ◌%◌, ◌^◌}
use Rattle.mesh_measure.specs.Columns.{IsGreatestAlong}
use Rattle.mesh_measure.specs.Line.{off_on}
use Rattle.mesh_measure.proofs.line.greatest_off.Given as goal

abbrev pub invariant-loop-h : goal.invariant-loop-h
invariant-loop-h l = record {
  plane : l.plane ≡ (l.at + l.h-index * l.step) % 2 ^ 32;
  greatest : IsGreatestAlong l.h-index (off_on l.n l.at l.step l.heights) l.most;
}
