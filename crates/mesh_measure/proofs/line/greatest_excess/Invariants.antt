use Rattle.std.proofs.Common.{◌≡◌, ◌+◌, ◌*◌}
use Rattle.mesh_measure.specs.Columns.{IsGreatestAlong}
use Rattle.mesh_measure.specs.Line.{excess_on}
use Rattle.mesh_measure.proofs.line.greatest_excess.Given as goal

abbrev pub invariant-loop-place : goal.invariant-loop-place
invariant-loop-place l = record {
  high : l.high ≡ l.fn.line.high + l.place * l.fn.line.rise;
  low : l.low ≡ l.fn.line.low + l.place * l.fn.line.fall;
  greatest : IsGreatestAlong l.place (excess_on l.area l.side l.fn.line l.heights l.tolerances) l.most;
}
