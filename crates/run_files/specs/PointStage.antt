-- How far a file of points was read, and why it is not read on.
-- Words: point_place, stops, IsPointStage.
use Rattle.std.specs.Prelude.{◌^◌, ◌≤◌, All, length, vec_capacity}
use Rattle.mesh_defs.specs.declared.level.TheConstants.{GREATEST_LEVEL}
use Rattle.bintree_laws.specs.Corners.{IsInSquare}
use Rattle.roam_script.specs.declared.limits.TheConstants.{MOST_LINE_BYTES}
use Rattle.roam_script.specs.PointText.{most_points}
use Rattle.run_laws.specs.Walk.{Refusal}
use Rattle.run_laws.specs.PointFile.{PointPlace}
use Rattle.run_files.specs.declared.points_file.PointStage.{PointStage}
use Rattle.run_files.specs.declared.points_file.PointStop.{PointStop}
use Rattle.run_files.specs.declared.points_file.PointStop.TheVariants.{Refused}

-- the place that a stage shows
abbrev pub point_place : PointStage → PointPlace
point_place stage = record { said = stage.points.items; lines = stage.lines; begun = stage.part.items }

-- the answer that a line is refused
abbrev pub stops : Refusal → PointStop
stops why = Refused why.line why.fault

-- the points lie in the grid, one of a line at most; there are no more lines than there may be and room for a point of
-- each, and no more bytes of the line that has begun than a line may have
pub record IsPointStage (stage : PointStage) : Type 0 where
  pub level : stage.n ≤ GREATEST_LEVEL
  pub inside : All (λ p. IsInSquare (2 ^ stage.n) p) stage.points.items
  pub counted : length stage.points.items ≤ stage.lines
  pub few : stage.lines ≤ most_points stage.n
  pub room : most_points stage.n ≤ vec_capacity stage.points
  pub short : length stage.part.items ≤ MOST_LINE_BYTES
