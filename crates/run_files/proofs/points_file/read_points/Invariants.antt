use Rattle.std.proofs.Common.{◌≡◌, ◌+◌, ◌-◌, ◌*◌, length}
use Rattle.roam_script.specs.declared.limits.TheConstants.{MOST_LINE_BYTES}
use Rattle.roam_script.specs.PointText.{most_points}
use Rattle.run_laws.specs.PointFile.{HavePointsCome}
use Rattle.run_laws.proofs.FileLemmas.{HasReadOf, IsOpen}
use Rattle.run_files.specs.PointStage.{point_place, IsPointStage}
use Rattle.run_files.proofs.points_file.read_points.Given as goal

-- the bytes that were read were taken, and the shelf has not failed
abbrev pub invariant-pieces : goal.invariant-pieces
invariant-pieces g l = record {
  reading : HasReadOf (λ bytes. HavePointsCome l.n bytes (point_place l.stage))
      (g.O.Outside.moment l.fn.outside).shelf.files (g.O.Outside.moment l.outside).shelf.rest l.name;
  level : l.stage.n ≡ l.n;
  sound : IsPointStage l.stage;
  opened : IsOpen (g.O.Outside.moment l.fn.outside) (g.O.Outside.moment l.outside);
  same : g.O.Outside.is_same l.fn.outside l.outside;
}

-- each byte makes a line longer, or is the last of an accepted line
abbrev pub decreases-pieces : goal.decreases-pieces
decreases-pieces g l =
    (MOST_LINE_BYTES + 1) * (1 + most_points l.stage.n)
    - ((MOST_LINE_BYTES + 1) * l.stage.lines + length l.stage.part.items)
