use Rattle.std.proofs.Common.{rules}
use Rattle.roam_script.specs.PointText.{point_in}
use Rattle.roam_script.proofs.point.read_point.Goals as goal

pub returns-then-line-most_points-clause-same : goal.returns-then-line-most_points-clause-same
unfolding point_in
returns-then-line-most_points-clause-same c = search rules

pub returns-then-bytes-gt-MOST_LINE_BYTES-clause-same : goal.returns-then-bytes-gt-MOST_LINE_BYTES-clause-same
unfolding point_in
returns-then-bytes-gt-MOST_LINE_BYTES-clause-same c = search rules

pub returns-clause-same : goal.returns-clause-same
unfolding point_in
returns-clause-same c = search rules
