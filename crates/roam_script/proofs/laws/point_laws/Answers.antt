use Rattle.roam_script.proofs.PointLemmas.{in-grid, late, long}
use Rattle.roam_script.proofs.laws.point_laws.Goals as goal

pub returns-clause-in_grid : goal.returns-clause-in_grid
returns-clause-in_grid c = in-grid

pub returns-clause-too_many_lines : goal.returns-clause-too_many_lines
returns-clause-too_many_lines c = late

pub returns-clause-line_too_long : goal.returns-clause-line_too_long
returns-clause-line_too_long c = long
