-- Each clause is a lemma.
use Rattle.fit_laws.proofs.PlaneLemmas.{area_of-some, plane_height-exact, plane_height-corner, plane_height-row}
use Rattle.fit_laws.proofs.PlaneLemmas.{off_plane-le}
use Rattle.fit_laws.proofs.ListLemmas.{deviation_of-le}
use Rattle.fit_laws.proofs.deviations.deviation_laws.Goals as goal

pub returns-clause-some_area : goal.returns-clause-some_area
returns-clause-some_area c = area_of-some

pub returns-clause-exact : goal.returns-clause-exact
returns-clause-exact c = plane_height-exact

pub returns-clause-triangle : goal.returns-clause-triangle
returns-clause-triangle c = off_plane-le

pub returns-clause-list : goal.returns-clause-list
returns-clause-list c = deviation_of-le

pub returns-clause-corner : goal.returns-clause-corner
returns-clause-corner c = plane_height-corner

pub returns-clause-row : goal.returns-clause-row
returns-clause-row c = plane_height-row
