-- Each clause is a lemma.
use Rattle.page_wedges.proofs.TerrainLemmas.{quarter-joined, half-joined}
use Rattle.page_wedges.proofs.laws.terrain_laws.Goals as goal

pub returns-clause-quarter : goal.returns-clause-quarter
returns-clause-quarter c = quarter-joined

pub returns-clause-half : goal.returns-clause-half
returns-clause-half c = half-joined
