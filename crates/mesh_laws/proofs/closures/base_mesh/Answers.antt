-- Each clause is a lemma; what is required is that the grid has more than one square.
use Rattle.mesh_defs.proofs.TextLemmas.{base_vertices, base_text}
use Rattle.mesh_laws.proofs.BaseLemmas.{base_conforming, only_base, base_best}
use Rattle.mesh_laws.proofs.closures.base_mesh.Goals as goal

pub returns-clause-conforming : goal.returns-clause-conforming
returns-clause-conforming c = base_conforming c.args.n

pub returns-clause-only : goal.returns-clause-only
returns-clause-only c = only_base c.args.n c.requires.low

pub returns-clause-best : goal.returns-clause-best
returns-clause-best c = base_best c.args.n c.requires.low

pub returns-clause-vertices : goal.returns-clause-vertices
returns-clause-vertices c = base_vertices c.args.n

pub returns-clause-text : goal.returns-clause-text
returns-clause-text c = base_text c.args.n
