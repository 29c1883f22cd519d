-- 4 to 7 are at the first level.
use Rattle.std.proofs.Common.{arith}
use Rattle.bintree_laws.proofs.LevelLemmas.{level_of-first}
use Rattle.page_wedges.proofs.page.quarter.Goals as goal

pub returns-clause-level : goal.returns-clause-level
returns-clause-level c = level_of-first c.unwrap.result (grind arith) (grind arith)
