use Rattle.run_laws.proofs.DoesLemmas.{ends-done, ends-cut}
use Rattle.run_files.proofs.end.end_with_text.Goals as goal

pub returns-in-Ok-clause-tells : goal.returns-in-Ok-clause-tells
returns-in-Ok-clause-tells g c = ends-done _ _ _ _ _ c.requires c.in-Ok.ensures.does

pub returns-in-Err-clause-tells : goal.returns-in-Err-clause-tells
returns-in-Err-clause-tells g c = ends-cut _ _ _ _ _ c.in-Err.ensures.does
