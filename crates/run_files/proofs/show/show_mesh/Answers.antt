use Rattle.run_laws.proofs.DoesLemmas.{does-then, does-cut}
use Rattle.run_files.proofs.show.show_mesh.Goals as goal

pub returns-in-Ok-clause-does : goal.returns-in-Ok-clause-does
returns-in-Ok-clause-does g c = does-then _ _ _ _ _ _ c.tell.result c.in-Ok.ensures.does c.tell.ensures.does

pub returns-in-Err-clause-does : goal.returns-in-Err-clause-does
returns-in-Err-clause-does g c = does-cut _ _ _ _ _ c.in-Err.ensures.does
