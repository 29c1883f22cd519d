use Rattle.std.proofs.Common.{arith}
use Rattle.pgm_grid.specs.declared.header_machine.State.TheVariants.{Start}
use Rattle.pgm_grid.proofs.HeaderReadingLemmas.{resume_refused}
use Rattle.pgm_grid.proofs.header_reader.HeaderReader.new.Goals as goal

pub returns-clause-refusable : goal.returns-clause-refusable
returns-clause-refusable c = resume_refused (record { state = Start; place = 0 }) (omega arith)
