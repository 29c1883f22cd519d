use Rattle.std.proofs.Common.{sym}
use Rattle.pgm_grid.proofs.ReaderLemmas.{end-header, end-refused}
use Rattle.pgm_grid.proofs.stage.last_answer.Goals as goal

pub returns-in-InHeader-clause-value : goal.returns-in-InHeader-clause-value
returns-in-InHeader-clause-value c = rw c.in-InHeader.is (sym (end-header c.in-InHeader.field-0 (rw c.in-InHeader.is at c.requires)))

pub returns-in-Stopped-clause-value : goal.returns-in-Stopped-clause-value
returns-in-Stopped-clause-value c = rw c.in-Stopped.is (sym (end-refused c.in-Stopped.fault))
