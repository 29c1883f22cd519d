use Rattle.pgm_grid.proofs.ReaderLemmas.{new-header, new-resume, new-taken}
use Rattle.pgm_grid.proofs.reader.PgmReader.new.Goals as goal

pub invariant_of-result : goal.invariant_of-result
invariant_of-result c = new-header c.new.result c.new.ensures.value c.new.ensures.count c.new.ensures.refusable

pub returns-clause-value : goal.returns-clause-value
returns-clause-value c = new-resume c.new.result c.new.ensures.value c.new.ensures.count

pub returns-clause-count : goal.returns-clause-count
returns-clause-count c = new-taken c.new.result c.new.ensures.count
