use Rattle.std.proofs.Common.{subst, sym}
use Rattle.pgm_grid.specs.Progress.{StaysRefused}
use Rattle.pgm_grid.specs.Stage.{progress_of}
use Rattle.pgm_grid.proofs.ReaderLemmas.{refused-settled, settled-takes}
use Rattle.pgm_grid.proofs.reader.PgmReader.feed.Goals as goal

pub returns-in-Ok-clause-sticks : goal.returns-in-Ok-clause-sticks
returns-in-Ok-clause-sticks c fault settled =
    absurd (settled-takes (progress_of c.self.inside.stage) _ c.args.piece.now fault
    (rw c.replace-stage.ensures.value at c.in-Ok.ensures.takes)
    (subst (λ p. StaysRefused p fault) (sym c.self.view_is) settled))

pub returns-in-Err-clause-err : goal.returns-in-Err-clause-err
returns-in-Err-clause-err c = refused-settled c.in-Err.fault
