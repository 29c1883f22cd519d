use Rattle.pgm_grid.proofs.ReaderLemmas.{raster-stops, stopped-stops}
use Rattle.pgm_grid.proofs.stage.stage_after.Goals as goal
use Rattle.text_laws.proofs.AnswerLemmas.{both-err}

pub returns-in-InRaster-clause-stops : goal.returns-in-InRaster-clause-stops
returns-in-InRaster-clause-stops c =
    rw c.in-InRaster.is (both-err c.raster_after.result _ _ _
    (λ fault other refusal. raster-stops c.in-InRaster.header c.in-InRaster.reader c.args.piece.now fault
    (rw c.in-InRaster.is at c.requires) other refusal)
    c.raster_after.ensures.room c.raster_after.ensures.refusal)

pub returns-in-Stopped-clause-stops : goal.returns-in-Stopped-clause-stops
returns-in-Stopped-clause-stops c = rw c.in-Stopped.is (stopped-stops c.in-Stopped.fault c.args.piece.now)
