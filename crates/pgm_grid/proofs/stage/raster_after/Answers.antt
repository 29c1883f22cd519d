use Rattle.pgm_grid.proofs.ReaderLemmas.{raster-takes, raster-read, raster-refusal}
use Rattle.pgm_grid.proofs.stage.raster_after.Goals as goal

pub returns-in-Ok-clause-valid : goal.returns-in-Ok-clause-valid
returns-in-Ok-clause-valid c =
    raster-read c.args.header c.args.reader c.feed.new.self c.args.piece.now c.requires c.in-Ok.ensures.ok
    c.in-Ok.ensures.unsettled c.in-Ok.ensures.limit

pub returns-in-Ok-clause-takes : goal.returns-in-Ok-clause-takes
returns-in-Ok-clause-takes c =
    raster-takes c.args.header c.args.reader c.feed.new.self c.args.piece.now c.in-Ok.ensures.ok
    c.in-Ok.ensures.unsettled c.in-Ok.ensures.place c.in-Ok.ensures.limit

pub returns-in-Err-clause-refusal : goal.returns-in-Err-clause-refusal
returns-in-Err-clause-refusal c =
    rw c.fault_of_raster.ensures
    (raster-refusal c.args.header c.args.reader c.args.piece.now c.in-Err.fault c.in-Err.ensures.refusal)
