use Rattle.std.proofs.Common.{Ok, Err, sym, ◌∙◌, ap}
use Rattle.pgm_grid.proofs.ReaderLemmas.{end-raster}
use Rattle.pgm_grid.proofs.stage.grid_from.Goals as goal

pub returns-in-Ok-clause-value : goal.returns-in-Ok-clause-value
returns-in-Ok-clause-value c = sym (end-raster c.args.header c.args.reader (Ok c.in-Ok.heights.items) c.in-Ok.ensures.ok)

pub returns-in-Err-clause-value : goal.returns-in-Err-clause-value
returns-in-Err-clause-value c =
    ap Err c.fault_of_raster.ensures
    ∙ sym (end-raster c.args.header c.args.reader (Err c.in-Err.fault) c.in-Err.ensures.err)
