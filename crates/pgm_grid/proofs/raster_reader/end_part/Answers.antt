use Rattle.pgm_grid.proofs.RasterReaderLemmas.{ended-ok, ended-err}
use Rattle.pgm_grid.proofs.raster_reader.end_part.Goals as goal

pub returns-in-Plain-clause-ok : goal.returns-in-Plain-clause-ok
returns-in-Plain-clause-ok c =
    ended-ok c.args.limits c.args.heights.now.items c.end_digits.new.heights.items c.args.part c.in-Plain.digits
    c.end_digits.result c.in-Plain.is c.end_digits.ensures.ok

pub returns-in-Plain-clause-err : goal.returns-in-Plain-clause-err
returns-in-Plain-clause-err c =
    ended-err c.args.limits c.args.heights.now.items c.args.part c.in-Plain.digits c.end_digits.result c.in-Plain.is
    c.end_digits.ensures.err
