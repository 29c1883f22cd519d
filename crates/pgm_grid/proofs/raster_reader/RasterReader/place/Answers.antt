use Rattle.std.proofs.Common.{sym}
use Rattle.pgm_grid.proofs.RasterReaderLemmas.{opened-place, closed-place}
use Rattle.pgm_grid.proofs.raster_reader.RasterReader.place.Goals as goal

pub returns-in-Some : goal.returns-in-Some
returns-in-Some c = record {
  value = sym (closed-place c.self.inside c.args.self.now c.in-Some.field-0 c.self.view_is c.in-Some.is);
}

pub returns-in-None : goal.returns-in-None
returns-in-None c = record { value = sym (opened-place c.self.inside c.args.self.now c.self.view_is c.in-None.is) }
