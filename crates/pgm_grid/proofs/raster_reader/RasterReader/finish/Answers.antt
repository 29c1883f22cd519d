use Rattle.std.proofs.Common.{[]}
use Rattle.pgm_grid.proofs.RasterReaderLemmas.{opened-resume, closed-resume, finished-ok, finished-err}
use Rattle.pgm_grid.proofs.raster_reader.RasterReader.finish.Goals as goal

pub returns-in-Some-clause-err : goal.returns-in-Some-clause-err
returns-in-Some-clause-err c = closed-resume c.self.inside c.args.self c.in-Some.fault c.self.view_is c.in-Some.is []

pub returns-clause-ok : goal.returns-clause-ok
returns-clause-ok c =
    finished-ok c.self.inside.limits c.self.inside.heights.items c.self.inside.part c.args.self
    c.self.inside.at c.last_answer.result
    (opened-resume c.self.inside c.args.self c.self.view_is c.in_default.is) c.last_answer.ensures.ok

pub returns-clause-err : goal.returns-clause-err
returns-clause-err c =
    finished-err c.self.inside.limits c.self.inside.heights.items c.self.inside.part c.args.self
    c.self.inside.at c.last_answer.result
    (opened-resume c.self.inside c.args.self c.self.view_is c.in_default.is) c.last_answer.ensures.err
