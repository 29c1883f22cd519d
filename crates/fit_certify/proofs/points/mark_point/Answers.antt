-- The height is 1 at the point now, and elsewhere as it was.
use Rattle.std.proofs.Common.{ap}
use Rattle.mesh_defs.specs.HeightField.{HeightField}
use Rattle.fit_certify.proofs.KeepingLemmas.{marked-next}
use Rattle.fit_certify.proofs.points.mark_point.Goals as goal

pub returns-clause-marked : goal.returns-clause-marked
returns-clause-marked c points marked =
    marked-next points c.args.point c.args.marks.now c.put.new.self
    (ap (λ (m : HeightField). m.n) c.put.ensures.value) c.requires.point_in_grid c.put.ensures.there
    c.put.ensures.others marked
