use Rattle.std.proofs.Common.{◌∙◌, ap}
use Rattle.obj_write.specs.VertexMarks.{numbered, marked}
use Rattle.obj_write.proofs.NumberLemmas.{numbered-marks, marked-marks}
use Rattle.obj_write.proofs.vertices.number_vertices.Goals as goal

pub returns-clause-numbers : goal.returns-clause-numbers
returns-clause-numbers c =
    c.number_marked.ensures.numbers ∙ ap (numbered 0) c.mark_corners.ensures
    ∙ numbered-marks c.args.n c.args.leaves.now

pub returns-clause-count : goal.returns-clause-count
returns-clause-count c =
    c.number_marked.ensures.count ∙ ap marked c.mark_corners.ensures ∙ marked-marks c.args.n c.args.leaves.now
