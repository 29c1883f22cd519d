use Rattle.std.proofs.Common.{◌≡◌, ◌++◌, ◌∙◌, sym, ap, length, take, drop}
use Rattle.std.proofs.Math.Seq.{take-append_seam}
use Rattle.obj_write.specs.VertexMarks.{numbered, marked}
use Rattle.obj_write.proofs.NumberLemmas.{numbered-marks, marked-marks, length-numbers}
use Rattle.obj_write.proofs.table.VertexTable.number.Goals as goal

pub returns-clause-numbers : goal.returns-clause-numbers
returns-clause-numbers c =
    let numbers = c.number_blocks.new.numbers in
    let is = c.number_blocks.ensures.numbers ∙ ap (numbered 0) c.mark_vertices.ensures.marks
    ∙ numbered-marks c.args.n c.args.leaves.now in
    let long : length numbers ≡ c.self.inside.numbers.len =
    c.number_blocks.auto.numbers ∙ c.mark_vertices.auto.numbers ∙ c.clear.auto.numbers
    ∙ c.as_mut_slice-numbers.ensures.len in
    let rest = drop (length numbers) c.self.inside.numbers.items in
    ap (λ k. take k (numbers ++ rest)) (sym long) ∙ take-append_seam numbers rest ∙ is

pub returns-clause-count : goal.returns-clause-count
returns-clause-count c =
    c.number_blocks.ensures.count ∙ ap marked c.mark_vertices.ensures.marks ∙ marked-marks c.args.n c.args.leaves.now

pub returns-clause-places : goal.returns-clause-places
returns-clause-places c =
    ap length (returns-clause-numbers c) ∙ length-numbers c.args.n c.args.leaves.now ∙ sym c.requires.room
