use Rattle.std.proofs.Common.{◌≡◌, ◌++◌, ◌∙◌, ℕ, length, take, drop, sym, ap, subst, arith}
use Rattle.std.proofs.Math.Seq.{take-append_seam}
use Rattle.obj_write.specs.VertexMarks.{numbered, marked}
use Rattle.obj_write.specs.Table.{IsCounted, block_end}
use Rattle.obj_write.proofs.PatchLemmas.{counted-front, changed-numbers, changed-count, grid_few, numbers-long}
use Rattle.obj_write.proofs.PatchLemmas.{numbers-done}
use Rattle.obj_write.proofs.table.VertexTable.patch.Goals as goal

pub put_changes-first-requires-clause-room : goal.put_changes-first-requires-clause-room
put_changes-first-requires-clause-room c =
    let old = c.as_mut_slice-numbers.result.now in
    let same : old ≡ c.args.self.now = cc in
    numbers-long c.args.n old c.args.self.now same c.requires.numbers

pub last_before-before-requires-clause-room : goal.last_before-before-requires-clause-room
last_before-before-requires-clause-room c =
    let old = c.as_mut_slice-numbers.result.now in
    let same : old ≡ c.args.self.now = cc in
    let long = numbers-long c.args.n old c.args.self.now same c.requires.numbers in
    let few = grid_few c.args.n c.requires.in_grid in
    let kept = c.put_changes-first.auto.numbers in
    omega arith

pub number_blocks-requires-clause-room : goal.number_blocks-requires-clause-room
number_blocks-requires-clause-room c =
    let old = c.as_mut_slice-numbers.result.now in
    let same : old ≡ c.args.self.now = cc in
    let long = numbers-long c.args.n old c.args.self.now same c.requires.numbers in
    let few = grid_few c.args.n c.requires.in_grid in
    let kept = c.put_changes-first.auto.numbers in
    omega arith

pub number_blocks-requires-clause-counted : goal.number_blocks-requires-clause-counted
number_blocks-requires-clause-counted c =
    let old = c.as_mut_slice-numbers.result.now in
    let same : old ≡ c.args.self.now = cc in
    let xs = c.put_changes-first.new.numbers in
    let at : ℕ = block_end xs c.put_changes-first.result in
    subst (λ (k : ℕ). IsCounted xs xs k at) (sym c.last_before-before.ensures)
    (counted-front old xs at (omega arith) c.put_changes-first.auto.numbers
    (numbers-done c.args.n old c.args.self.now same c.requires.numbers)
    (λ k low. c.put_changes-first.ensures.front k (omega arith)))

pub returns-clause-numbers : goal.returns-clause-numbers
returns-clause-numbers c before after is all =
    let old = c.as_mut_slice-numbers.result.now in
    let same : old ≡ c.args.self.now = cc in
    let numbers = c.number_blocks.new.numbers in
    let long : length numbers ≡ c.self.inside.numbers.len =
    c.number_blocks.auto.numbers ∙ c.put_changes-first.auto.numbers ∙ c.as_mut_slice-numbers.ensures.len in
    let rest = drop (length numbers) c.self.inside.numbers.items in
    ap (λ k. take k (numbers ++ rest)) (sym long) ∙ take-append_seam numbers rest
    ∙ c.number_blocks.ensures.numbers ∙ ap (numbered 0) c.put_changes-first.ensures.numbers
    ∙ changed-numbers c.args.n before after c.args.changes.now old (same ∙ is) c.requires.within all

pub returns-clause-count : goal.returns-clause-count
returns-clause-count c before after is all =
    let old = c.as_mut_slice-numbers.result.now in
    let same : old ≡ c.args.self.now = cc in
    c.number_blocks.ensures.count ∙ ap marked c.put_changes-first.ensures.numbers
    ∙ changed-count c.args.n before after c.args.changes.now old (same ∙ is) c.requires.within all
