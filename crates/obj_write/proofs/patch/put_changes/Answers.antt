use Rattle.std.proofs.Common.{◌/◌, ◌∙◌, ℕ, false, cond, List, take, get_or, sym, ap, arith, rules}
use Rattle.std.proofs.Math.ListN.{set}
use Rattle.std.proofs.lemmas.List.{take_more, get_or-set_other}
use Rattle.mesh_defs.specs.BoundingBox.{point}
use Rattle.obj_write.specs.declared.patch.VertexChange.{VertexChange}
use Rattle.obj_write.specs.VertexMarks.{grid_place}
use Rattle.obj_write.specs.Patch.{with_changes}
use Rattle.obj_write.proofs.PatchLemmas.{changes-more}
use Rattle.obj_write.proofs.patch.put_changes.Goals as goal

pub loop-change-preserved : goal.loop-change-preserved
loop-change-preserved c =
    let so_far = c.loop-change.invariant in
    let i : ℕ = c.loop-change.change-index in
    let changes : List VertexChange = c.args.changes.now in
    let none : VertexChange = record { point = point 0 0; shown = false } in
    let change : VertexChange = get_or changes i none in
    let at : ℕ = grid_place c.args.n change.point in
    let block = c.put_change-block.ensures.block in
    record {
      numbers = c.put_change-block.ensures.number
          ∙ ap (λ xs. set xs at (cond change.shown 1 0)) so_far.numbers
          ∙ changes-more c.args.n (take i changes) change c.args.numbers.now
          ∙ ap (λ cs. with_changes c.args.n cs c.args.numbers.now)
          (sym (take_more changes i none c.loop-change-test.true));
      places = c.put_change-block.auto.numbers ∙ so_far.places;
      flagged = c.put_change-block.ensures.flagged;
      flags = search rules;
      front = λ k low.
          ap (λ xs. get_or xs k 0) c.put_change-block.ensures.number
          ∙ get_or-set_other c.loop-change.numbers at k (cond change.shown 1 0) 0
          (λ same. omega (arith, ap (λ j. j / 64) same))
          ∙ so_far.front k (omega arith);
      first = omega arith;
    }
