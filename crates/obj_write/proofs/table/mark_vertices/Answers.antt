use Rattle.std.proofs.Common.{◌<◌, ◌∙◌, ap, length, take, sym, arith, ◌++◌, ◌∷◌, []}
use Rattle.std.proofs.Math.ListN.{set}
use Rattle.std.proofs.lemmas.List.{take_more}
use Rattle.obj_write.specs.VertexMarks.{grid_place, vertex_marks}
use Rattle.obj_write.proofs.PlaceLemmas.{marks-none, marks-more}
use Rattle.obj_write.proofs.table.mark_vertices.Goals as goal

pub loop-leaf-init : goal.loop-leaf-init
loop-leaf-init c = record {
  marks = c.requires.clear ∙ marks-none c.args.n;
  flagged = c.requires.flagged;
  levels = c.first_steps-steps.ensures.levels;
  known = c.first_steps-steps.ensures.known;
}

pub loop-leaf-preserved : goal.loop-leaf-preserved
loop-leaf-preserved c =
    let corners = c.corners_on_the_way-corners.result in
    let below : c.loop-leaf.leaf-index < length c.args.leaves.now = omega arith in
    record {
      marks = c.mark_vertex-in-loop-leaf-2.ensures.mark
          ∙ ap (λ xs. set xs (grid_place c.args.n corners.v1) 1) (c.mark_vertex-in-loop-leaf.ensures.mark
          ∙ ap (λ xs. set xs (grid_place c.args.n corners.v0) 1) (c.mark_vertex.ensures.mark
          ∙ ap (λ xs. set xs (grid_place c.args.n corners.apex) 1) c.loop-leaf.invariant.marks))
          ∙ marks-more c.args.n
          (take c.loop-leaf.leaf-index c.args.leaves.now) _ corners c.corners_on_the_way-corners.ensures.value
          c.corners_on_the_way-corners.ensures.within
          ∙ ap (λ a. vertex_marks c.args.n (take c.loop-leaf.leaf-index c.args.leaves.now ++ a ∷ [])) c.leaf-item.is
          ∙ ap (vertex_marks c.args.n)
          (sym (take_more c.args.leaves.now c.loop-leaf.leaf-index c.leaf-item.result below));
      flagged = c.mark_vertex-in-loop-leaf-2.ensures.flagged;
      levels = c.corners_on_the_way-corners.ensures.levels;
      known = c.corners_on_the_way-corners.ensures.known;
    }
