-- One leaf more, and one question.
use Rattle.std.proofs.Common.{◌<◌, ◌++◌, ◌∷◌, [], max, length, take, ap, ap₂, sym, ◌∙◌, arith}
use Rattle.std.proofs.lemmas.List.{take_more}
use Rattle.mesh_defs.specs.Priority.{worst_of}
use Rattle.mesh_defs.specs.State.{priority_seen}
use Rattle.mesh_laws.proofs.LeastLemmas.{worst_of-next}
use Rattle.least_mesh.proofs.list.worst_leaf.Goals as goal

pub loop-leaf-preserved : goal.loop-leaf-preserved
loop-leaf-preserved c =
    let p = priority_seen c.args.scene.now in
    let before = take c.loop-leaf.leaf-index c.args.leaves.now in
    let below : c.loop-leaf.leaf-index < length c.args.leaves.now = omega arith in
    let count = c.rank.ensures.count in
    let asked = c.loop-leaf.invariant.asked in
    let kept = c.loop-leaf.invariant.count in
    let read = c.count-count.ensures in
    record {
      value = c.greater-worst.ensures ∙ ap₂ max c.loop-leaf.invariant.value c.rank.ensures.value
          ∙ sym (worst_of-next p before c.leaf-item.result)
          ∙ ap (λ a. worst_of p (before ++ a ∷ [])) c.leaf-item.is
          ∙ ap (worst_of p) (sym (take_more c.args.leaves.now c.loop-leaf.leaf-index c.leaf-item.result below));
      asked = omega arith;
      count = omega arith;
    }
