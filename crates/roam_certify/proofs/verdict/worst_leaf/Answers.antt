-- One leaf more.
use Rattle.std.proofs.Common.{◌<◌, ◌++◌, ◌∷◌, [], max, length, take, ap, ap₂, sym, ◌∙◌, subst, arith}
use Rattle.std.proofs.lemmas.List.{take_more}
use Rattle.std.proofs.lemmas.List.Elements.{All-get_or}
use Rattle.mesh_defs.specs.Triangle.{IsAddress}
use Rattle.bintree_laws.proofs.LevelLemmas.{level-le}
use Rattle.mesh_defs.specs.Priority.{worst_of}
use Rattle.mesh_laws.proofs.LeastLemmas.{worst_of-next}
use Rattle.mesh_defs.specs.State.{priority_seen}
use Rattle.roam_certify.proofs.verdict.worst_leaf.Goals as goal

pub priority-requires : goal.priority-requires
priority-requires c =
    let below : c.loop-leaf.leaf-index < length c.args.leaves.now = omega arith in
    let level = level-le c.args.n c.leaf-item.result (subst (IsAddress c.args.n) (sym c.leaf-item.is)
    (All-get_or (IsAddress c.args.n) c.args.leaves.now c.loop-leaf.leaf-index c.leaf-item.result below
    c.requires.addresses)) in
    record { level = omega (arith, level, c.requires.grid) }

pub loop-leaf-preserved : goal.loop-leaf-preserved
loop-leaf-preserved c =
    let p = priority_seen c.args.scene.now in
    let before = take c.loop-leaf.leaf-index c.args.leaves.now in
    let below : c.loop-leaf.leaf-index < length c.args.leaves.now = omega arith in
    c.greater-worst.ensures ∙ ap₂ max c.loop-leaf.invariant c.priority.ensures.value
    ∙ sym (worst_of-next p before c.leaf-item.result)
    ∙ ap (λ a. worst_of p (before ++ a ∷ [])) c.leaf-item.is
    ∙ ap (worst_of p) (sym (take_more c.args.leaves.now c.loop-leaf.leaf-index c.leaf-item.result below))
