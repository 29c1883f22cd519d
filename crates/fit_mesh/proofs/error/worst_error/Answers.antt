-- One leaf more.
use Rattle.std.proofs.Common.{◌<◌, ◌++◌, ◌∷◌, [], max, length, take, ap, ap₂, sym, ◌∙◌, arith}
use Rattle.std.proofs.lemmas.List.{take_more}
use Rattle.mesh_defs.specs.Priority.{worst_of}
use Rattle.mesh_laws.proofs.LeastLemmas.{worst_of-next}
use Rattle.fit_laws.specs.Error.{error_of}
use Rattle.fit_mesh.proofs.error.worst_error.Goals as goal

pub loop-leaf-preserved : goal.loop-leaf-preserved
loop-leaf-preserved c =
    let e = error_of c.args.grid.now.n c.args.grid.now.heights in
    let before = take c.loop-leaf.leaf-index c.args.leaves.now in
    let below : c.loop-leaf.leaf-index < length c.args.leaves.now = omega arith in
    c.greater-worst.ensures ∙ ap₂ max c.loop-leaf.invariant c.error.ensures
    ∙ sym (worst_of-next e before c.leaf-item.result)
    ∙ ap (λ a. worst_of e (before ++ a ∷ [])) c.leaf-item.is
    ∙ ap (worst_of e) (sym (take_more c.args.leaves.now c.loop-leaf.leaf-index c.leaf-item.result below))
