use Rattle.std.proofs.lemmas.Grind.{common_steps}
use Rattle.std.proofs.Common.{sym, ap, subst, ◌∙◌, arith}
use Rattle.roam_mesh.specs.Parts.{PartsState, IsParts}
use Rattle.roam_mesh.proofs.NewLemmas.{begun_leaf, begun_parts}
use Rattle.roam_mesh.proofs.parts.Parts.new.Goals as goal

pub returns-clause-parts : goal.returns-clause-parts
returns-clause-parts c =
    let parts = c.in_ok-parts.parts in
    let ensured = c.in_ok-parts.ensures in
    subst IsParts (sym (c.begin_leaf-2.ensures ∙ ap (λ (p : PartsState). begun_leaf p 1) c.begin_leaf.ensures))
    (begun_parts parts c.args.leaves c.requires.some ensured.valid ensured.base ensured.heaps)

pub begin_leaf-requires-clause-vacant : goal.begin_leaf-requires-clause-vacant
begin_leaf-requires-clause-vacant c = grind (arith, common_steps)

pub begin_leaf-requires-2-clause-vacant : goal.begin_leaf-requires-2-clause-vacant
begin_leaf-requires-2-clause-vacant c = grind (arith, common_steps)

pub returns-clause-entries : goal.returns-clause-entries
returns-clause-entries c = grind (arith, common_steps)
