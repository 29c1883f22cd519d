use Rattle.std.proofs.Common.{◌∙◌, ap}
use Rattle.mesh_arrays.specs.List.{ListState}
use Rattle.mesh_arrays.specs.Walk.{WalkState}
use Rattle.mesh_arrays.proofs.list.LeafList.patch.Goals as goal

pub patch_halves-requires-clause-before : goal.patch_halves-requires-clause-before
patch_halves-requires-clause-before c = record {
  none =
      ap (λ (z : WalkState). z.leaves) c.mark_changed.ensures.rest ∙ ap (λ (z : WalkState). z.leaves) c.begin.ensures;
  gone = ap (λ (z : WalkState). z.gone) c.mark_changed.ensures.rest ∙ ap (λ (z : WalkState). z.gone) c.begin.ensures;
  come = ap (λ (z : WalkState). z.come) c.mark_changed.ensures.rest ∙ ap (λ (z : WalkState). z.come) c.begin.ensures;
  before = c.requires.before.before;
  listed = ap (λ (z : WalkState). z.rest) c.mark_changed.ensures.rest ∙ ap (λ (z : WalkState). z.rest) c.begin.ensures
      ∙ ap (λ (z : WalkState). z.leaves) c.deref_mut-walk.ensures.value
      ∙ ap (λ (l : ListState). l.leaves) c.self.view_is ∙ c.requires.before.leaves_are;
  untouched = c.mark_changed.ensures.untouched c.requires.before.before c.requires.before.covered;
}
