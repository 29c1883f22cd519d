use Rattle.std.proofs.Common.{[], ap, ◌∙◌, subst}
use Rattle.mesh_arrays.specs.ListChange.{IsChange}
use Rattle.mesh_arrays.specs.List.{ListState}
use Rattle.mesh_arrays.specs.Walk.{WalkState}
use Rattle.mesh_arrays.proofs.ListChangeLemmas.{same-change}
use Rattle.mesh_arrays.proofs.list.LeafList.stay.Goals as goal

pub returns-clause-change : goal.returns-clause-change
returns-clause-change c =
    let behind = c.deref_mut.result.now.leaves in
    let same =
    ap (λ (z : WalkState). z.leaves) c.deref_mut.ensures.value ∙ ap (λ (l : ListState). l.leaves) c.self.view_is in
    rw c.forget.ensures (subst (λ leaves. IsChange leaves behind [] []) same (same-change behind))
