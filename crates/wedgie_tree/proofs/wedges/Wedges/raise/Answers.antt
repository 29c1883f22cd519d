use Rattle.std.proofs.lemmas.Grind.{common_steps}
use Rattle.std.proofs.Common.{ap, arith}
use Rattle.mesh_defs.specs.HeightField.{HeightField}
use Rattle.wedgie_tree.proofs.AreaLemmas.{address_laws}
use Rattle.wedgie_tree.proofs.MendLemmas.{IsRightOff-area}
use Rattle.wedgie_tree.proofs.wedges.Wedges.raise.Goals as goal

pub mend-requires-clause-clear : goal.mend-requires-clause-clear
mend-requires-clause-clear c =
    IsRightOff-area address_laws c.self.inside.grid c.raise_heights.new.grid c.args.area c.self.inside.table.items
    c.deref_mut.result.now c.deref_mut.ensures.value (ap (λ (g : HeightField). g.n) c.raise_heights.ensures.value)
    c.self.invariant c.raise_heights.ensures.others

pub invariant_of-self : goal.invariant_of-self
invariant_of-self c = grind (arith, common_steps)
