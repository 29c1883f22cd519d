use Rattle.std.proofs.lemmas.Grind.{common_steps}
use Rattle.std.proofs.Common.{ap, arith}
use Rattle.mesh_defs.specs.HeightField.{HeightField}
use Rattle.wedgie_tree.proofs.AreaLemmas.{address_laws}
use Rattle.wedgie_tree.proofs.MendLemmas.{IsRightOff-set}
use Rattle.wedgie_tree.proofs.wedges.Wedges.set.Goals as goal

pub mend-requires-clause-clear : goal.mend-requires-clause-clear
mend-requires-clause-clear c =
    IsRightOff-set address_laws c.self.inside.grid c.put.new.self c.new.result
    c.self.inside.table.items c.deref_mut.result.now
    c.args.x c.args.y c.new.ensures c.deref_mut.ensures.value (ap (λ (g : HeightField). g.n) c.put.ensures.value)
    c.self.invariant c.put.ensures.others

pub invariant_of-self : goal.invariant_of-self
invariant_of-self c = grind (arith, common_steps)
