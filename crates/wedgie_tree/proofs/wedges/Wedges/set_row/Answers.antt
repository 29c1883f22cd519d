use Rattle.std.proofs.lemmas.Grind.{common_steps}
use Rattle.std.proofs.Common.{ℕ, List, ap, arith}
use Rattle.mesh_defs.specs.HeightField.{HeightField}
use Rattle.wedgie_tree.proofs.AreaLemmas.{address_laws}
use Rattle.wedgie_tree.proofs.MendLemmas.{IsRightOff-row}
use Rattle.wedgie_tree.proofs.PointLemmas.{with_row-none}
use Rattle.wedgie_tree.proofs.wedges.Wedges.set_row.Goals as goal

pub mend-requires-clause-clear : goal.mend-requires-clause-clear
mend-requires-clause-clear c =
    IsRightOff-row address_laws c.self.inside.grid c.put_row.new.grid c.new.result
    c.self.inside.table.items c.deref_mut.result.now
    c.args.x c.args.y _ _ c.new.ensures (omega arith) c.deref_mut.ensures.value
    (ap (λ (g : HeightField). g.n) c.put_row.ensures.value) c.self.invariant c.put_row.ensures.others

pub returns-then-count-eq0-clause-value : goal.returns-then-count-eq0-clause-value
returns-then-count-eq0-clause-value c =
    ap (λ (all : List ℕ). let g : HeightField = record c.args.self.now { heights = all } in g)
    (with_row-none c.args.self.now c.args.x c.args.y c.args.heights.now c.grid-valid.ensures.valid
    (omega arith) c.requires.in_columns)

pub invariant_of-self : goal.invariant_of-self
invariant_of-self c = grind (arith, common_steps)
