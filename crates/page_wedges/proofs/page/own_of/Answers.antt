-- The three parts are the wedge, by the laws of thickness and heights.
use Rattle.std.proofs.Common.{◌∙◌, sym, arith}
use Rattle.page_wedges.proofs.OwnLemmas.{WedgeLaws, own-field, same_wedge}
use Rattle.page_wedges.proofs.page.own_of.Goals as goal

pub returns-clause-value : goal.returns-clause-value
returns-clause-value c =
    let laws : WedgeLaws = record {
      finest_thickness = c.wedge_laws.ensures.finest_thickness;
      finest_low = c.wedge_laws.ensures.finest_low;
      finest_high = c.wedge_laws.ensures.finest_high;
      thickness = c.wedge_laws.ensures.thickness;
      low = c.wedge_laws.ensures.low;
      high = c.wedge_laws.ensures.high;
    } in
    same_wedge _ _ _ _ _ _ c.wedge_at-wedge.ensures.thickness c.wedge_at-wedge.ensures.low c.wedge_at-wedge.ensures.high
    ∙ sym (own-field laws c.args.wedges.now.n c.args.wedges.now.heights c.args.tri
    (omega (arith, c.number-address.ensures.value, c.number-address.ensures.low)) c.requires.level)

pub returns-clause-bounded : goal.returns-clause-bounded
returns-clause-bounded c =
    let few = c.wedge_laws.ensures.bounded c.args.wedges.now c.args.tri c.grid.ensures.valid in
    omega (arith, c.wedge_at-wedge.ensures.thickness, few, c.n-small.ensures.high)
