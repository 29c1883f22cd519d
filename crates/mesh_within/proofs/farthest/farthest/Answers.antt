use Rattle.std.proofs.Common.{arith}
use Rattle.mesh_within.specs.Gap.{gap_of, Holds}
use Rattle.mesh_within.proofs.RowLemmas.{rows-between}
use Rattle.mesh_within.proofs.SpotLemmas.{rows-more}
use Rattle.mesh_within.proofs.farthest.farthest.Goals as goal

pub loop-y-preserved : goal.loop-y-preserved
loop-y-preserved c = record {
  small = c.farthest_in_row-far.ensures.small;
  bound = rows-more (gap_of c.args.right c.args.top c.args.surface.now c.args.f) (Holds c.args.right c.args.f) c.min-low.result c.loop-y.y
      c.loop-y.far.gap c.farthest_in_row-far.result.gap c.loop-y.invariant.bound c.farthest_in_row-far.ensures.more
      (λ x has. c.farthest_in_row-far.ensures.bound x ((c.held_columns-columns.ensures.held x).1 (omega (arith, has.column), has.held)));
  attained = c.farthest_in_row-far.ensures.attained;
}

pub returns-clause-bound : goal.returns-clause-bound
returns-clause-bound c = λ o has.
    let rows = rows-between c.args.f.a c.args.f.b c.args.f.c o c.min-low.result c.max-high.result c.requires.facet.left has.held
    (omega arith) (omega arith) (omega arith) (omega arith) (omega arith) (omega arith) in
    c.loop-y.invariant.bound o has rows.0 (omega (arith, rows.1))
