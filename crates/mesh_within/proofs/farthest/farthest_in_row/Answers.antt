use Rattle.std.proofs.Common.{◌≡◌, ap, arith, ⊎_elim}
use Rattle.mesh_within.specs.declared.shape.Spot.{Spot}
use Rattle.mesh_within.specs.Gap.{gap_of}
use Rattle.mesh_within.proofs.SpotLemmas.{farther-attained, columns-more}
use Rattle.mesh_within.proofs.farthest.farthest_in_row.Goals as goal

pub loop-x-preserved : goal.loop-x-preserved
loop-x-preserved c = record {
  more = omega (arith, c.loop-x.invariant.more, c.farther-far.ensures.first);
  small = ⊎_elim
      (λ (e : c.farther-far.result ≡ c.loop-x.far).
      let same : c.farther-far.result.gap ≡ c.loop-x.far.gap = ap (λ (s : Spot). s.gap) e in omega (arith, c.loop-x.invariant.small))
      (λ (e : c.farther-far.result ≡ record { column = c.loop-x.x; row = c.args.y; gap = c.gap-off.result }).
      let same : c.farther-far.result.gap ≡ c.gap-off.result = ap (λ (s : Spot). s.gap) e in omega (arith, c.gap-off.ensures.small))
      c.farther-far.ensures.either;
  bound = columns-more (λ k. gap_of c.args.right c.args.top c.args.surface.now c.args.f (record { x = k; y = c.args.y }))
      c.args.columns.from c.loop-x.x c.loop-x.far.gap c.farther-far.result.gap c.gap-off.result
      c.loop-x.invariant.bound c.farther-far.ensures.first c.gap-off.ensures.value c.farther-far.ensures.second;
  attained = farther-attained c.args.right c.args.top c.args.surface.now c.args.f c.loop-x.far
      (record { column = c.loop-x.x; row = c.args.y; gap = c.gap-off.result }) c.farther-far.result c.loop-x.invariant.attained
      (record {
        held = record {
          column = omega arith;
          held = c.requires.held c.loop-x.x (record { from = omega arith; before = omega arith });
        };
        gap = c.gap-off.ensures.value;
      })
      c.farther-far.ensures.either;
}
