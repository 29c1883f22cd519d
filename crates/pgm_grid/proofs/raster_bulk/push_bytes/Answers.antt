use Rattle.std.proofs.Common.{◌≡◌, ◌∙◌, ◌+◌, ◌++◌, ℕ, length, arith, ap, subst, List}
use Rattle.text_laws.proofs.ListLemmas.{cut-parts}
use Rattle.pgm_grid.proofs.RasterLemmas.{Pushes, Refuses, passed_on, chunk-pushed, chunk-refused}
use Rattle.pgm_grid.proofs.raster_bulk.push_bytes.Goals as goal

pub returns-in_err-push_samples-clause-err : goal.returns-in_err-push_samples-clause-err
returns-in_err-push_samples-clause-err c =
    let cut : c.loop-left.left.now ≡ c.split_at.result.0.now ++ c.split_at.result.1.now =
    cut-parts c.loop-left.left.now c.split_at.result.0.now c.split_at.result.1.now c.min.result c.split_at.ensures.front
    c.split_at.ensures.back in
    let step : Refuses c.args.limits c.loop-left.heights.items c.split_at.result.0.now c.in_err-push_samples.field-0.0 =
    subst (λ (s : List ℕ). Refuses c.args.limits c.loop-left.heights.items s c.in_err-push_samples.field-0.0)
    c.widen.ensures c.in_err-push_samples.ensures.err in
    passed_on c.from_residual.result c.in_err-push_samples.field-0.0
    (Refuses c.args.limits c.args.heights.now.items c.args.bytes.now) c.from_residual.ensures.1
    (λ rest. c.loop-left.invariant.told rest
    ∙ chunk-refused c.args.limits c.loop-left.heights.items c.split_at.result.0.now c.split_at.result.1.now
    c.loop-left.left.now c.in_err-push_samples.field-0.0 cut step rest)

pub loop-left-preserved : goal.loop-left-preserved
loop-left-preserved c =
    let cut : c.loop-left.left.now ≡ c.split_at.result.0.now ++ c.split_at.result.1.now =
    cut-parts c.loop-left.left.now c.split_at.result.0.now c.split_at.result.1.now c.min.result c.split_at.ensures.front
    c.split_at.ensures.back in
    let step : Pushes c.args.limits c.loop-left.heights.items c.split_at.result.0.now c.push_samples.new.heights.items =
    subst (λ (s : List ℕ). Pushes c.args.limits c.loop-left.heights.items s c.push_samples.new.heights.items)
    c.widen.ensures c.in_ok-push_samples.ensures.ok in
    let made : length c.widen.new.out ≡ length c.split_at.result.0.now = ap length c.widen.ensures in
    let grown : length c.push_samples.new.heights.items ≡ length c.loop-left.heights.items
    + length c.split_at.result.0.now = omega (arith, c.in_ok-push_samples.ensures.count) in
    record {
      told = λ rest. c.loop-left.invariant.told rest
          ∙ chunk-pushed c.args.limits c.loop-left.heights.items c.push_samples.new.heights.items
          c.split_at.result.0.now c.split_at.result.1.now c.loop-left.left.now cut step grown rest;
      count = omega (arith, c.in_ok-push_samples.ensures.count);
      capacity = omega arith;
    }
