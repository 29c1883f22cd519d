use Rattle.std.proofs.Common.{◌≡◌, ◌∙◌, ◌+◌, ◌^◌, ◌<◌, ◌∷◌, ℕ, length, arith, ap, List, Err, sym}
use Rattle.text_laws.proofs.DigitLemmas.{eight-digits}
use Rattle.pgm_grid.specs.RasterProgress.{after, plain_from, no_digits}
use Rattle.pgm_grid.specs.declared.raster_fault.RasterFault.{RasterFault}
use Rattle.pgm_grid.proofs.RasterLemmas.{passed_on}
use Rattle.pgm_grid.proofs.PlainLemmas.{plain-space}
use Rattle.pgm_grid.proofs.raster_plain.plain_step.Goals as goal

pub returns-in_err-end_digits-clause-err : goal.returns-in_err-end_digits-clause-err
returns-in_err-end_digits-clause-err c =
    passed_on c.from_residual.result c.in_err-end_digits.field-0.0
    (λ (f : RasterFault). (more : List ℕ) → after c.args.heights.now.items (plain_from c.args.limits
    (length c.args.heights.now.items) c.args.digits c.args.at (c.args.byte ∷ more)) ≡ Err f)
    c.from_residual.ensures.1
    (λ more. ap (after c.args.heights.now.items) (plain-space c.args.limits (length c.args.heights.now.items)
    c.args.digits c.args.at c.args.byte more (omega arith) (sym c.is_whitespace.ensures ∙ c.if-is_whitespace.true))
    ∙ c.in_err-end_digits.ensures.err (λ (i : ℕ). plain_from c.args.limits i no_digits (c.args.at + 1) more))

pub returns-then-is_whitespace-clause-ok : goal.returns-then-is_whitespace-clause-ok
returns-then-is_whitespace-clause-ok c =
    λ more. ap (after c.args.heights.now.items) (plain-space c.args.limits (length c.args.heights.now.items)
    c.args.digits c.args.at c.args.byte more (omega arith) (sym c.is_whitespace.ensures ∙ c.if-is_whitespace.true))
    ∙ c.in_ok-end_digits.ensures.ok (λ (i : ℕ). plain_from c.args.limits i no_digits (c.args.at + 1) more)

pub overflow_mul-result : goal.overflow_mul-result
overflow_mul-result c =
    let small : c.args.digits.value < 10 ^ 8 =
    eight-digits c.args.digits.count c.args.digits.value (omega arith) c.requires.part.small in
    omega (arith, small)

pub overflow_add-result-then-digits-lt-LONGEST : goal.overflow_add-result-then-digits-lt-LONGEST
overflow_add-result-then-digits-lt-LONGEST c =
    let small : c.args.digits.value < 10 ^ 8 =
    eight-digits c.args.digits.count c.args.digits.value (omega arith) c.requires.part.small in
    omega (arith, small)
