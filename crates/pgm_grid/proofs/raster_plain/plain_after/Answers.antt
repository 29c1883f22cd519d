use Rattle.std.proofs.Common.{◌≡◌, ◌∙◌, ◌+◌, ◌++◌, ℕ, List, drop, Err, ap, arith}
use Rattle.std.proofs.lemmas.List.{take_rest}
use Rattle.pgm_grid.specs.RasterProgress.{reads}
use Rattle.pgm_grid.specs.declared.raster_part.Part.TheVariants as part
use Rattle.pgm_grid.specs.declared.raster_fault.RasterFault.{RasterFault}
use Rattle.pgm_grid.proofs.RasterLemmas.{passed_on}
use Rattle.pgm_grid.proofs.PlainLemmas.{told-next}
use Rattle.pgm_grid.proofs.raster_plain.plain_after.Goals as goal

pub returns-in_err-digits-clause-err : goal.returns-in_err-digits-clause-err
returns-in_err-digits-clause-err c =
    let taken : ℕ = c.wanted_digits-taken.result.1 in
    passed_on c.from_residual.result c.in_err-digits.field-0.0
    (λ (f : RasterFault). (more : List ℕ)
    → reads c.args.limits c.args.heights.now.items
    (part.Plain c.args.digits) c.args.at (c.args.piece.now ++ more) ≡ Err f)
    c.from_residual.ensures.1
    (λ more. told-next c.args.limits c.args.heights.now.items c.loop-i.heights.items c.args.digits c.loop-i.digits
    c.wanted_digits-taken.result.0 c.args.at c.loop-i.i taken c.args.piece.now
    _ (take_rest c.args.piece.now c.loop-i.i) (omega arith) (omega arith) c.requires.place c.loop-i.invariant.told
    c.wanted_digits-taken.ensures.told more
    ∙ c.in_err-digits.ensures.err (drop (c.loop-i.i + taken + 1) c.args.piece.now ++ more))

pub loop-i-preserved-then-i-piece : goal.loop-i-preserved-then-i-piece
loop-i-preserved-then-i-piece c =
    let taken : ℕ = c.wanted_digits-taken.result.1 in
    let place : c.args.at + (c.loop-i.i + taken) + 1 ≡ c.args.at + (c.loop-i.i + taken + 1) = omega arith in
    record {
      told =
          λ more. told-next c.args.limits c.args.heights.now.items c.loop-i.heights.items c.args.digits c.loop-i.digits
          c.wanted_digits-taken.result.0 c.args.at c.loop-i.i taken c.args.piece.now
          _ (take_rest c.args.piece.now c.loop-i.i) (omega arith) (omega arith) c.requires.place c.loop-i.invariant.told
          c.wanted_digits-taken.ensures.told more
          ∙ c.in_ok-digits.ensures.ok (drop (c.loop-i.i + taken + 1) c.args.piece.now ++ more)
          ∙ ap (λ (k : ℕ). reads c.args.limits c.plain_step.new.heights.items (part.Plain c.in_ok-digits.digits) k
          (drop (c.loop-i.i + taken + 1) c.args.piece.now ++ more)) place;
      within = omega arith;
      room = c.in_ok-digits.ensures.valid;
      part = c.in_ok-digits.ensures.part;
    }
