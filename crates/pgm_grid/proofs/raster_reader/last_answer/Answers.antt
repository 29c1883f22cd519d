use Rattle.std.proofs.Common.{◌≡◌, ◌∙◌, ℕ, [], Err, arith}
use Rattle.pgm_grid.specs.RasterProgress.{reads}
use Rattle.pgm_grid.specs.declared.raster_fault.RasterFault.{RasterFault}
use Rattle.pgm_grid.proofs.RasterLemmas.{passed_on}
use Rattle.pgm_grid.proofs.RasterReaderLemmas.{end-short, end-whole}
use Rattle.pgm_grid.proofs.raster_reader.last_answer.Goals as goal

pub returns-in_err-end_part-clause-err : goal.returns-in_err-end_part-clause-err
returns-in_err-end_part-clause-err c =
    passed_on c.from_residual.result c.in_err-end_part.field-0.0
    (λ (f : RasterFault). (at : ℕ) → reads c.args.limits c.args.heights.items c.args.part at [] ≡ Err f)
    c.from_residual.ensures.1 c.in_err-end_part.ensures.err

pub returns-then-len-limits-clause-err : goal.returns-then-len-limits-clause-err
returns-then-len-limits-clause-err c =
    λ at. c.in_ok-end_part.ensures.ok at ∙ end-short c.args.limits c.end_part.new.heights.items (omega arith)

pub returns-clause-ok : goal.returns-clause-ok
returns-clause-ok c =
    λ at. c.in_ok-end_part.ensures.ok at ∙ end-whole c.args.limits c.end_part.new.heights.items (omega arith)
