use Rattle.std.proofs.Common.{◌≡◌, ◌++◌, ℕ, List, length, Err, arith}
use Rattle.pgm_grid.specs.RasterProgress.{after, plain_from}
use Rattle.pgm_grid.specs.declared.raster_fault.RasterFault.{RasterFault}
use Rattle.pgm_grid.proofs.RasterLemmas.{passed_on}
use Rattle.pgm_grid.proofs.PlainLemmas.{front-refused, front-long}
use Rattle.pgm_grid.proofs.raster_plain.plain_within.Goals as goal

pub returns-in_err-plain_after-clause-err : goal.returns-in_err-plain_after-clause-err
returns-in_err-plain_after-clause-err c =
    passed_on c.from_residual.result c.in_err-plain_after.field-0.0
    (λ (f : RasterFault). (more : List ℕ) → after c.args.heights.now.items (plain_from c.args.limits
    (length c.args.heights.now.items) c.args.digits c.args.at (c.args.piece.now ++ more)) ≡ Err f)
    c.from_residual.ensures.1
    (front-refused c.args.limits c.args.heights.now.items (length c.args.heights.now.items) c.args.digits c.args.at _
    c.args.piece.now c.in_err-plain_after.field-0.0 c.in_err-plain_after.ensures.err)

pub returns-clause-err : goal.returns-clause-err
returns-clause-err c =
    front-long c.args.limits c.args.heights.now.items c.plain_after-2.new.heights.items
    (length c.args.heights.now.items)
    (length c.plain_after-2.new.heights.items) c.args.digits c.in_ok-plain_after.field-0 c.args.at
    _ c.args.piece.now (omega arith) (omega arith) c.in_ok-plain_after.ensures.ok
