use Rattle.std.proofs.Common.{◌≡◌, ◌∙◌, ◌++◌, ℕ, length, take, arith, subst, List, Err, sym}
use Rattle.std.proofs.lemmas.Bool.{eqb-true, eqb-false}
use Rattle.pgm_grid.specs.RasterProgress.{after, bytes_from}
use Rattle.pgm_grid.specs.declared.raster_fault.RasterFault.{RasterFault}
use Rattle.pgm_grid.proofs.RasterLemmas.{Refuses, passed_on, bytes-taken, bytes-trailing, bytes-front-refused}
use Rattle.pgm_grid.proofs.raster_raw.bytes_after.Goals as goal

pub returns-in_err-push_bytes-clause-err : goal.returns-in_err-push_bytes-clause-err
returns-in_err-push_bytes-clause-err c =
    let step : Refuses c.args.limits c.args.heights.now.items
    (take c.min.result c.args.piece.now) c.in_err-push_bytes.field-0.0 =
    subst (λ (s : List ℕ). Refuses c.args.limits c.args.heights.now.items s c.in_err-push_bytes.field-0.0)
    c.split_at.ensures.front c.in_err-push_bytes.ensures.err in
    passed_on c.from_residual.result c.in_err-push_bytes.field-0.0
    (λ (f : RasterFault). (more : List ℕ) → after c.args.heights.now.items
    (bytes_from c.args.limits (length c.args.heights.now.items) c.args.at (c.args.piece.now ++ more)) ≡ Err f)
    c.from_residual.ensures.1
    (bytes-front-refused c.args.limits c.args.heights.now.items c.args.piece.now c.args.at c.min.result
    c.in_err-push_bytes.field-0.0 (omega arith) (omega arith) step)

pub returns-then-is_empty-clause-ok : goal.returns-then-is_empty-clause-ok
returns-then-is_empty-clause-ok c =
    let none : length c.split_at.result.1.now ≡ 0 = eqb-true _ _ (sym c.is_empty.ensures ∙ c.if-is_empty.true) in
    bytes-taken c.args.limits c.args.heights.now.items c.push_bytes.new.heights.items c.args.piece.now
    c.split_at.result.0.now c.args.at c.min.result
    c.split_at.ensures.front (omega arith) (omega arith) c.in_ok-push_bytes.ensures.ok
    (omega (arith, c.in_ok-push_bytes.ensures.count))

pub returns-clause-err : goal.returns-clause-err
returns-clause-err c =
    let some : length c.split_at.result.1.now ≡ 0 → ⊥ = eqb-false _ _ (sym c.is_empty.ensures ∙ c.if-is_empty.false) in
    bytes-trailing c.args.limits c.args.heights.now.items c.push_bytes.new.heights.items c.args.piece.now
    c.split_at.result.0.now c.args.at c.min.result (length c.split_at.result.0.now)
    c.split_at.ensures.front (omega arith) (omega arith) c.in_ok-push_bytes.ensures.ok
    (omega (arith, c.in_ok-push_bytes.ensures.count)) c.split_at.ensures.front_len
