use Rattle.std.proofs.Common.{◌≡◌, ◌∙◌, ◌*◌, ◌++◌, ℕ, length, take, arith, subst, List, None, Err, sym}
use Rattle.std.proofs.lemmas.Bool.{eqb-true, eqb-false}
use Rattle.text_laws.specs.Words.{words_of}
use Rattle.pgm_grid.specs.RasterProgress.{after, words_from}
use Rattle.pgm_grid.specs.declared.raster_fault.RasterFault.{RasterFault}
use Rattle.pgm_grid.proofs.RasterLemmas.{Refuses, passed_on, words-taken, words-cut_half, words-trailing}
use Rattle.pgm_grid.proofs.RasterLemmas.{words-front-refused}
use Rattle.pgm_grid.proofs.raster_raw.words_after.Goals as goal

pub returns-in_err-push_words-clause-err : goal.returns-in_err-push_words-clause-err
returns-in_err-push_words-clause-err c =
    let step : Refuses c.args.limits c.args.heights.now.items
    (words_of (take (2 * c.min-pairs.result) c.args.piece.now)) c.in_err-push_words.field-0.0 =
    subst (λ (s : List ℕ). Refuses c.args.limits c.args.heights.now.items (words_of s) c.in_err-push_words.field-0.0)
    c.split_at.ensures.front c.in_err-push_words.ensures.err in
    passed_on c.from_residual.result c.in_err-push_words.field-0.0
    (λ (f : RasterFault). (more : List ℕ) → after c.args.heights.now.items
    (words_from c.args.limits (length c.args.heights.now.items) None c.args.at (c.args.piece.now ++ more)) ≡ Err f)
    c.from_residual.ensures.1
    (words-front-refused c.args.limits c.args.heights.now.items c.args.piece.now c.args.at c.min-pairs.result
    c.in_err-push_words.field-0.0 (omega arith) (omega arith) step)

pub returns-then-is_empty-clause-ok : goal.returns-then-is_empty-clause-ok
returns-then-is_empty-clause-ok c =
    let none : length c.split_at.result.1.now ≡ 0 = eqb-true _ _ (sym c.is_empty.ensures ∙ c.if-is_empty.true) in
    words-taken c.args.limits c.args.heights.now.items c.push_words.new.heights.items c.args.piece.now
    c.split_at.result.0.now c.args.at c.min-pairs.result
    c.split_at.ensures.front (omega arith) (omega arith) c.in_ok-push_words.ensures.ok
    (omega (arith, c.in_ok-push_words.ensures.count))

pub returns-then-pairs-wanted-clause-ok : goal.returns-then-pairs-wanted-clause-ok
returns-then-pairs-wanted-clause-ok c =
    let some : length c.split_at.result.1.now ≡ 0 → ⊥ = eqb-false _ _ (sym c.is_empty.ensures ∙ c.if-is_empty.false) in
    words-cut_half c.args.limits c.args.heights.now.items c.push_words.new.heights.items c.args.piece.now
    c.split_at.result.0.now c.split_at.result.1.now c.args.at c.min-pairs.result
    c.split_at.ensures.front c.split_at.ensures.back (omega arith) (omega arith) c.in_ok-push_words.ensures.ok
    (omega (arith, c.in_ok-push_words.ensures.count))

pub returns-clause-err : goal.returns-clause-err
returns-clause-err c =
    let some : length c.split_at.result.1.now ≡ 0 → ⊥ = eqb-false _ _ (sym c.is_empty.ensures ∙ c.if-is_empty.false) in
    words-trailing c.args.limits c.args.heights.now.items c.push_words.new.heights.items c.args.piece.now
    c.split_at.result.0.now c.args.at c.min-pairs.result (length c.split_at.result.0.now)
    c.split_at.ensures.front (omega arith) (omega arith) c.in_ok-push_words.ensures.ok
    (omega (arith, c.in_ok-push_words.ensures.count)) c.split_at.ensures.front_len
