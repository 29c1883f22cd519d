use Rattle.std.proofs.Common.{◌≡◌, [], rules, arith, Ok, Err, ap, sym, ◌∙◌, subst}
use Rattle.std.proofs.lemmas.Grind.{common_steps}
use Rattle.std.proofs.lemmas.Result.{err_from_is_err_and}
use Rattle.run_laws.proofs.FileLemmas.{stops-unopened, read-begin, read-on, read-settles, read-whole}
use Rattle.run_laws.proofs.FileLemmas.{read-made, read-ended}
use Rattle.run_laws.proofs.PointFileLemmas.{points-begin, points-nothing}
use Rattle.run_laws.specs.PointFile.{PointPlace, HavePointsCome, points_in}
use Rattle.run_files.specs.PointStage.{stops}
use Rattle.run_files.proofs.points_file.read_points.Goals as goal

pub returns-in_default-clause-undecided : goal.returns-in_default-clause-undecided
returns-in_default-clause-undecided g c is all told =
    stops-unopened _ _ _ _ (grind (arith, common_steps)) (points-nothing c.args.n)

pub pieces-init : goal.pieces-init
pieces-init g c = record {
  reading = read-begin
      (subst (λ (here : PointPlace). HavePointsCome c.args.n [] here) (sym c.new-stage.ensures.place)
      (points-begin c.args.n))
      c.in-Ok.ensures.opened.chosen;
  level = c.new-stage.ensures.n;
  sound = c.new-stage.ensures.sound;
  opened = search rules;
  same = search rules;
}

pub returns-then-count-eq0-clause-ok : goal.returns-then-count-eq0-clause-ok
returns-then-count-eq0-clause-ok g c =
    let reading = c.pieces.invariant.reading in
    let ok = rw c.pieces.invariant.level at (c.end.ensures.ok reading.bytes) in
    read-made reading c.in-Ok-read.ensures.bytes (points_in c.args.n) (λ all. Ok all.items) c.end.result
    c.if-count-eq0.true (ok reading.come)

pub returns-then-count-eq0-clause-ended : goal.returns-then-count-eq0-clause-ended
returns-then-count-eq0-clause-ended g c =
    read-ended c.pieces.invariant.reading c.in-Ok-read.ensures.bytes c.end.result _ _ _
    (c.in-Ok-read.ensures.only.files ∙ c.pieces.invariant.opened.only.files) c.if-count-eq0.true
    (c.in-Ok-read.ensures.ends.at_end c.if-count-eq0.true)

pub returns-then-count-eq0-clause-refused : goal.returns-then-count-eq0-clause-refused
returns-then-count-eq0-clause-refused g c why e =
    let reading = c.pieces.invariant.reading in
    let refusal = rw c.pieces.invariant.level at (c.end.ensures.refusal reading.bytes) in
    read-whole reading c.in-Ok-read.ensures.bytes (points_in c.args.n) (Err why) c.if-count-eq0.true
    (refusal reading.come why e)

pub returns-in_err-take_piece-clause-refused : goal.returns-in_err-take_piece-clause-refused
returns-in_err-take_piece-clause-refused g c why e =
    let reading = c.pieces.invariant.reading in
    let p = err_from_is_err_and c.from_residual.result c.from_residual.ensures.1 in
    let is : c.in_err-take_piece.field-0.0 ≡ stops why = cc (p.1, p.2) in
    let takes = rw c.pieces.invariant.level at (c.in_err-take_piece.ensures.taken reading.bytes) in
    read-settles reading c.in-Ok-read.ensures.bytes (points_in c.args.n) (Err why)
    ((takes reading.come).refusal why (ap Err is))

pub pieces-preserved : goal.pieces-preserved
pieces-preserved g c = record {
  reading =
      let reading = c.pieces.invariant.reading in
      let takes = rw c.pieces.invariant.level at (c.in_ok-take_piece.ensures.taken reading.bytes) in
      read-on reading c.in-Ok-read.ensures.bytes _ (takes reading.come).ok;
  level = c.in_ok-take_piece.ensures.n ∙ c.pieces.invariant.level;
  sound = c.in_ok-take_piece.ensures.sound;
  opened = search rules;
  same = g.met.O.Outside.is_same_then _ _ _ c.pieces.invariant.same c.in-Ok-read.ensures.same;
}
