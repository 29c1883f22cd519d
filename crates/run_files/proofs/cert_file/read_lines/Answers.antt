use Rattle.std.proofs.Common.{◌≡◌, [], rules, arith, Ok, Err, ap, sym, ◌∙◌, subst}
use Rattle.std.proofs.lemmas.Grind.{common_steps}
use Rattle.std.proofs.lemmas.Result.{err_from_is_err_and}
use Rattle.run_laws.specs.CertFile.{FilePlace, HaveCome}
use Rattle.run_laws.proofs.CertFileLemmas.{place, come-begin}
use Rattle.run_laws.proofs.FileLemmas.{stops-unopened, stops-behind, read-begin, read-on, read-settles}
use Rattle.run_laws.proofs.FileLemmas.{read-whole, read-made}
use Rattle.run_files.specs.declared.cert_file.CertStop.TheVariants.{BadLine}
use Rattle.run_files.specs.LineStage.{LinesHaveRead}
use Rattle.run_files.proofs.LineStageLemmas.{nothing-refused}
use Rattle.run_files.proofs.cert_file.read_lines.Goals as goal

pub pieces-init : goal.pieces-init
pieces-init g c = record {
  reading = read-begin
      (subst (λ (here : FilePlace g.R.LineReader.Said).
      HaveCome (g.R.LineReader.step c.args.n) g.R.LineReader.start [] here) (sym c.new-stage.ensures.place)
      (come-begin (g.R.LineReader.step c.args.n) g.R.LineReader.start))
      c.in-Ok.ensures.opened.chosen;
  level = c.new-stage.ensures.level;
  sound = c.new-stage.ensures.sound;
  opened = search rules;
  same = search rules;
}

pub returns-in_default-clause-undecided : goal.returns-in_default-clause-undecided
returns-in_default-clause-undecided g c is all told =
    stops-unopened _ _ _ _ (grind (arith, common_steps))
    (nothing-refused (g.R.LineReader.step c.args.n) g.R.LineReader.start)

pub returns-in_default-read-clause-undecided : goal.returns-in_default-read-clause-undecided
returns-in_default-read-clause-undecided g c is =
    let here = c.pieces.stage in
    let reading = c.pieces.invariant.reading in
    stops-behind (LinesHaveRead (g.R.LineReader.step c.args.n) g.R.LineReader.start) _ _ _ _ c.args.name.now
    reading.bytes reading.in_file c.in_default-read.ensures.bytes.kept
    (c.in_default-read.ensures.ends.failed ∙ c.pieces.invariant.opened.open_file)
    (place (g.R.LineReader.said here.reader) here.lines here.part.items, reading.come)

pub returns-then-count-eq0-clause-ok : goal.returns-then-count-eq0-clause-ok
returns-then-count-eq0-clause-ok g c =
    let reading = c.pieces.invariant.reading in
    let ends = rw c.pieces.invariant.level at (c.end.ensures.ends reading.bytes) in
    read-made reading c.in-Ok-read.ensures.bytes (g.R.LineReader.file c.args.n) (λ cert. Ok cert) c.end.result
    c.if-count-eq0.true (ends reading.come).ok

pub returns-then-count-eq0-clause-bad_line : goal.returns-then-count-eq0-clause-bad_line
returns-then-count-eq0-clause-bad_line g c line is =
    let reading = c.pieces.invariant.reading in
    let ends = rw c.pieces.invariant.level at (c.end.ensures.ends reading.bytes) in
    read-whole reading c.in-Ok-read.ensures.bytes (g.R.LineReader.file c.args.n) (Err line) c.if-count-eq0.true
    ((ends reading.come).bad_line line is)

pub pieces-preserved : goal.pieces-preserved
pieces-preserved g c = record {
  reading =
      let reading = c.pieces.invariant.reading in
      let takes = rw c.pieces.invariant.level at (c.in_ok-take_piece.ensures.taken reading.bytes) in
      read-on reading c.in-Ok-read.ensures.bytes _ (takes reading.come).ok;
  level = c.in_ok-take_piece.ensures.level ∙ c.pieces.invariant.level;
  sound = c.in_ok-take_piece.ensures.sound;
  opened = search rules;
  same = g.met.O.Outside.is_same_then _ _ _ c.pieces.invariant.same c.in-Ok-read.ensures.same;
}

pub returns-in_err-take_piece-clause-bad_line : goal.returns-in_err-take_piece-clause-bad_line
returns-in_err-take_piece-clause-bad_line g c line e all told =
    let reading = c.pieces.invariant.reading in
    let p = err_from_is_err_and c.from_residual.result c.from_residual.ensures.1 in
    let is : c.in_err-take_piece.field-0.0 ≡ BadLine line = cc (p.1, p.2) in
    let takes = rw c.pieces.invariant.level at (c.in_err-take_piece.ensures.taken reading.bytes) in
    read-settles reading c.in-Ok-read.ensures.bytes (g.R.LineReader.file c.args.n) (Err line)
    ((takes reading.come).bad_line line (ap Err is)) all told

pub returns-then-count-eq0-clause-same : goal.returns-then-count-eq0-clause-same
returns-then-count-eq0-clause-same g c =
    g.met.O.Outside.is_same_then _ _ _ c.pieces.invariant.same c.in-Ok-read.ensures.same

pub returns-in_err-take_piece-clause-same : goal.returns-in_err-take_piece-clause-same
returns-in_err-take_piece-clause-same g c =
    g.met.O.Outside.is_same_then _ _ _ c.pieces.invariant.same c.in-Ok-read.ensures.same
