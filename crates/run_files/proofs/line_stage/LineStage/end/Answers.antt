use Rattle.std.proofs.Common.{◌≡◌, ◌≢◌, [], arith}
use Rattle.std.proofs.lemmas.Grind.{common_steps}
use Rattle.std.proofs.lemmas.Result.{err_from_is_err_and}
use Rattle.run_laws.proofs.CertFileLemmas.{place}
use Rattle.run_laws.proofs.StageLemmas.{ends-whole, ends-line, ends-refused}
use Rattle.run_files.specs.LineStage.{refuses}
use Rattle.run_files.proofs.LineStageLemmas.{one-line}
use Rattle.run_files.proofs.line_stage.LineStage.end.Goals as goal

pub returns-then-is_empty-clause-ends : goal.returns-then-is_empty-clause-ends
returns-then-is_empty-clause-ends g c read come =
    let old = c.args.self in
    let none : old.part.items ≡ [] = grind (arith, common_steps) in
    ends-whole (g.R.LineReader.step (g.R.LineReader.level old.reader)) g.R.LineReader.start
    g.R.LineReader.finish (g.R.LineReader.file (g.R.LineReader.level old.reader))
    (g.met.R.LineReader.format (g.R.LineReader.level old.reader)) refuses one-line read
    (place (g.R.LineReader.said old.reader) old.lines old.part.items) come c.end.result none c.end.ensures.ok
    c.end.ensures.bad_line

pub returns-clause-ends : goal.returns-clause-ends
returns-clause-ends g c read come =
    let old = c.args.self in
    let some : old.part.items ≢ [] = grind (arith, common_steps) in
    ends-line (g.R.LineReader.step (g.R.LineReader.level old.reader)) g.R.LineReader.start
    g.R.LineReader.finish (g.R.LineReader.file (g.R.LineReader.level old.reader))
    (g.met.R.LineReader.format (g.R.LineReader.level old.reader)) refuses one-line read
    (place (g.R.LineReader.said old.reader) old.lines old.part.items) come
    (g.R.LineReader.said c.take_line.new.self.reader) c.end-2.result some
    c.in_ok-take_line.ensures.ok c.end-2.ensures.ok c.end-2.ensures.bad_line

pub returns-in_err-take_line-clause-ends : goal.returns-in_err-take_line-clause-ends
returns-in_err-take_line-clause-ends g c read come =
    let old = c.args.self in
    let p = err_from_is_err_and c.from_residual.result c.from_residual.ensures.1 in
    let some : old.part.items ≢ [] = grind (arith, common_steps) in
    rw (p.1, p.2) (ends-refused (g.R.LineReader.step (g.R.LineReader.level old.reader)) g.R.LineReader.start
    g.R.LineReader.finish (g.R.LineReader.file (g.R.LineReader.level old.reader))
    (g.met.R.LineReader.format (g.R.LineReader.level old.reader)) refuses one-line read
    (place (g.R.LineReader.said old.reader) old.lines old.part.items) come _ some c.in_err-take_line.ensures.bad_line
    c.in_err-take_line.ensures.number)
