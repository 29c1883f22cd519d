use Rattle.std.proofs.Common.{◌≤◌, length, arith}
use Rattle.std.proofs.lemmas.Grind.{common_steps}
use Rattle.roam_script.specs.declared.limits.TheConstants.{MOST_LINE_BYTES}
use Rattle.run_laws.proofs.CertFileLemmas.{place}
use Rattle.run_laws.proofs.StageLemmas.{takes-line, takes-long}
use Rattle.run_files.specs.LineStage.{refuses}
use Rattle.run_files.proofs.LineStageLemmas.{one-line}
use Rattle.run_files.proofs.line_stage.LineStage.take_byte.Goals as goal

pub returns-then-byte-eq10-clause-taken : goal.returns-then-byte-eq10-clause-taken
returns-then-byte-eq10-clause-taken g c read come =
    let t = c.take_line.ensures in
    let old = c.args.self.now in
    let new = c.take_line.new.self in
    rw c.if-byte-eq10.true (takes-line (g.R.LineReader.step (g.R.LineReader.level old.reader)) g.R.LineReader.start
    g.R.LineReader.finish (g.R.LineReader.file (g.R.LineReader.level old.reader))
    (g.met.R.LineReader.format (g.R.LineReader.level old.reader)) refuses one-line read
    (place (g.R.LineReader.said old.reader) old.lines old.part.items) come
    (place (g.R.LineReader.said new.reader) new.lines new.part.items)
    c.take_line.result t.ok t.lines t.part t.bad_line t.number)

pub returns-then-is_full-clause-taken : goal.returns-then-is_full-clause-taken
returns-then-is_full-clause-taken g c read come =
    let old = c.args.self.now in
    let long : MOST_LINE_BYTES ≤ length old.part.items = grind (arith, common_steps) in
    takes-long (g.R.LineReader.step (g.R.LineReader.level old.reader)) g.R.LineReader.start
    g.R.LineReader.finish (g.R.LineReader.file (g.R.LineReader.level old.reader))
    (g.met.R.LineReader.format (g.R.LineReader.level old.reader)) refuses one-line read
    (place (g.R.LineReader.said old.reader) old.lines old.part.items) come c.args.byte
    (place (g.R.LineReader.said old.reader) old.lines old.part.items) c.if-byte-eq10.false long
