use Rattle.std.proofs.Common.{◌+◌, ◌++◌, ℕ, List, take, drop, arith}
use Rattle.std.proofs.lemmas.Result.{err_from_is_err_and}
use Rattle.run_laws.proofs.CertFileLemmas.{place}
use Rattle.run_laws.proofs.FileLemmas.{bytes-cut}
use Rattle.run_laws.proofs.StageLemmas.{takes-longer}
use Rattle.run_files.specs.LineStage.{refuses}
use Rattle.run_files.proofs.LineStageLemmas.{one-line}
use Rattle.run_files.proofs.line_stage.LineStage.take_piece.Goals as goal

pub returns-in_err-take_byte-clause-taken : goal.returns-in_err-take_byte-clause-taken
returns-in_err-take_byte-clause-taken g c read come =
    let p = err_from_is_err_and c.from_residual.result c.from_residual.ensures.1 in
    let bytes : List ℕ = read ++ take c.loop-byte.byte-index c.args.piece.now in
    let takes = rw c.loop-byte.invariant.level at (c.in_err-take_byte.ensures.taken bytes) in
    let old = c.args.self.now in
    let new = c.take_byte.new.self in
    let here = place (g.R.LineReader.said new.reader) new.lines new.part.items in
    rw (p.1, p.2) (takes-longer (g.R.LineReader.step (g.R.LineReader.level old.reader)) g.R.LineReader.start
    g.R.LineReader.finish (g.R.LineReader.file (g.R.LineReader.level old.reader))
    (g.met.R.LineReader.format (g.R.LineReader.level old.reader)) refuses one-line _
    (drop (c.loop-byte.byte-index + 1) c.args.piece.now) _ here here _
    (bytes-cut read c.args.piece.now c.loop-byte.byte-index (omega arith))
    (takes (c.loop-byte.invariant.come read come)))
