use Rattle.std.proofs.Common.{◌+◌, ◌++◌, ℕ, List, take, drop, arith}
use Rattle.std.proofs.lemmas.Result.{err_from_is_err_and}
use Rattle.run_laws.proofs.FileLemmas.{bytes-cut}
use Rattle.run_files.proofs.PointStageLemmas.{takes-longer}
use Rattle.run_files.proofs.points_file.PointStage.take_piece.Goals as goal

pub returns-in_err-take_byte-clause-taken : goal.returns-in_err-take_byte-clause-taken
returns-in_err-take_byte-clause-taken c read come =
    let p = err_from_is_err_and c.from_residual.result c.from_residual.ensures.1 in
    let bytes : List ℕ = read ++ take c.loop-byte.byte-index c.args.piece.now in
    let takes = rw c.loop-byte.invariant.n at (c.in_err-take_byte.ensures.taken bytes) in
    rw (p.1, p.2) (takes-longer c.args.self.now.n _
    (drop (c.loop-byte.byte-index + 1) c.args.piece.now) _ _ _ _
    (bytes-cut read c.args.piece.now c.loop-byte.byte-index (omega arith))
    (takes (c.loop-byte.invariant.come read come)))
