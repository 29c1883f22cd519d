use Rattle.std.proofs.Common.{◌+◌, ◌++◌, take, drop, arith}
use Rattle.std.proofs.lemmas.Result.{err_from_is_err_and}
use Rattle.run_laws.proofs.FileLemmas.{bytes-cut}
use Rattle.run_meshes.proofs.StageLemmas.{takes-longer}
use Rattle.run_meshes.proofs.script.take_piece.Goals as goal

pub returns-in_err-take_byte-clause-outcome : goal.returns-in_err-take_byte-clause-outcome
returns-in_err-take_byte-clause-outcome g c before show start read keeps at =
    let p = err_from_is_err_and c.from_residual.result c.from_residual.ensures.1 in
    rw (p.1, p.2) (takes-longer before _ show _ start _
    (drop (c.loop-byte.byte-index + 1) c.args.piece.now) _ c.take_byte.new.stage _ _
    (bytes-cut read c.args.piece.now c.loop-byte.byte-index (omega arith))
    (c.in_err-take_byte.ensures.outcome before show start (read ++ take c.loop-byte.byte-index c.args.piece.now) keeps
    (c.loop-byte.invariant.carried before show start read keeps at)))
