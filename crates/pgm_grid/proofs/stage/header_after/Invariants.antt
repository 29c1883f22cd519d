use Rattle.pgm_grid.proofs.ReaderLemmas.{HasTaken}
use Rattle.pgm_grid.proofs.stage.header_after.Given as goal

-- the bytes so far were taken
abbrev pub invariant-loop-i : goal.invariant-loop-i
invariant-loop-i l = HasTaken l.fn.reader l.reader l.piece l.i
