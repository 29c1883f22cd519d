use Rattle.roam_gen.specs.Rows.{HasOctaves}
use Rattle.roam_gen.proofs.heights.fill_row.Given as goal

abbrev pub invariant-loop-k : goal.invariant-loop-k
invariant-loop-k l = HasOctaves l.row l.k l.n l.seed l.y
