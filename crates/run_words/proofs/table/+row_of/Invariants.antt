use Rattle.std.proofs.Common.{length}
use Rattle.run_words.proofs.table.+row_of.Given as goal

-- fewer rows are left
abbrev pub decreases-row_of : goal.decreases-row_of
decreases-row_of l = length l.rows.now
