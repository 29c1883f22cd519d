-- The power is small.
use Rattle.std.proofs.Common.{arith}
use Rattle.cert_text.proofs.LineLemmas.{end-high}
use Rattle.cert_text.proofs.cert_line.leaf_end.Goals as goal

pub returns-clause-high : goal.returns-clause-high
returns-clause-high c = let below = end-high c.args.n 2 c.requires.in_grid.1 (omega arith) in omega arith
