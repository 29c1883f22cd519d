use Rattle.run_engine.specs.SumView.{HasGone}
use Rattle.run_engine.proofs.generated.sums_of.Given as goal

-- the lines so far were carried out
abbrev pub invariant-loop-k : goal.invariant-loop-k
invariant-loop-k l = HasGone l.n l.seed l.k l.engine l.sums
