use Rattle.std.proofs.Common.{◌≡◌, ℕ, subst, arith}
use Rattle.run_laws.specs.Outcome.{made_budget, made_spacing}
use Rattle.run_engine.specs.declared.generated.TheConstants.{LINES}
use Rattle.run_engine.specs.SumView.{HasGone}
use Rattle.run_engine.proofs.EngineLemmas.{followed-begins}
use Rattle.run_engine.proofs.SumLemmas.{gone-begins, gone-ends}
use Rattle.run_engine.proofs.generated.sums_of.Goals as goal

pub loop-k-init : goal.loop-k-init
loop-k-init c =
    let made = c.in_ok-engine.ensures in
    gone-begins c.args.n c.args.seed c.in_ok-grid.grid c.in_ok-engine.engine c.none-sums.result
    c.in_ok-grid.ensures.value
    (followed-begins c.in_ok-grid.grid made_spacing made_budget c.in_ok-engine.engine made.state made.most made.base
    made.odometer made.frames made.splits made.merges)
    c.none-sums.ensures

pub returns : goal.returns
returns c =
    let end : c.loop-k.k ≡ LINES = omega arith in
    let P : ℕ → Type 0 = λ i. HasGone c.args.n c.args.seed i c.loop-k.engine c.loop-k.sums in
    gone-ends c.args.n c.args.seed c.loop-k.engine c.loop-k.sums (subst P end c.loop-k.invariant)
