-- Turn by turn.
use Rattle.std.proofs.Common.{◌≡◌, arith, ⊎_elim, subst}
use Rattle.std.proofs.lemmas.Bool.{both_ways, cases_eq}
use Rattle.mosaic_rounds.specs.Turn.{Waits}
use Rattle.mosaic_rounds.proofs.turn.first_waiting.Goals as goal

pub loop-at-preserved : goal.loop-at-preserved
loop-at-preserved c v from less waits = ⊎_elim
    (λ (same : v ≡ c.loop-at.at).
    both_ways c.waits.result c.if-waits.false
    (c.waits.ensures.value.1 (subst (λ k. Waits c.args.shape c.args.words.now k) same waits)))
    (λ (other : v ≡ c.loop-at.at → ⊥). c.loop-at.invariant v from (omega arith) waits)
    (cases_eq v c.loop-at.at)

pub returns-clause-none : goal.returns-clause-none
returns-clause-none c v from less waits =
    let end = c.loop-at-test.false in c.loop-at.invariant v from (omega arith) waits
