use Rattle.std.proofs.Common.{◌≤◌, ℕ, refl, arith}
use Rattle.std.proofs.lemmas.List.{take_all}
use Rattle.std.proofs.lemmas.List.Elements.{All-more, All-same}
use Rattle.std.proofs.Common.{sym}
use Rattle.roam_lanes.proofs.above.first_above_plain.Goals as goal

pub loop-i-preserved : goal.loop-i-preserved
loop-i-preserved c =
    All-more (λ (h : ℕ). h ≤ c.args.max) c.args.samples.now c.loop-i.i 0
    (omega arith) c.loop-i.invariant c.if-samples-i.false

pub returns-clause-none : goal.returns-clause-none
returns-clause-none c = (
  λ _. All-same (λ (h : ℕ). h ≤ c.args.max) c.args.samples.now _
      (sym (take_all c.loop-i.i c.args.samples.now (omega arith))) c.loop-i.invariant,
  λ _. refl,
)
