use Rattle.std.proofs.Common.{◌∷◌, sym, subst, List, ℕ, take, get_or, arith}
use Rattle.std.proofs.lemmas.List.{take_more}
use Rattle.roam_lanes.specs.Extremes.{IsLeast, IsGreatest}
use Rattle.roam_lanes.proofs.LaneLemmas.{least_more, greatest_more}
use Rattle.roam_lanes.proofs.extremes.widened.Goals as goal

pub loop-i-preserved : goal.loop-i-preserved
loop-i-preserved c =
    let samples : List ℕ = c.args.samples.now in
    let more = sym (take_more samples c.loop-i.i 0 (omega arith)) in (
      subst (λ (xs : List ℕ). IsLeast (c.args.low ∷ xs) c.min-least.result) more
          (least_more (c.args.low ∷ take c.loop-i.i samples)
          (get_or samples c.loop-i.i 0) c.loop-i.least c.min-least.result c.loop-i.invariant.0 c.min-least.ensures),
      subst (λ (xs : List ℕ). IsGreatest (c.args.high ∷ xs) c.max-greatest.result) more
          (greatest_more (c.args.high ∷ take c.loop-i.i samples) (get_or samples c.loop-i.i 0) c.loop-i.greatest
          c.max-greatest.result c.loop-i.invariant.1 c.max-greatest.ensures),
    )
