use Rattle.std.proofs.Common.{◌≡◌, ◌*◌, ◌/◌, ◌+◌, ◌<◌, ◌≤◌, List, sym, ℕ, length, take, subst, arith}
use Rattle.roam_lanes.specs.Extremes.{IsRangeOf}
use Rattle.roam_lanes.proofs.LaneLemmas.{HaveLeast, HaveGreatest, have_least_first, have_greatest_first}
use Rattle.roam_lanes.proofs.LaneLemmas.{have_least_more, have_greatest_more, least_of_lanes, greatest_of_lanes}
use Rattle.roam_lanes.proofs.LaneLemmas.{least_twice, greatest_twice}
use Rattle.roam_lanes.proofs.extremes.range_of_blocks.Goals as goal

pub loop-k-init : goal.loop-k-init
loop-k-init c = (have_least_first (take 8 c.args.samples.now), have_greatest_first (take 8 c.args.samples.now))

pub loop-k-preserved : goal.loop-k-preserved
loop-k-preserved c =
    let samples : List ℕ = c.args.samples.now in
    let k : ℕ = c.loop-k.k in (
      subst (λ (xs : List ℕ). HaveLeast (take (8 * (k + 1)) samples) xs) (sym c.lesser-lows.ensures)
          (have_least_more samples c.loop-k.lows k (omega arith) c.loop-k.auto.lows.0 c.loop-k.invariant.0),
      subst (λ (xs : List ℕ). HaveGreatest (take (8 * (k + 1)) samples) xs) (sym c.greater-highs.ensures)
          (have_greatest_more samples c.loop-k.highs k (omega arith) c.loop-k.auto.highs.0 c.loop-k.invariant.1),
    )

pub returns : goal.returns
returns c =
    let some : 1 ≤ length c.args.samples.now / 8 = omega arith in
    let last : c.loop-k.k ≡ length c.args.samples.now / 8 = omega (arith, c.loop-k.auto.k-end some) in
    let low : 0 < length c.loop-k.lows = omega (arith, c.loop-k.auto.lows.0) in
    let high : 0 < length c.loop-k.highs = omega (arith, c.loop-k.auto.highs.0) in
    subst (λ (k : ℕ). IsRangeOf (take (8 * k) c.args.samples.now) c.widened-low.result.0 c.widened-high.result.1) last
    (record {
      least = least_of_lanes _ c.loop-k.lows _ c.loop-k.invariant.0
          (least_twice c.loop-k.lows _ low c.widened-low.ensures.least);
      greatest = greatest_of_lanes _ c.loop-k.highs _ c.loop-k.invariant.1
          (greatest_twice c.loop-k.highs _ high c.widened-high.ensures.greatest);
    })
