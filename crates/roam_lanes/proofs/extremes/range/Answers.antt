use Rattle.std.proofs.Common.{◌*◌, ◌-◌, ◌/◌, ◌++◌, ◌∙◌, ◌≡◌, ap, ℕ, List, length, take, drop, subst}
use Rattle.std.proofs.lemmas.List.{take-append-drop, take_rest}
use Rattle.roam_lanes.specs.Extremes.{IsRangeOf}
use Rattle.roam_lanes.proofs.LaneLemmas.{least_joined, greatest_joined}
use Rattle.roam_lanes.proofs.extremes.range.Goals as goal

pub returns-clause-value : goal.returns-clause-value
returns-clause-value c =
    let samples : List ℕ = c.args.samples.now in
    let n : ℕ = 8 * (length samples / 8) in
    let whole : take n samples ++ take (length samples - n) (drop n samples) ≡ samples =
    ap (λ (xs : List ℕ). take n samples ++ xs) (take_rest samples n) ∙ take-append-drop n samples in
    subst (λ (xs : List ℕ). IsRangeOf xs c.widened.result.0 c.widened.result.1) whole
    (record {
      least = least_joined (take n samples) _ _ _ c.range_of_blocks-low.ensures.least c.widened.ensures.least;
      greatest =
          greatest_joined (take n samples) _ _ _ c.range_of_blocks-low.ensures.greatest c.widened.ensures.greatest;
    })
