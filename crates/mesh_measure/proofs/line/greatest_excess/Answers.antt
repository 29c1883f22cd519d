-- A column more.
use Rattle.std.proofs.Common.{◌≡◌, ℕ, ◌+◌, ◌-◌, ◌*◌, slice_index, sym, ◌∙◌, ap, ap₂, subst, arith}
use Rattle.mesh_measure.specs.Columns.{IsGreatestAlong}
use Rattle.mesh_measure.specs.Line.{gap_on, excess_on}
use Rattle.mesh_measure.proofs.ColumnLemmas.{greatest-next}
use Rattle.mesh_measure.proofs.line.greatest_excess.Goals as goal

pub loop-place-preserved : goal.loop-place-preserved
loop-place-preserved c =
    let k : ℕ = c.loop-place.place in
    let f : ℕ → ℕ = excess_on c.args.area c.args.side c.args.line c.args.heights.now c.args.tolerances.now in
    let i = c.loop-place.invariant in
    let height : c.args.area * c.from.result ≡ c.args.area * slice_index c.args.heights.now k =
    ap (λ z. c.args.area * z) c.from.ensures in
    let gap : c.abs_diff-gap.result ≡ gap_on c.args.area c.args.line c.args.heights.now k =
    (let value = c.abs_diff-gap.ensures in omega arith) in
    let scaled : c.args.side * c.abs_diff-gap.result ≡ c.args.side * gap_on c.args.area c.args.line c.args.heights.now k
    = ap (λ z. c.args.side * z) gap in
    let allowed : c.args.area * c.from-in-loop-place.result ≡ c.args.area * slice_index c.args.tolerances.now k =
    ap (λ z. c.args.area * z) c.from-in-loop-place.ensures in
    let beyond = c.saturating_sub.ensures in
    let value : c.saturating_sub.result ≡ f k = beyond ∙ ap₂ (λ i j. i - j) scaled allowed in
    let is = c.greater-most.ensures in
    record {
      high = omega arith;
      low = omega arith;
      greatest = subst (λ z. IsGreatestAlong (k + 1) f z) (sym is)
          (greatest-next k f c.loop-place.most c.saturating_sub.result value i.greatest);
    }
