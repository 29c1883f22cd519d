-- A column more.
use Rattle.std.proofs.Common.{◌≡◌, ℕ, ◌+◌, ◌*◌, ◌^◌, ◌≤◌, slice_index, sym, ap, subst, arith, pow_mono}
use Rattle.mesh_measure.specs.Columns.{IsGreatestAlong}
use Rattle.mesh_measure.specs.Line.{off_on}
use Rattle.mesh_measure.proofs.AreaLemmas.{product}
use Rattle.mesh_measure.proofs.ColumnLemmas.{greatest-next}
use Rattle.mesh_measure.proofs.line.greatest_off.Goals as goal

pub loop-h-preserved : goal.loop-h-preserved
loop-h-preserved c =
    let k : ℕ = c.loop-h.h-index in
    let f : ℕ → ℕ = off_on c.args.n c.args.at c.args.step c.args.heights.now in
    let i = c.loop-h.invariant in
    let plane = i.plane in
    let fits = c.type_inv.heights k in
    let byte = c.from.ensures in
    let side : 2 ^ c.args.n ≤ 2 ^ 14 = pow_mono c.requires.in_grid in
    let height : 2 ^ c.args.n * c.from.result ≡ 2 ^ c.args.n * slice_index c.args.heights.now k =
    ap (λ z. 2 ^ c.args.n * z) c.from.ensures in
    let small : 2 ^ c.args.n * c.from.result ≤ 16384 * 65535 =
    product (2 ^ c.args.n) c.from.result 16384 65535 side (omega (arith, fits)) in
    let gap = c.abs_diff.ensures in
    let value : c.abs_diff.result ≡ f k = omega arith in
    record {
      plane = omega arith;
      greatest = subst (λ z. IsGreatestAlong (k + 1) f z) (sym c.farther-most.ensures)
          (greatest-next k f c.loop-h.most c.abs_diff.result value i.greatest);
    }
