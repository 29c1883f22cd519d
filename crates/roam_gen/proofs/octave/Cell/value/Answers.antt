use Rattle.std.proofs.Common.{ℕ, ◌≤◌, ◌^◌, sym, subst, arith}
use Rattle.roam_gen.proofs.OctaveLemmas.{between-bound, value-between}
use Rattle.roam_gen.proofs.octave.Cell.value.Goals as goal

pub returns-clause-value : goal.returns-clause-value
returns-clause-value c =
    let cell = c.args.self.now in
    value-between c.args.k c.width_of-width.result c.args.a c.args.b cell.low_left cell.low_right
    cell.high_left cell.high_right
    c.weighted.result c.weighted-2.result c.weighted-3.result c.weighted-4.result c.width_of-width.ensures.value
    c.weighted.ensures.value c.weighted-2.ensures.value c.weighted-3.ensures.value c.weighted-4.ensures.value

pub returns-clause-bounded : goal.returns-clause-bounded
returns-clause-bounded c =
    let cell = c.args.self.now in
    let value = value-between c.args.k c.width_of-width.result c.args.a c.args.b cell.low_left cell.low_right
    cell.high_left cell.high_right
    c.weighted.result c.weighted-2.result c.weighted-3.result c.weighted-4.result c.width_of-width.ensures.value
    c.weighted.ensures.value c.weighted-2.ensures.value c.weighted-3.ensures.value c.weighted-4.ensures.value in
    let P : ℕ → Type 0 = λ v. v ≤ 65535 in
    subst P (sym value)
    (between-bound (2 ^ c.args.k) c.args.a c.args.b cell.low_left cell.low_right cell.high_left cell.high_right
    (omega arith) (omega arith)
    (omega arith) (omega arith) (omega arith) (omega arith))
