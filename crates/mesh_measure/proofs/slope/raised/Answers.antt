-- A height of 16 bits, times at most 2,048, has 32 bits.
use Rattle.std.proofs.Common.{◌≡◌, ◌*◌, ◌^◌, ◌≤◌, ap, arith, pow_mono}
use Rattle.mesh_measure.proofs.AreaLemmas.{product}
use Rattle.mesh_measure.proofs.slope.raised.Goals as goal

pub returns : goal.returns
returns c =
    let fits = c.ranges.height.fits in
    let side : 2 ^ c.args.n ≤ 2 ^ 14 = pow_mono c.requires.in_grid in
    let small : 2 ^ c.args.n * c.args.height ≤ 16384 * 65535 =
    product (2 ^ c.args.n) c.args.height 16384 65535 side (omega (arith, fits)) in
    let same : c.from.result * 2 ^ c.args.n ≡ c.args.height * 2 ^ c.args.n = ap (λ z. z * 2 ^ c.args.n) c.from.ensures in
    omega arith
