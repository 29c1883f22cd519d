-- It fits 32 bits.
use Rattle.std.proofs.Common.{◌≡◌, ℕ, ◌*◌, ◌^◌, ◌≤◌, ◌∙◌, ap, arith, pow_mono, mul-le-mul_left}
use Rattle.fit_mesh.proofs.start.most_error.Goals as goal

pub returns : goal.returns
returns c =
    let n : ℕ = c.args.grid.now.n in
    let value = c.from.ensures in
    let bound = c.maxval.ensures.value in
    let level = c.n.ensures.value in
    let high = c.n.ensures.high in
    let few : n ≤ 14 = omega arith in
    let side : 2 ^ n ≤ 2 ^ 14 = pow_mono few in
    let top : c.from.result ≤ 65535 = omega arith in
    let wide : 65535 * 2 ^ n ≤ 65535 * 2 ^ 14 = mul-le-mul_left 65535 side in
    let tall : 2 ^ n * c.from.result ≤ 2 ^ n * 65535 = mul-le-mul_left (2 ^ n) top in
    let same : c.from.result * 2 ^ c.n.result ≡ c.from.result * 2 ^ n = ap (λ k. c.from.result * 2 ^ k) level in
    let whole : c.from.result * 2 ^ n ≡ c.args.grid.now.maxval * 2 ^ n =
    ap (λ k. k * 2 ^ n) (value ∙ bound) in
    omega arith
