-- Twice the area divides what is shifted, so the quotient is the difference of the two numbers.
use Rattle.std.proofs.Common.{◌≡◌, ℕ, ◌+◌, ◌-◌, ◌*◌, ◌/◌, ◌%◌, ◌^◌, ◌<◌, ◌≤◌, ◌∙◌, ap, arith, mul-le-mul_left, pow_pos}
use Rattle.std.proofs.Math.Nat.{mul-sub, le_of_mul-le-mul_left}
use Rattle.mesh_measure.proofs.GapLemmas.{exact}
use Rattle.mesh_measure.proofs.slope.step.Goals as goal

-- the quotient, and its order
quotient : (area m i j more less : ℕ) → 0 < area → less ≤ more → area * i + m * less ≡ area * j + m * more →
    (j ≤ i) × (m * (more - less) / area ≡ i - j)
quotient area m i j more less some ordered e =
    let parts : m * (more - less) ≡ m * more - m * less = mul-sub m more less in
    let le : m * less ≤ m * more = mul-le-mul_left m ordered in
    let above : j ≤ i = le_of_mul-le-mul_left {k = area} (omega arith) some in
    let difference : area * (i - j) ≡ area * i - area * j = mul-sub area i j in
    (above, exact area (i - j) (m * (more - less)) some (omega arith))

pub returns-then-less-more : goal.returns-then-less-more
returns-then-less-more c i j e =
    let q = quotient (2 ^ c.args.log_area) (2 ^ c.args.n) i j c.args.more c.args.less (pow_pos c.args.log_area)
    c.if-less-more.true e in
    let above : j ≤ i = q.0 in
    let bits : c.over_area.result ≡ (i - j) % 2 ^ 32 = c.over_area.ensures ∙ ap (λ z. z % 2 ^ 32) q.1 in
    omega arith

pub returns : goal.returns
returns c i j e =
    let more = c.if-less-more.false in
    let q = quotient (2 ^ c.args.log_area) (2 ^ c.args.n) j i c.args.less c.args.more (pow_pos c.args.log_area)
    (omega arith) (omega arith) in
    let above : i ≤ j = q.0 in
    let bits : c.over_area-2.result ≡ (j - i) % 2 ^ 32 = c.over_area-2.ensures ∙ ap (λ z. z % 2 ^ 32) q.1 in
    omega arith
