use Rattle.std.proofs.Common.{◌-◌, ◌/◌, ◌^◌, ℕ, pow_pos}
use Rattle.std.specs.Int.Count.{count_leading_zeros}
use Rattle.view_priority.proofs.NewtonLemmas.{first_small, half_digits, next-above, shifted}
use Rattle.view_priority.proofs.root.estimate.Goals as goal

pub returns-clause-small : goal.returns-clause-small
returns-clause-small c =
    let k : ℕ = (64 - count_leading_zeros 64 c.args.number) / 2 in
    let half = half_digits c.args.number c.requires.small in
    rw (shifted k half.0) (first_small c.args.number k half.0 half.1)

pub returns-clause-above : goal.returns-clause-above
returns-clause-above c =
    let k : ℕ = (64 - count_leading_zeros 64 c.args.number) / 2 in
    let half = half_digits c.args.number c.requires.small in
    rw (shifted k half.0) (next-above c.args.number (2 ^ k) (pow_pos k))
