-- The places of a side from 1 on.
use Rattle.std.proofs.Common.{◌≡◌, ◌+◌, ◌-◌, ◌*◌, ◌%◌, ◌^◌, ◌≤◌, ◌∙◌, ap, arith}
use Rattle.std.proofs.lemmas.Nat.{one_shl, pow_pos}
use Rattle.mosaic_rounds.specs.Bits.{has_bit}
use Rattle.mosaic_rounds.proofs.shape.side_exceeds.Goals as goal

pub returns : goal.returns
returns c =
    let all : 1 * 2 ^ c.args.n % 2 ^ 64 ≡ 2 ^ c.args.n =
    one_shl c.args.n 64 (let high : c.args.n ≤ 14 = c.requires.in_grid in omega arith) in
    let some = pow_pos c.args.n in record {
      value = (
        (λ e.
            let h = c.exceeds.ensures.value.0 e in
            let less = h.1 in
            let at : c.args.side + (h.0 + 1) ≡ c.args.side + 1 + h.0 = omega arith in
            let at' : c.args.other + (h.0 + 1) ≡ c.args.other + 1 + h.0 = omega arith in (
              h.0 + 1,
              omega arith,
              omega arith,
              ap (has_bit c.args.words.now) at ∙ h.2,
              ap (has_bit c.args.others.now) at' ∙ h.3,
            )),
        (λ h.
            let from = h.1 in
            let to = h.2 in
            let at : c.args.side + 1 + (h.0 - 1) ≡ c.args.side + h.0 = omega arith in
            let at' : c.args.other + 1 + (h.0 - 1) ≡ c.args.other + h.0 = omega arith in
            c.exceeds.ensures.value.1 (
              h.0 - 1,
              omega arith,
              ap (has_bit c.args.words.now) at ∙ h.3,
              ap (has_bit c.args.others.now) at' ∙ h.4,
            )),
      );
    }
