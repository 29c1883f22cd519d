-- A bit is that of a triangle, and each triangle that is kept has one.
use Rattle.std.proofs.Common.{◌≡◌, ℕ, ◌+◌, ◌*◌, ◌/◌, ◌%◌, ◌^◌, ◌<◌, ◌≤◌, true, false, IsTrue, refl, sym, ◌∙◌, ap}
use Rattle.std.proofs.Common.{List, length, arith, ⊎_elim, inr, pow_mono, pow_pos}
use Rattle.std.proofs.lemmas.Bool.{both_ways, cases_Bool, cases_lt}
use Rattle.std.proofs.lemmas.Nat.{pow-add, mul-add-lt, mod-mul-add, div-add-mod', div_below, mod_below}
use Rattle.mosaic_rounds.specs.Bits.{has_bit}
use Rattle.mosaic_rounds.proofs.SplitLemmas.{splits-kept, splits-two}
use Rattle.mosaic_rounds.proofs.PlaceLemmas.{kept-bit, used-bit}
use Rattle.mosaic_rounds.proofs.ShapeLemmas.{side-ends}
use Rattle.mosaic_rounds.proofs.kept.lacks_kept.Goals as goal

pub returns-then-exceeds : goal.returns-then-exceeds
returns-then-exceeds c = record {
  value = (
    (λ e.
        let h = c.exceeds.ensures.value.0 c.if-exceeds.true in
        let one = h.1 in
        let at : c.args.first ≡ c.args.first + h.0 = omega arith in
        let at' : 0 ≡ 0 + h.0 = omega arith in (
          2,
          splits-two c.args.n c.args.words.now c.args.first ∙ ap (has_bit c.args.words.now) at ∙ h.2,
          splits-two c.args.n c.args.fresh.now 0 ∙ ap (has_bit c.args.fresh.now) at' ∙ h.3,
        )),
    (λ h. refl),
  );
}

-- a bit by the first one of its side
of_side : (words : List ℕ) (first bit from p : ℕ) → bit ≡ from → has_bit words (first + bit + p)
    ≡ has_bit words (first + (from + p))
of_side words first bit from p e =
    let same : first + bit + p ≡ first + (from + p) = omega arith in ap (has_bit words) same

pub side_exceeds-requires-clause-room : goal.side_exceeds-requires-clause-room
side_exceeds-requires-clause-room c =
    side-ends c.args.n c.loop-side.side c.args.first c.side_bit-from.result (c.args.first + 2 ^ (c.args.n + 2))
    (64 * length c.args.words.now) c.loop-side-test.true c.side_bit-from.ensures.value (omega arith) c.requires.room

pub side_exceeds-requires-clause-others : goal.side_exceeds-requires-clause-others
side_exceeds-requires-clause-others c =
    let ends = side-ends c.args.n c.loop-side.side 0 c.side_bit-from.result (2 ^ (c.args.n + 2))
    (64 * length c.args.fresh.now) c.loop-side-test.true c.side_bit-from.ensures.value (omega arith)
    c.requires.fresh in omega arith

pub side_exceeds-requires-clause-small : goal.side_exceeds-requires-clause-small
side_exceeds-requires-clause-small c =
    let high : c.args.n ≤ 14 = c.requires.in_grid.1 in
    let deep : c.args.n + 2 ≤ 16 = omega arith in
    let most : 2 ^ (c.args.n + 2) ≤ 2 ^ 16 = pow_mono deep in
    let within = c.side_bit-from.ensures.within in
    let small = c.requires.small in (omega arith, omega arith)

pub returns-then-side_exceeds : goal.returns-then-side_exceeds
returns-then-side_exceeds c = record {
  value = (
    (λ e.
        let h = c.side_exceeds.ensures.value.0 c.if-side_exceeds.true in
        let n = c.args.n in
        let side = c.loop-side.side in
        let four : 2 ^ (c.args.n + 2) ≡ 2 ^ c.args.n * 2 ^ 2 = pow-add 2 c.args.n 2 in
        let less = mul-add-lt c.loop-side.side (2 ^ c.args.n) h.0 4 c.loop-side-test.true h.2 in
        let rest = mod-mul-add c.loop-side.side (2 ^ c.args.n) h.0 h.2 in
        let some = h.1 in
        let from : c.side_bit-from.result ≡ c.loop-side.side * 2 ^ c.args.n =
        (let value = c.side_bit-from.ensures.value in omega arith) in
        let a = used-bit c.args.n (c.loop-side.side * 2 ^ c.args.n + h.0) (omega arith) (inr (omega arith)) in (
          a.0,
          a.2 c.args.words.now c.args.first ∙ sym (of_side c.args.words.now c.args.first c.side_bit-from.result
              (c.loop-side.side * 2 ^ c.args.n) h.0 from) ∙ h.3,
          a.2 c.args.fresh.now 0 ∙ ap (has_bit c.args.fresh.now)
              (let same : 0 + (c.loop-side.side * 2 ^ c.args.n + h.0) ≡ c.side_bit-from.result + h.0 = omega arith in
              same) ∙ h.4,
        )),
    (λ h. refl),
  );
}

pub loop-side-preserved : goal.loop-side-preserved
loop-side-preserved c side less p some small is = ⊎_elim
    (λ (before : side < c.loop-side.side). c.loop-side.invariant side before p some small is)
    (λ (from : c.loop-side.side ≤ side).
    let same : side ≡ c.loop-side.side = omega arith in
    let value = c.side_bit-from.ensures.value in
    let places : c.loop-side.side * 2 ^ c.args.n ≡ side * 2 ^ c.args.n = ap (λ k. k * 2 ^ c.args.n) (sym same) in
    let first : c.side_bit-from.result ≡ side * 2 ^ c.args.n = omega arith in
    let at : c.side_bit-from.result + p ≡ side * 2 ^ c.args.n + p = ap (λ k. k + p) first in ⊎_elim
    (λ (there : IsTrue (has_bit c.args.fresh.now (side * 2 ^ c.args.n + p))). there)
    (λ off. absurd (both_ways c.side_exceeds.result c.if-side_exceeds.false (c.side_exceeds.ensures.value.1 (
      p,
      some,
      small,
      of_side c.args.words.now c.args.first c.side_bit-from.result (side * 2 ^ c.args.n) p first ∙ is,
      ap (has_bit c.args.fresh.now) at ∙ off,
    ))))
    (cases_Bool (has_bit c.args.fresh.now (side * 2 ^ c.args.n + p))))
    (cases_lt side c.loop-side.side)

pub returns : goal.returns
returns c = record {
  value = (
    (λ e. absurd (both_ways false refl e)),
    (λ h.
        let n = c.args.n in
        let b = kept-bit c.args.n h.0 (splits-kept c.args.n c.args.words.now c.args.first h.0 h.1) in
        let there : has_bit c.args.words.now (c.args.first + b.0) ≡ true =
        sym (b.3 c.args.words.now c.args.first) ∙ h.1 in
        let none : has_bit c.args.fresh.now (0 + b.0) ≡ false = sym (b.3 c.args.fresh.now 0) ∙ h.2 in
        let less = b.1 in absurd (⊎_elim
        (λ (first : b.0 ≡ 0).
        both_ways c.exceeds.result c.if-exceeds.false (c.exceeds.ensures.value.1 (
          0,
          omega arith,
          ap (λ k. has_bit c.args.words.now (c.args.first + k)) (sym first) ∙ there,
          ap (λ k. has_bit c.args.fresh.now (0 + k)) (sym first) ∙ none,
        )))
        (λ (some : 0 < b.0 % 2 ^ c.args.n).
        let four : 2 ^ (c.args.n + 2) ≡ 2 ^ c.args.n * 2 ^ 2 = pow-add 2 c.args.n 2 in
        let all = pow_pos c.args.n in
        let side : b.0 / 2 ^ c.args.n < 4 = div_below b.0 (2 ^ c.args.n) 4 all (omega arith) in
        let small : b.0 % 2 ^ c.args.n < 2 ^ c.args.n = mod_below b.0 (2 ^ c.args.n) all in
        let whole : b.0 / 2 ^ c.args.n * 2 ^ c.args.n + b.0 % 2 ^ c.args.n ≡ b.0 = div-add-mod' b.0 (2 ^ c.args.n) in
        let end = c.loop-side-test.false in
        both_ways (has_bit c.args.fresh.now (0 + b.0)) none
        (ap (has_bit c.args.fresh.now)
        (let same : 0 + b.0 ≡ b.0 / 2 ^ c.args.n * 2 ^ c.args.n + b.0 % 2 ^ c.args.n = omega arith in same)
        ∙ c.loop-side.invariant (b.0 / 2 ^ c.args.n) (omega arith) (b.0 % 2 ^ c.args.n) (omega arith) small
        (ap (λ k. has_bit c.args.words.now (c.args.first + k)) whole ∙ there)))
        b.2)),
  );
}
