-- The centre, and then side by side.
use Rattle.std.proofs.Common.{◌≡◌, ℕ, ◌<◌, refl, sym, ◌∙◌, ap, arith, false, inl, ⊎_elim, subst}
use Rattle.std.proofs.lemmas.Bool.{both_ways, cases_eq}
use Rattle.mosaic_rounds.specs.Bits.{has_bit}
use Rattle.mosaic_rounds.specs.Shape.{first_of}
use Rattle.mosaic_rounds.specs.Across.{LacksAcross}
use Rattle.mosaic_rounds.proofs.SplitLemmas.{splits-two}
use Rattle.mosaic_rounds.proofs.asked.lacks.Goals as goal

pub returns-then-not-is_set : goal.returns-then-not-is_set
returns-then-not-is_set c = record {
  value = (
    (λ e. inl (splits-two c.args.shape.n c.args.words.now (first_of c.args.shape c.args.t)
        ∙ sym (ap (has_bit c.args.words.now) c.first_bit.ensures.value) ∙ sym c.is_set.ensures.value
        ∙ c.if-not-is_set.true)),
    (λ h. refl),
  );
}

pub loop-side-preserved : goal.loop-side-preserved
loop-side-preserved c side less lacks = ⊎_elim
    (λ (same : side ≡ c.loop-side.side).
    both_ways c.lacks_across.result c.if-lacks_across.false
    (c.lacks_across.ensures.value.1 (subst (λ k. LacksAcross c.args.shape c.args.words.now c.args.t k) same lacks)))
    (λ (other : side ≡ c.loop-side.side → ⊥). c.loop-side.invariant side (omega arith) lacks)
    (cases_eq side c.loop-side.side)

pub returns : goal.returns
returns c = record {
  value = (
    (λ e. absurd (both_ways false refl e)),
    (λ lacks. absurd (⊎_elim
        (λ off. both_ways (has_bit c.args.words.now (first_of c.args.shape c.args.t))
        (sym (splits-two c.args.shape.n c.args.words.now (first_of c.args.shape c.args.t)) ∙ off)
        (sym (ap (has_bit c.args.words.now) c.first_bit.ensures.value) ∙ sym c.is_set.ensures.value
        ∙ c.if-not-is_set.false))
        (λ (h : (side : ℕ) × (side < 4) × LacksAcross c.args.shape c.args.words.now c.args.t side).
        let end = c.loop-side-test.false in
        let small = h.1 in c.loop-side.invariant h.0 (omega arith) h.2)
        lacks)),
  );
}
