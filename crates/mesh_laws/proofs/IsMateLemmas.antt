-- `mate_of` is the mate.
use Rattle.std.proofs.Common.{◌≡◌, ◌-◌, sym, ◌⊎◌, ℕ, zero, suc, ◌+◌, ◌*◌, ◌/◌, ◌%◌, ◌^◌, ◌<◌, ◌≤◌, refl, arith, inl}
use Rattle.std.proofs.Common.{inr, ⊎_elim, subst}
use Rattle.std.proofs.lemmas.Bool.{cases_lt}
use Rattle.std.proofs.Math.Pow.{pow_mono}
use Rattle.mesh_defs.specs.Triangle.{level_of, IsMate}
use Rattle.bintree_laws.specs.Pair.{IsInner, IsOuter, IsPair}
use Rattle.bintree_laws.proofs.LevelLemmas.{IsAtLevel, IsAtLevel-level_of}
use Rattle.bintree_laws.proofs.PairLemmas.{IsAtLevel-quarter, IsAtLevel-pair}
use Rattle.bintree_laws.proofs.MateLemmas.{IsMate-pair, pair-IsMate}
use Rattle.mesh_laws.specs.Edge.{grandchild_mate, mate_at, mate_of}
use Rattle.mesh_laws.proofs.MateLemmas.{IsStep, IsStep-grandchild, four_cases}

inner_cases : (r : ℕ) → r < 4 → IsInner r → (r ≡ 0) ⊎ (r ≡ 3)
inner_cases zero low h = inl refl
inner_cases (suc zero) low h = absurd h
inner_cases (suc (suc zero)) low h = absurd h
inner_cases (suc (suc (suc k))) low h = inr (omega arith)

outer_cases : (r : ℕ) → IsOuter r → (r ≡ 1) ⊎ (r ≡ 2)
outer_cases zero h = absurd h
outer_cases (suc zero) h = inl refl
outer_cases (suc (suc zero)) h = inr refl
outer_cases (suc (suc (suc k))) h = absurd h

inner_0 : (r : ℕ) → r ≡ 0 → IsInner r
inner_0 r h = subst (λ t. IsInner t) (sym h) tt

inner_3 : (r : ℕ) → r ≡ 3 → IsInner r
inner_3 r h = subst (λ t. IsInner t) (sym h) tt

outer_1 : (r : ℕ) → r ≡ 1 → IsOuter r
outer_1 r h = subst (λ t. IsOuter t) (sym h) tt

outer_2 : (r : ℕ) → r ≡ 2 → IsOuter r
outer_2 r h = subst (λ t. IsOuter t) (sym h) tt

pair-mate_at : (level e f : ℕ) → IsAtLevel level e → IsPair level e f → mate_at level e ≡ f
pair-mate_at zero e f at pair = let low = at.low in let high = at.high in omega arith
pair-mate_at (suc zero) e f at pair = absurd pair
pair-mate_at (suc (suc level)) e f at pair =
    let step : IsStep e (grandchild_mate (e % 4) e (mate_at level (e / 4))) (mate_at level (e / 4)) =
    IsStep-grandchild (e % 4) e (mate_at level (e / 4)) refl in
    let sum = pair.0 in
    ⊎_elim
    (λ inner. let same = inner.1 in ⊎_elim
    (λ h. let g = step.first h in omega arith)
    (λ h. let g = step.last h in omega arith)
    (inner_cases (e % 4) (omega arith) inner.0))
    (λ outer.
    let above : IsAtLevel level (e / 4) = IsAtLevel-quarter level e at in
    let below : IsAtLevel level (f / 4) = IsAtLevel-pair level (e / 4) (f / 4) above outer.1 in
    let low = below.low in
    let ih : mate_at level (e / 4) ≡ f / 4 = pair-mate_at level (e / 4) (f / 4) above outer.1 in
    let some : 1 ≤ f / 4 = ⊎_elim (λ z. absurd (let deeper : 1 ≤ level + 1 = omega arith in
    let y : 2 ^ 1 ≤ 2 ^ (level + 1) = pow_mono deeper in omega arith)) (λ z. z) (cases_lt (f / 4) 1) in
    ⊎_elim
    (λ h. let g = step.second h (omega arith) in omega arith)
    (λ h. let g = step.third h (omega arith) in omega arith)
    (outer_cases (e % 4) outer.0))
    pair.1

mate_at-pair : (level e : ℕ) → IsAtLevel level e → 1 ≤ mate_at level e → IsPair level e (mate_at level e)
mate_at-pair zero e at some = let low = at.low in let high = at.high in omega arith
mate_at-pair (suc zero) e at some = absurd (omega (arith, some))
mate_at-pair (suc (suc level)) e at some =
    let step : IsStep e (grandchild_mate (e % 4) e (mate_at level (e / 4))) (mate_at level (e / 4)) =
    IsStep-grandchild (e % 4) e (mate_at level (e / 4)) refl in
    let above : IsAtLevel level (e / 4) = IsAtLevel-quarter level e at in
    let outer : 1 ≤ mate_at level (e / 4) → mate_at (suc (suc level)) e / 4 ≡ mate_at level (e / 4) →
    IsPair level (e / 4) (mate_at (suc (suc level)) e / 4) =
    λ more same. subst (λ t. IsPair level (e / 4) t) (sym same) (mate_at-pair level (e / 4) above more) in
    elim (four_cases e) [
      | inl h ↦
          let g = step.first h in (
            (let z : e % 4 + mate_at (suc (suc level)) e % 4 ≡ 3 = omega arith in z),
            inl (inner_0 (e % 4) h, omega arith),
          )
      | inr (inl h) ↦ ⊎_elim (λ none. absurd (let g = step.second_none h (omega arith) in omega arith))
          (λ more. let g = step.second h more in (omega arith, inr (outer_1 (e % 4) h, outer more (omega arith))))
          (cases_lt (mate_at level (e / 4)) 1)
      | inr (inr (inl h)) ↦ ⊎_elim (λ none. absurd (let g = step.third_none h (omega arith) in omega arith))
          (λ more. let g = step.third h more in (omega arith, inr (outer_2 (e % 4) h, outer more (omega arith))))
          (cases_lt (mate_at level (e / 4)) 1)
      | inr (inr (inr h)) ↦ let g = step.last h in (omega arith, inl (inner_3 (e % 4) h, omega arith))
    ]

-- where mate_of e is not 0, it is the mate of e by their corners
pub IsMate-mate_of : (n e : ℕ) → 2 ≤ e → level_of e ≤ 2 * n → 1 ≤ mate_of e → IsMate n e (mate_of e)
unfolding mate_of
IsMate-mate_of n e low fits some =
    IsMate-pair n e (mate_of e) low fits (mate_at-pair (level_of e) e (IsAtLevel-level_of e low) some)

-- and each triangle that is the mate of e by their corners is mate_of e
pub mate_of-IsMate : (n e f : ℕ) → 2 ≤ e → level_of e ≤ 2 * n → IsMate n e f → mate_of e ≡ f
unfolding mate_of
mate_of-IsMate n e f low fits mate =
    pair-mate_at (level_of e) e f (IsAtLevel-level_of e low) (pair-IsMate n e f low fits mate)
