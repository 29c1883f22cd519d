-- What each change of a table keeps of the links between triangles and places.
use Rattle.std.proofs.Common.{◌≡◌, ◌≢◌, ℕ, ◌<◌, List, [], ◌∷◌, ◌++◌, Bool, true, eqb, eqb-true, eq-eqb}
use Rattle.std.proofs.Common.{◌↔◌, length, get_or, set, sym, ap, ◌∙◌, arith, ⊎_elim}
use Rattle.std.proofs.lemmas.Bool.{cases_eq}
use Rattle.std.proofs.lemmas.List.{length-set, length_push, get_or-set_same, get_or-set_other, get_or_append_left}
use Rattle.std.proofs.lemmas.List.{get_or_push}
use Rattle.draw_buffer.specs.Times.{times}
use Rattle.draw_buffer.specs.Places.{IsPlaceOfEach}
use Rattle.draw_buffer.proofs.TimesLemmas.{times-at, times-place}

-- what a link says of equal numbers
moved : (ps : List ℕ) (s t k : ℕ) → s ≡ t → (t < length ps) × (get_or ps t 0 ≡ k) →
    (s < length ps) × (get_or ps s 0 ≡ k)
moved ps s t k e h = (omega (arith, h.0), ap (λ j. get_or ps j 0) e ∙ h.1)

module _ (ts ps : List ℕ) (linked : IsPlaceOfEach ts ps) where
  -- the place of a triangle that stands somewhere
  pub linked-place : (a : ℕ) → 0 < times ts a →
      (a < length ps) × (get_or ps a 0 < length ts) × (get_or ts (get_or ps a 0) 0 ≡ a)
  linked-place a some =
      let there = times-place ts a some in
      let k = there.0 in
      let link = moved ps a (get_or ts k 0) k (sym there.2) (linked k there.1) in
      (link.0, omega (arith, link.1, there.1), ap (λ j. get_or ts j 0) link.1 ∙ there.2)

  -- what stands at the place that is noted for a triangle tells whether the triangle stands somewhere
  pub has-read : (a at t : ℕ) (b : Bool) → at ≡ get_or ps a 0 → at < length ts → t ≡ get_or ts at 0 → b ≡ eqb t a
      → (b ≡ true) ↔ (0 < times ts a)
  has-read a at t b is_at inside is_t e = (
    λ yes. times-at ts at a inside (sym is_t ∙ eqb-true t a (sym e ∙ yes)),
    λ some. e ∙ eq-eqb t a (is_t ∙ ap (λ j. get_or ts j 0) is_at ∙ (linked-place a some).2),
  )

  -- a triangle that stands nowhere is apart from each that does
  apart : (t k : ℕ) → times ts t ≡ 0 → k < length ts → get_or ts k 0 ≢ t
  apart t k away within e = let h = times-at ts k t within e in absurd (omega arith)

  -- triangles at different places differ
  distinct : (i j : ℕ) → i < length ts → j < length ts → i ≢ j → get_or ts i 0 ≢ get_or ts j 0
  distinct i j hi hj u e = u (sym (linked i hi).1 ∙ ap (λ s. get_or ps s 0) e ∙ (linked j hj).1)

  -- a triangle that has no place takes one where another stood
  pub IsLinked-put : (at t : ℕ) → at < length ts → t < length ps → times ts t ≡ 0 →
      IsPlaceOfEach (set ts at t) (set ps t at)
  IsLinked-put at t inside within away k hk = ⊎_elim
      (λ (e : k ≡ at). moved (set ps t at) (get_or (set ts at t) k 0) t k
      (ap (λ j. get_or (set ts at t) j 0) e ∙ get_or-set_same ts at t 0 inside)
      (omega (arith, length-set ps t at), get_or-set_same ps t at 0 within ∙ sym e))
      (λ (u : k ≢ at).
      let h : k < length ts = omega (arith, length-set ts at t) in
      moved (set ps t at) (get_or (set ts at t) k 0) (get_or ts k 0) k (get_or-set_other ts at k t 0 u) (
        omega (arith, length-set ps t at, (linked k h).0),
        get_or-set_other ps t (get_or ts k 0) at 0 (apart t k away h) ∙ (linked k h).1,
      ))
      (cases_eq k at)

  -- it is put behind the last
  pub IsLinked-push : (t : ℕ) → t < length ps → times ts t ≡ 0 → IsPlaceOfEach (ts ++ t ∷ []) (set ps t (length ts))
  IsLinked-push t within away k hk = ⊎_elim
      (λ (e : k ≡ length ts).
      moved (set ps t (length ts)) (get_or (ts ++ t ∷ []) k 0) t k (get_or_push ts t 0 k (sym e))
      (omega (arith, length-set ps t (length ts)), get_or-set_same ps t (length ts) 0 within ∙ sym e))
      (λ (u : k ≢ length ts).
      let h : k < length ts = omega (arith, length_push ts t) in
      moved (set ps t (length ts)) (get_or (ts ++ t ∷ []) k 0) (get_or ts k 0) k
      (get_or_append_left ts (t ∷ []) 0 k h) (
        omega (arith, length-set ps t (length ts), (linked k h).0),
        get_or-set_other ps t (get_or ts k 0) (length ts) 0
            (apart t k away h) ∙ (linked k h).1,
      ))
      (cases_eq k (length ts))
