-- What one of two depth-first lists has alone, found by going through both side by side.
use Rattle.std.proofs.Common.{◌≡◌, ℕ, ◌+◌, ◌<◌, ◌≤◌, inl, inr, Bool, true, false, not, ◌&&◌, ◌||◌, cond, eqb, ltb, List}
use Rattle.std.proofs.Common.{[], ◌∷◌, ◌++◌, length, take, get_or, set, filter, refl, sym, ap, ap₂, ◌∙◌, subst, arith}
use Rattle.std.proofs.lemmas.List.{append-nil, length-append}
use Rattle.std.proofs.lemmas.List.Elements.{All-from_get_or, filter_more}
use Rattle.std.proofs.lemmas.List.Folds.{list_any_at, list_any_none}
use Rattle.std.proofs.lemmas.Bool.{cases_lt, cases_eq, cases_order, lt-ltb, le-ltb, eq-eqb, ne_eqb, eqb-true, and_from}
use Rattle.std.proofs.lemmas.Bool.{and_left, and_right}
use Rattle.std.proofs.lemmas.Map.Views.{any-filter_same}
use Rattle.mesh_defs.specs.ClosedSet.{among}
use Rattle.mesh_arrays.specs.Changes.{end_of, IsDepthFirst, alone, with_first}

-- ---- a list beside another

-- a triangle that ends after all before a place, and before or with the one there, stands at no place but this
elsewhere : (those : List ℕ) (at t : ℕ) → IsDepthFirst those → ((k : ℕ) → k < at → end_of (get_or those k 0) < end_of t)
    → (at < length those → end_of t ≤ end_of (get_or those at 0)) → (at < length those → get_or those at 0 ≡ t → ⊥)
    → (k : ℕ) → k < length those → eqb (get_or those k 0) t ≡ false
elsewhere those at t ordered before here other k within =
    elim (cases_order k at) [
      | inl same ↦ ne_eqb (get_or those k 0) t (λ e. other (omega arith) (ap (λ j. get_or those j 0) (sym same) ∙ e))
      | inr apart ↦ elim apart [
        | inl earlier ↦ ne_eqb (get_or those k 0) t (λ e.
            let less : end_of (get_or those k 0) < end_of t = before k earlier in
            let equal : end_of (get_or those k 0) ≡ end_of t = ap end_of e in
            absurd (omega arith))
        | inr later ↦ ne_eqb (get_or those k 0) t (λ e.
            let least : end_of t ≤ end_of (get_or those at 0) = here (omega arith) in
            let less : end_of (get_or those at 0) < end_of (get_or those k 0) = ordered.ascending at k 0 later within in
            let equal : end_of (get_or those k 0) ≡ end_of t = ap end_of e in
            absurd (omega arith))
      ]
    ]

-- it is among them exactly if it stands there
pub among-at : (those : List ℕ) (at t : ℕ) → IsDepthFirst those →
    ((k : ℕ) → k < at → end_of (get_or those k 0) < end_of t)
    → (at < length those → end_of t ≤ end_of (get_or those at 0)) →
    among those t ≡ (ltb at (length those) && eqb (get_or those at 0) t)
among-at those at t ordered before here =
    let test : ℕ → Bool = λ a. eqb a t in
    elim (cases_lt at (length those)) [
      | inl within ↦ elim (cases_eq (get_or those at 0) t) [
        | inl same ↦ list_any_at test those at 0 within (eq-eqb _ _ same)
            ∙ sym (and_from _ _ (lt-ltb _ _ within) (eq-eqb _ _ same))
        | inr other ↦
            list_any_none test those (All-from_get_or (λ a. test a ≡ false) those 0
            (elsewhere those at t ordered before here (λ _. other)))
            ∙ sym (and_right _ _ (ne_eqb _ _ other))
      ]
      | inr past ↦
          list_any_none test those (All-from_get_or (λ a. test a ≡ false) those 0
          (elsewhere those at t ordered before here (λ within. absurd (omega arith))))
          ∙ sym (and_left _ _ (le-ltb _ _ past))
    ]

-- ---- the first places of an array

-- one entry more, written where there is a place for it
pub with_first-more : (entries whole : List ℕ) (x : ℕ) →
    set (with_first entries whole) (length entries) x ≡ with_first (entries ++ x ∷ []) whole
with_first-more [] [] x = refl
with_first-more [] (w ∷ whole) x = refl
with_first-more (y ∷ entries) [] x = refl
with_first-more (y ∷ entries) (w ∷ whole) x = ap (λ rest. y ∷ rest) (with_first-more entries whole x)

-- ---- the loop

-- one more triangle, which is alone
pub alone-more : (these those : List ℕ) (i t : ℕ) → i < length these → get_or these i 0 ≡ t → among those t ≡ false
    → alone (take (i + 1) these) those ≡ alone (take i these) those ++ t ∷ []
alone-more these those i t within is_t away =
    let p : ℕ → Bool = λ a. not (among those a) in
    let here : p (get_or these i 0) ≡ true = ap p is_t ∙ ap not away in
    filter_more p these i 0 within ∙ ap (λ b. filter p (take i these) ++ cond b (get_or these i 0 ∷ []) []) here
    ∙ ap (λ a. filter p (take i these) ++ a ∷ []) is_t

-- one more triangle, which the other list has too
pub alone-same : (these those : List ℕ) (i t : ℕ) → i < length these → get_or these i 0 ≡ t → among those t ≡ true
    → alone (take (i + 1) these) those ≡ alone (take i these) those
alone-same these those i t within is_t there =
    let p : ℕ → Bool = λ a. not (among those a) in
    let here : p (get_or these i 0) ≡ false = ap p is_t ∙ ap not there in
    filter_more p these i 0 within ∙ ap (λ b. filter p (take i these) ++ cond b (get_or these i 0 ∷ []) []) here
    ∙ append-nil (filter p (take i these))

-- Of the triangles before a place: what they have alone is counted and written, and what was passed in the other list
-- ends before all that are to come.
pub record IsAloneSoFar (these those start : List ℕ) (seen passed count : ℕ) (out : List ℕ) : Type 0 where
  pub behind : (k j : ℕ) → k < passed → seen ≤ j → j < length these →
      end_of (get_or those k 0) < end_of (get_or these j 0)
  pub counted : count ≡ length (alone (take seen these) those)
  pub written : out ≡ with_first (alone (take seen these) those) start

-- What was passed on the way to one triangle more ends before it, and before all that follow it.
record IsPassed (these those : List ℕ) (seen passed t : ℕ) : Type 0 where
  before : (k : ℕ) → k < passed → end_of (get_or those k 0) < end_of t
  behind : (k j : ℕ) → k < passed → seen + 1 ≤ j → j < length these →
      end_of (get_or those k 0) < end_of (get_or these j 0)

passed-more : (these those start : List ℕ) (seen from passed count t : ℕ) (out : List ℕ) →
    IsDepthFirst these → seen < length these
    → get_or these seen 0 ≡ t → IsAloneSoFar these those start seen from count out
    → ((k : ℕ) → from ≤ k → k < passed → end_of (get_or those k 0) < end_of t) → IsPassed these those seen passed t
passed-more these those start seen from passed count t out ordered within is_t so_far more =
    let before : (k : ℕ) → k < passed → end_of (get_or those k 0) < end_of t = λ k below. elim (cases_lt k from) [
      | inl early ↦ subst (λ a. end_of (get_or those k 0) < end_of a) is_t
          (so_far.behind k seen early (omega arith) within)
      | inr late ↦ more k late below
    ] in
    record {
      before = before;
      behind = λ k j below later end.
          let first : end_of (get_or those k 0) < end_of t = before k below in
          let second : end_of (get_or these seen 0) < end_of (get_or these j 0) =
          ordered.ascending seen j 0 (omega arith) end in
          let same : end_of (get_or these seen 0) ≡ end_of t = ap end_of is_t in
          omega arith;
    }

-- one triangle more, which the other list has too
pub so_far-there : (these those start : List ℕ) (seen from passed count t : ℕ) (out : List ℕ) →
    IsDepthFirst these → IsDepthFirst those
    → seen < length these → get_or these seen 0 ≡ t → IsAloneSoFar these those start seen from count out
    → ((k : ℕ) → from ≤ k → k < passed → end_of (get_or those k 0) < end_of t)
    → (passed < length those → end_of t ≤ end_of (get_or those passed 0))
    → (ltb passed (length those) && eqb (get_or those passed 0) t) ≡ true →
    IsAloneSoFar these those start (seen + 1) passed count out
so_far-there these those start seen from passed count t out these_ordered those_ordered within is_t
    so_far more here stands =
    let p = passed-more these those start seen from passed count t out these_ordered within is_t so_far more in
    let member : among those t ≡ true = among-at those passed t those_ordered p.before here ∙ stands in
    let same = alone-same these those seen t within is_t member in
    record {
      behind = p.behind;
      counted = so_far.counted ∙ ap length (sym same);
      written = so_far.written ∙ ap (λ xs. with_first xs start) (sym same);
    }

-- one triangle more, which is alone
pub so_far-alone : (these those start : List ℕ) (seen from passed count t : ℕ) (out : List ℕ) →
    IsDepthFirst these → IsDepthFirst those
    → seen < length these → get_or these seen 0 ≡ t → IsAloneSoFar these those start seen from count out
    → ((k : ℕ) → from ≤ k → k < passed → end_of (get_or those k 0) < end_of t)
    → (passed < length those → end_of t ≤ end_of (get_or those passed 0))
    → (ltb passed (length those) && eqb (get_or those passed 0) t) ≡ false
    → IsAloneSoFar these those start (seen + 1) passed (count + 1) (set out count t)
so_far-alone these those start seen from passed count t out these_ordered those_ordered within is_t
    so_far more here stands =
    let p = passed-more these those start seen from passed count t out these_ordered within is_t so_far more in
    let away : among those t ≡ false = among-at those passed t those_ordered p.before here ∙ stands in
    let before : List ℕ = alone (take seen these) those in
    let longer : alone (take (seen + 1) these) those ≡ before ++ t ∷ [] =
    alone-more these those seen t within is_t away in
    let count_is : count ≡ length before = so_far.counted in
    record {
      behind = p.behind;
      counted = ap (λ k. k + 1) count_is ∙ sym (length-append before (t ∷ [])) ∙ ap length (sym longer);
      written = ap₂ (λ xs k. set xs k t) so_far.written count_is ∙ with_first-more before start t
          ∙ ap (λ xs. with_first xs start) (sym longer);
    }

-- ---- what changes make of a mesh

-- what one list has alone is found exactly if it is in the one and not in the other
pub among-alone : (these those : List ℕ) (a : ℕ) → among (alone these those) a ≡ (not (among those a) && among these a)
among-alone these those a =
    any-filter_same (λ t. eqb t a) (λ t. not (among those t)) (not (among those a))
    (λ t same. ap (λ k. not (among those k)) (eqb-true t a same)) these

-- before, less gone, with come, is after
pub among-after : (before after : List ℕ) (a : ℕ)
    → among after a ≡ ((among before a && not (among (alone before after) a)) || among (alone after before) a)
among-after before after a =
    let gone = among-alone before after a in
    let come = among-alone after before a in
    rw (gone, come) (cases (among before a) (among after a))
  where
    cases : (b c : Bool) → c ≡ ((b && not (not c && b)) || (not b && c))
    cases true true = refl
    cases true false = refl
    cases false true = refl
    cases false false = refl
