-- What border points say, one more at a time.
use Rattle.std.proofs.Common.{◌≡◌, ◌⊎◌, ◌↔◌, ℕ, zero, suc, ◌+◌, ◌*◌, ◌/◌, ◌^◌, ◌<◌, ◌≤◌, false, ◌||◌, IsTrue, List, length}
use Rattle.std.proofs.Common.{slice_index_or}
use Rattle.std.proofs.Common.{refl, sym, ◌∙◌, ap, subst, arith, ⊎_elim, inl, inr}
use Rattle.std.proofs.lemmas.Bool.{both_ways, or_cases, or_left, or_right, cases_lt}
use Rattle.std.proofs.lemmas.List.{get_or_default}
use Rattle.std.proofs.lemmas.Nat.{shr-shr, shr_le}
use Rattle.mesh_defs.specs.Triangle.{IsSplittable}
use Rattle.bintree_laws.proofs.LevelLemmas.{level_of-root}
use Rattle.mesh_laws.specs.Ancestors.{is_above}
use Rattle.mesh_laws.proofs.ConverseLemmas.{is_above-power}
use Rattle.mosaic_rounds.specs.BorderPoints.{BorderState, IsKept, has_split}
use Rattle.mosaic_rounds.specs.Place.{IsBorderTriangle, IsBorderPlace, centre_place, IsSaidBy}
use Rattle.mosaic_rounds.proofs.SplitLemmas.{splits-kept}
use Rattle.mosaic_rounds.proofs.RoundsLemmas.{kept-to}

-- what the centre and the first points say
abbrev pub IsSaidTo : ℕ → List ℕ → ℕ → ℕ → Type 0
IsSaidTo n border count a =
    IsKept n a
    × ((a ≡ 2)
    ⊎ ((k : ℕ) × (c : ℕ) × (k < count) × IsBorderTriangle n c × (centre_place n c ≡ slice_index_or border k 0)
    × IsTrue (is_above a (2 * c))))

-- what a mesh has split on its border is of those that are kept
pub split-kept : (b : BorderState) (n a : ℕ) → b.n ≡ n → IsTrue (has_split b a) → IsKept n a
split-kept b n a same is = subst (λ k. IsKept k a) same (kept-to b.n a (splits-kept b.n b.bits 0 a is))

-- above 4 lies 2 alone
above-two : (a : ℕ) → IsTrue (is_above a 4) → a ≡ 2
above-two a is =
    let p = (is_above-power a 4).0 is in
    let low = p.0 in
    at a low p.1.0 p.1.1
  where
    at : (a : ℕ) → 2 ≤ a → (k : ℕ) → 4 / 2 ^ (k + 1) ≡ a → a ≡ 2
    at a low zero same = sym same
    at a low (suc k) same =
        let step : 4 / 2 ^ (suc k + 1) ≡ 4 / 2 ^ 2 / 2 ^ k =
        ap (λ j. 4 / 2 ^ j) (let e : suc k + 1 ≡ 2 + k = omega arith in e) ∙ sym (shr-shr 4 2 k) in
        let less : 4 / 2 ^ 2 / 2 ^ k ≤ 4 / 2 ^ 2 = shr_le (4 / 2 ^ 2) k in
        let one : 4 / 2 ^ 2 ≡ 1 = refl in
        absurd (omega arith)

two-above : IsTrue (is_above 2 4)
two-above = (is_above-power 2 4).1 (omega arith, (0, refl))

-- the centre says that 2 is split
pub said-first : (n : ℕ) (border : List ℕ) (clear first : BorderState) → first.n ≡ n → 1 ≤ n →
    ((a : ℕ) → has_split clear a ≡ false) →
    (IsKept n 2 → has_split first 2 ≡ (has_split clear 2 || is_above 2 4)) →
    ((a : ℕ) → IsTrue (has_split first a) → IsTrue (has_split clear a || is_above a 4)) →
    (a : ℕ) → IsTrue (has_split first a) ↔ IsSaidTo n border 0 a
said-first n border clear first same some none added only a = (
  (λ is. (
    split-kept first n a same is,
    ⊎_elim
        (λ before. absurd (both_ways (has_split clear a) (none a) before))
        (λ above. inl (above-two a above))
        (or_cases (has_split clear a) (is_above a 4) (only a is)),
  )),
  (λ said. ⊎_elim
      (λ (two : a ≡ 2).
      subst (λ z. IsTrue (has_split first z)) (sym two)
      (added (inl refl) ∙ or_right (has_split clear 2) (is_above 2 4) two-above))
      (λ (h : (k : ℕ) × (c : ℕ) × (k < 0) × IsBorderTriangle n c × (centre_place n c ≡ slice_index_or border k 0)
      × IsTrue (is_above a (2 * c))). absurd (let less = h.2 in omega arith))
      said.1),
)

-- one more point says that its triangle is split, and what lies above it
pub said-more : (n : ℕ) (border : List ℕ) (i : ℕ) (old new : BorderState) (t : ℕ) → new.n ≡ n →
    IsBorderTriangle n t → centre_place n t ≡ slice_index_or border i 0 →
    ((c : ℕ) → IsBorderTriangle n c → centre_place n c ≡ slice_index_or border i 0 → c ≡ t) →
    ((a : ℕ) → IsKept n a → has_split new a ≡ (has_split old a || is_above a (2 * t))) →
    ((a : ℕ) → IsTrue (has_split new a) → IsTrue (has_split old a || is_above a (2 * t))) →
    ((a : ℕ) → IsTrue (has_split old a) ↔ IsSaidTo n border i a) →
    (a : ℕ) → IsTrue (has_split new a) ↔ IsSaidTo n border (i + 1) a
said-more n border i old new t same is_border at one added only before a = (
  (λ is. (
    split-kept new n a same is,
    ⊎_elim
        (λ was. ⊎_elim
        (λ two. inl two)
        (λ (h : (k : ℕ) × (c : ℕ) × (k < i) × IsBorderTriangle n c × (centre_place n c ≡ slice_index_or border k 0)
        × IsTrue (is_above a (2 * c))).
        let less = h.2 in inr (h.0, h.1, omega arith, h.3, h.4, h.5))
        (((before a).0 was).1))
        (λ above. inr (i, t, omega arith, is_border, at, above))
        (or_cases (has_split old a) (is_above a (2 * t)) (only a is)),
  )),
  (λ said. added a said.0 ∙ ⊎_elim
      (λ two. or_left (has_split old a) (is_above a (2 * t)) ((before a).1 (said.0, inl two)))
      (λ (h : (k : ℕ) × (c : ℕ) × (k < i + 1) × IsBorderTriangle n c × (centre_place n c ≡ slice_index_or border k 0)
      × IsTrue (is_above a (2 * c))).
      ⊎_elim
      (λ (early : h.0 < i). or_left (has_split old a) (is_above a (2 * t))
      ((before a).1 (said.0, inr (h.0, h.1, early, h.3, h.4, h.5))))
      (λ (late : i ≤ h.0).
      let less = h.2 in
      let last : h.0 ≡ i = omega arith in
      let c_is : h.1 ≡ t = one h.1 h.3 (h.4 ∙ ap (λ k. slice_index_or border k 0) last) in
      or_right (has_split old a) (is_above a (2 * t)) (subst (λ c. IsTrue (is_above a (2 * c))) c_is h.5))
      (cases_lt h.0 i))
      said.1),
)

-- places of the first points are border places, whatever stands past the end
pub places-more : (n : ℕ) (border : List ℕ) (i : ℕ) → i < length border →
    ((k : ℕ) (d : ℕ) → k < i → IsBorderPlace n (slice_index_or border k d)) →
    IsBorderPlace n (slice_index_or border i 0) →
    (k : ℕ) (d : ℕ) → k < i + 1 → IsBorderPlace n (slice_index_or border k d)
places-more n border i inside before here k d less = ⊎_elim
    (λ (early : k < i). before k d early)
    (λ (late : i ≤ k).
    let last : i ≡ k = omega arith in
    subst (λ j. IsBorderPlace n (slice_index_or border j d)) last
    (subst (IsBorderPlace n) (get_or_default border i 0 d inside) here))
    (cases_lt k i)

-- 2 can be split
pub two-splittable : (n : ℕ) → 1 ≤ n → IsSplittable n 2
two-splittable n some =
    let first = level_of-root 2 (omega arith) (omega arith) in record { low = omega arith; coarse = omega arith }

-- at the end all points have said it
pub said-all : (n : ℕ) (border : List ℕ) (i a : ℕ) → i ≤ length border → length border ≤ i → (X : Type 0) →
    X ↔ IsSaidTo n border i a → X ↔ IsSaidBy n border a
said-all n border i a few end X h =
    let last : i ≡ length border = omega arith in subst (λ j. X ↔ IsSaidTo n border j a) last h
