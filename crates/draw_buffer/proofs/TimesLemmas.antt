-- How often a number stands in a list, after a change of the list.
use Rattle.std.proofs.Common.{◌≡◌, ◌≢◌, ℕ, suc, ◌+◌, ◌-◌, ◌<◌, ◌≤◌, cond, List, [], ◌∷◌, ◌++◌, length, get_or, set}
use Rattle.std.proofs.Common.{take, drop, refl, sym, ap, ◌∙◌, arith, ⊎_elim}
use Rattle.std.specs.List.{swap_remove}
use Rattle.std.specs.List.Sorted.{IsPermutation}
use Rattle.std.proofs.lemmas.Bool.{cases_eq, eq-eqb, ne_eqb}
use Rattle.std.proofs.lemmas.List.{length-set, length-take-le, get_or_default}
use Rattle.std.proofs.lemmas.List.Sorted.{IsPermutation-refl, IsPermutation-sym, IsPermutation-cons}
use Rattle.std.proofs.lemmas.List.Sorted.{IsPermutation-swap_remove, IsPermutation-trans}
use Rattle.std.proofs.lemmas.List.Sums.{sum_by-cons, sum_by-set, sum_by_push, sum_by-swap_remove, sum_by-drop_more}
use Rattle.std.proofs.lemmas.List.Sums.{sum_by_more, sum_by-take-le, get_or-le-sum_by}
use Rattle.draw_buffer.specs.Times.{times, same}

-- ---- two numbers

-- equal numbers count 1
pub same-one : (t a : ℕ) → t ≡ a → same t a ≡ 1
unfolding same
same-one t a e = ap (λ b. cond b 1 0) (eq-eqb t a e)

-- different numbers count 0
pub same-other : (t a : ℕ) → t ≢ a → same t a ≡ 0
unfolding same
same-other t a u = ap (λ b. cond b 1 0) (ne_eqb t a u)

-- ---- a list and its changes

-- no number stands in the empty list
pub times-none : (a : ℕ) → times [] a ≡ 0
unfolding times
times-none a = refl

-- how often a number stands in a list with one more at the beginning
pub times-cons : (t : ℕ) (ts : List ℕ) (a : ℕ) → times (t ∷ ts) a ≡ same t a + times ts a
unfolding times same
times-cons t ts a = sum_by-cons (λ t. same t a) t ts

-- the same with one more at the end
pub times-push : (ts : List ℕ) (t a : ℕ) → times (ts ++ t ∷ []) a ≡ times ts a + same t a
unfolding times same
times-push ts t a = sum_by_push (λ t. same t a) ts t

-- the same with the one at place k replaced by t
pub times-set : (ts : List ℕ) (k t a : ℕ) → k < length ts →
    times (set ts k t) a + same (get_or ts k 0) a ≡ times ts a + same t a
unfolding times same
times-set ts k t a within = sum_by-set (λ t. same t a) ts k t 0 within

-- the same with the one at place k taken out
pub times-swap_remove : (ts : List ℕ) (k d a : ℕ) → k < length ts →
    times (swap_remove ts k d) a + same (get_or ts k d) a ≡ times ts a
unfolding times same
times-swap_remove ts k d a within = sum_by-swap_remove (λ t. same t a) ts k d within

-- from place k on a number stands as often as at place k and behind it together
pub times-drop : (ts : List ℕ) (k a : ℕ) → k < length ts →
    times (drop k ts) a ≡ same (get_or ts k 0) a + times (drop (k + 1) ts) a
unfolding times same
times-drop ts k a within = sum_by-drop_more (λ t. same t a) ts k 0 within

-- up to place k it stands as often as before place k and at place k together
pub times-take : (ts : List ℕ) (k a : ℕ) → k < length ts →
    times (take (k + 1) ts) a ≡ times (take k ts) a + same (get_or ts k 0) a
unfolding times same
times-take ts k a within = sum_by_more (λ t. same t a) ts k 0 within

-- what stands at a place stands once less before it
pub times-before : (ts : List ℕ) (k a : ℕ) → k < length ts → get_or ts k 0 ≡ a → times (take k ts) a + 1 ≤ times ts a
unfolding times same
times-before ts k a within is_a =
    let more : times (take (k + 1) ts) a ≡ times (take k ts) a + same (get_or ts k 0) a = times-take ts k a within in
    let whole : times (take (k + 1) ts) a ≤ times ts a = sum_by-take-le (λ t. same t a) ts (k + 1) in
    let one = same-one (get_or ts k 0) a is_a in
    omega arith

-- what stands at a place stands in the list
pub times-at : (ts : List ℕ) (k a : ℕ) → k < length ts → get_or ts k 0 ≡ a → 1 ≤ times ts a
unfolding times same
times-at ts k a within is_a =
    let h : same (get_or ts k 0) a ≤ times ts a = get_or-le-sum_by (λ t. same t a) ts k 0 within in
    let one = same-one (get_or ts k 0) a is_a in
    omega arith

-- what stands in the list stands at a place
pub times-place : (ts : List ℕ) (a : ℕ) → 0 < times ts a → (k : ℕ) × (k < length ts) × (get_or ts k 0 ≡ a)
times-place [] a some = let none = times-none a in absurd (omega arith)
times-place (t ∷ ts) a some =
    let all = times-cons t ts a in
    ⊎_elim
    (λ (e : t ≡ a). let first : 0 < length (t ∷ ts) = omega arith in (0, first, e))
    (λ (u : t ≢ a).
    let none = same-other t a u in
    let rest = times-place ts a (omega arith) in
    let within : suc rest.0 < length (t ∷ ts) = omega (arith, rest.1) in
    (suc rest.0, within, rest.2))
    (cases_eq t a)

-- ---- one list within another

-- a list with one entry taken out is one shorter
pub length-swap_remove : {X : Type 0} (ts : List X) (k : ℕ) (d : X) → k < length ts →
    length (swap_remove ts k d) + 1 ≡ length ts
length-swap_remove ts k d within =
    let whole = length-set ts k (get_or ts (length ts - 1) d) in
    let short = length-take-le (length ts - 1) (set ts k (get_or ts (length ts - 1) d)) (omega arith) in
    omega arith

-- a list whose numbers stand as often in another is no longer than it
pub length-le-times : (ts us : List ℕ) → ((a : ℕ) → times ts a ≤ times us a) → length ts ≤ length us
length-le-times [] us within = omega arith
length-le-times (t ∷ ts) us within =
    let one = same-one t t refl in
    let all = times-cons t ts t in
    let there = times-place us t (omega (arith, within t)) in
    let k = there.0 in
    let short = length-swap_remove us k 0 there.1 in
    let rest = length-le-times ts (swap_remove us k 0) (λ a.
    let whole = times-cons t ts a in
    let part = times-swap_remove us k 0 a there.1 in
    let same_here : same (get_or us k 0) a ≡ same t a = ap (λ b. same b a) there.2 in
    omega (arith, within a)) in
    omega arith

-- two lists in which each number stands as often are one list in two orders
pub permutation-times : (ts us : List ℕ) → ((a : ℕ) → times ts a ≡ times us a) → IsPermutation ts us
permutation-times [] [] same_times = IsPermutation-refl []
permutation-times [] (u ∷ us) same_times =
    let one = same-one u u refl in
    let all = times-cons u us u in
    let none = times-none u in
    let equal = same_times u in
    absurd (omega arith)
permutation-times (t ∷ ts) us same_times =
    let one = same-one t t refl in
    let all = times-cons t ts t in
    let equal = same_times t in
    let there = times-place us t (omega arith) in
    let k = there.0 in
    let here : get_or us k t ≡ t = get_or_default us k t 0 there.1 ∙ there.2 in
    let left : List ℕ = swap_remove us k t in
    let rest : IsPermutation ts left = permutation-times ts left (λ a.
    let whole = times-cons t ts a in
    let part = times-swap_remove us k t a there.1 in
    let same_here : same (get_or us k t) a ≡ same t a = ap (λ b. same b a) here in
    let both = same_times a in
    omega arith) in
    IsPermutation-trans (t ∷ ts) (t ∷ left) us (IsPermutation-cons t ts left rest)
    (IsPermutation-sym us (t ∷ left) (IsPermutation-swap_remove us k t there.1 (sym here)))
