-- How many members and leaves a closed set has.
use Rattle.std.proofs.Common.{◌≡◌, ℕ, zero, suc, ◌+◌, ◌-◌, ◌*◌, ◌/◌, ◌%◌, ◌^◌, ◌<◌, ◌≤◌, ◌⊎◌, inl, inr, Bool, true}
use Rattle.std.proofs.Common.{false, eqb, ◌||◌, List, [], ◌∷◌, ◌++◌, length, refl, sym, ◌∙◌, ap, subst, arith, ⊎_elim}
use Rattle.std.proofs.Common.{eq-eqb, pow_mono, length-append, count_by}
use Rattle.std.proofs.lemmas.Bool.{cases_lt, false≢true, or_cases, or_left, or_right, eqb-true}
use Rattle.std.proofs.lemmas.List.Elements.{All-contains}
use Rattle.mesh_defs.specs.Triangle.{level_of, IsAddress}
use Rattle.mesh_defs.specs.ClosedSet.{IsClosed, IsLeastClosed, leaves_under, leaves_of, among}
use Rattle.mesh_defs.specs.Tiling.{is_inside}
use Rattle.bintree_laws.proofs.LevelLemmas.{splittable-below, level_of-root, level_of-left, level_of-right}
use Rattle.mesh_laws.specs.Ancestors.{is_above}
use Rattle.mesh_defs.specs.GridSet.{IsAscending, IsGridSet}
use Rattle.mesh_defs.proofs.ListLemmas.{one_if, one_if-no}
use Rattle.mesh_laws.proofs.DescentLemmas.{IsDown, IsDown-left, IsDown-right, IsDown-2, IsDown-3, IsDown-address}
use Rattle.mesh_laws.proofs.DescentLemmas.{IsAddress-down, IsAddress-splittable, one_base, sample_of}
use Rattle.mesh_laws.proofs.ConformityLemmas.{IsUnder, self, below, IsUnder-left, IsUnder-right, member_above}
use Rattle.mesh_defs.proofs.ListLemmas.{IsIn, IsIn-among, among-in, Contains-in, count-cons, count-yes, some-count}
use Rattle.mesh_laws.proofs.ConverseLemmas.{under-above, above-under, level-under, not_below_both, is_inside-under}
use Rattle.mesh_laws.proofs.ConverseLemmas.{IsUnder-sample}

-- how long an ascending list can be

-- entries from k up to m are at most m - k
pub length-within : (k m : ℕ) (xs : List ℕ) → IsAscending xs →
    ((a : ℕ) → IsIn a xs → (k ≤ a) × (a < m)) → length xs ≤ m - k
length-within k m [] o within = omega arith
length-within k m (x ∷ xs) o within =
    let first = within x (inl refl) in
    let rest : length xs ≤ m - suc x = length-within (suc x) m xs o.1
    (λ a h. (All-contains (λ y. x < y) xs a o.0 (Contains-in a xs h), (within a (inr h)).1)) in
    omega arith

-- each member is less than 2 ^ 30
pub length-members : (n : ℕ) (members : List ℕ) → IsGridSet n members → length members ≤ 2 ^ 30
length-members n members g =
    let small = g.n_high in
    let most : 2 ^ (2 * n) ≤ 2 ^ 28 = pow_mono (let h : 2 * n ≤ 28 = omega arith in h) in
    let all : length members ≤ 2 ^ 30 - 0 = length-within 0 (2 ^ 30) members g.ascending
    (λ a h.
    (omega arith, (let b = splittable-below n a (g.closed.splittable a (among-in a members h)) in omega arith))) in
    omega arith

-- and so after a forced split
pub length-grown : (n : ℕ) (wanted : ℕ → Bool) (after : List ℕ) → 1 ≤ n → n ≤ 14 → IsAscending after →
    IsLeastClosed n wanted (among after) →
    length after ≤ 2 ^ 30
length-grown n wanted after low high o least =
    length-members n after record { n_low = low; n_high = high; ascending = o; closed = least.closed }

-- an entry of an ascending list is there once

-- where no entry passes, none is counted
pub count-none : (p : ℕ → Bool) (xs : List ℕ) → ((a : ℕ) → IsIn a xs → p a ≡ true → ⊥) → count_by p xs ≡ 0
count-none p xs none = ⊎_elim
    (λ zero. omega arith)
    (λ some. let e = some-count p xs some in absurd (none e.0 e.1 e.2))
    (cases_lt (count_by p xs) 1)

-- an entry of an ascending list is counted once
pub count-ascending : (a : ℕ) (xs : List ℕ) → IsAscending xs → IsIn a xs → count_by (λ t. eqb t a) xs ≡ 1
count-ascending a [] o h = absurd h
count-ascending a (x ∷ xs) o (inl e) =
    let c = count-yes (λ t. eqb t a) x xs (eq-eqb x a e) in
    let rest : count_by (λ t. eqb t a) xs ≡ 0 = count-none (λ t. eqb t a) xs (λ b h same.
    let less : x < b = All-contains (λ y. x < y) xs b o.0 (Contains-in b xs h) in
    let f = eqb-true b a same in omega arith) in
    omega arith
count-ascending a (x ∷ xs) o (inr h) =
    let c = count-cons (λ t. eqb t a) x xs in
    let rest : count_by (λ t. eqb t a) xs ≡ 1 = count-ascending a xs o.1 h in
    let none : one_if (eqb x a) ≡ 0 = one_if-no (eqb x a) (λ same.
    let less : x < a = All-contains (λ y. x < y) xs a o.0 (Contains-in a xs h) in
    let f = eqb-true x a same in omega arith) in
    omega arith

-- at and below a

-- m is a or lies below it
abbrev pub is_under : ℕ → ℕ → Bool
is_under a m = eqb m a || is_above a m

-- from the test
pub under-true : (a m : ℕ) → is_under a m ≡ true → IsUnder a m
under-true a m h = ⊎_elim
    (λ same. subst (λ z. IsUnder a z) (sym (eqb-true m a same)) self)
    (λ above. let parts = under-above a m above in below m parts.1 parts.2)
    (or_cases (eqb m a) (is_above a m) h)

-- to the test
pub true-under : (a m : ℕ) → 2 ≤ a → IsUnder a m → is_under a m ≡ true
true-under a m low self = or_left (eqb a a) (is_above a a) (eq-eqb a a refl)
true-under a m low (below y big u) = or_right (eqb y a) (is_above a y) (above-under a y low big u)

-- it is a or lies at and below one of its children
pub under-cases : (a m : ℕ) → IsUnder a m → (m ≡ a) ⊎ (IsUnder (2 * a) m ⊎ IsUnder (2 * a + 1) m)
under-cases a m self = inl refl
under-cases a m (below y big u) = ⊎_elim
    (λ same. ⊎_elim
    (λ even. inr (inl (subst (λ z. IsUnder z y) (let e : y ≡ 2 * a = omega arith in e) self)))
    (λ odd. inr (inr (subst (λ z. IsUnder z y) (let e : y ≡ 2 * a + 1 = omega arith in e) self)))
    (cases_lt (y % 2) 1))
    (λ later. ⊎_elim (λ left. inr (inl (below y big left))) (λ right. inr (inr (below y big right))) later)
    (under-cases a (y / 2) u)

-- what four tests count
count_of_three : (whole first left right : Bool) → (first ≡ true → whole ≡ true) → (left ≡ true → whole ≡ true) →
    (right ≡ true → whole ≡ true) →
    (first ≡ true → left ≡ true → ⊥) → (first ≡ true → right ≡ true → ⊥) → (left ≡ true → right ≡ true → ⊥) →
    (whole ≡ true → (first ≡ true) ⊎ ((left ≡ true) ⊎ (right ≡ true))) →
    one_if whole ≡ one_if first + (one_if left + one_if right)
count_of_three true true true right f l r fl fr lr some = absurd (fl refl refl)
count_of_three true true false true f l r fl fr lr some = absurd (fr refl refl)
count_of_three true true false false f l r fl fr lr some = refl
count_of_three true false true true f l r fl fr lr some = absurd (lr refl refl)
count_of_three true false true false f l r fl fr lr some = refl
count_of_three true false false true f l r fl fr lr some = refl
count_of_three true false false false f l r fl fr lr some =
    absurd (⊎_elim false≢true (λ e. ⊎_elim false≢true false≢true e) (some refl))
count_of_three false true left right f l r fl fr lr some = absurd (false≢true (f refl))
count_of_three false false true right f l r fl fr lr some = absurd (false≢true (l refl))
count_of_three false false false true f l r fl fr lr some = absurd (false≢true (r refl))
count_of_three false false false false f l r fl fr lr some = refl

-- a splittable triangle is a, or below the left or the right child, or not below a
under_children : (n levels a m : ℕ) → IsDown n (suc levels) a → IsAddress n m →
    one_if (is_under a m) ≡ one_if (eqb m a) + (one_if (is_under (2 * a) m) + one_if (is_under (2 * a + 1) m))
under_children n levels a m d address =
    let low : 2 ≤ a = d.low in
    let l = level_of-left a low in let r = level_of-right a low in
    count_of_three (is_under a m) (eqb m a) (is_under (2 * a) m) (is_under (2 * a + 1) m)
    (λ h. or_left (eqb m a) (is_above a m) h)
    (λ h. true-under a m low (IsUnder-left a m low (under-true (2 * a) m h)))
    (λ h. true-under a m low (IsUnder-right a m low (under-true (2 * a + 1) m h)))
    (λ h k.
    let u = level-under (2 * a) m (under-true (2 * a) m k) in
    let e : level_of m ≡ level_of a = ap level_of (eqb-true m a h) in
    omega arith)
    (λ h k.
    let u = level-under (2 * a + 1) m (under-true (2 * a + 1) m k) in
    let e : level_of m ≡ level_of a = ap level_of (eqb-true m a h) in
    omega arith)
    (λ h k. not_below_both n levels a m d address (under-true (2 * a) m h) (under-true (2 * a + 1) m k))
    (λ h. ⊎_elim
    (λ same. inl (eq-eqb m a same))
    (λ later. inr (⊎_elim
    (λ left. inl (true-under (2 * a) m (omega arith) left))
    (λ right. inr (true-under (2 * a + 1) m (omega arith) right))
    later))
    (under-cases a m (under-true a m h)))

-- sums of counts
count-three : (p q r s : ℕ → Bool) (xs : List ℕ) →
    ((m : ℕ) → IsIn m xs → one_if (p m) ≡ one_if (q m) + (one_if (r m) + one_if (s m))) →
    count_by p xs ≡ count_by q xs + (count_by r xs + count_by s xs)
count-three p q r s [] same = refl
count-three p q r s (x ∷ xs) same =
    let a = count-cons p x xs in let b = count-cons q x xs in let c = count-cons r x xs in let d = count-cons s x xs in
    let rest : count_by p xs ≡ count_by q xs + (count_by r xs + count_by s xs) =
    count-three p q r s xs (λ m h. same m (inr h)) in
    let first = same x (inl refl) in
    omega arith

-- two tests of which each entry passes one
count-two : (p q : ℕ → Bool) (xs : List ℕ) → ((m : ℕ) → IsIn m xs → one_if (p m) + one_if (q m) ≡ 1) →
    count_by p xs + count_by q xs ≡ length xs
count-two p q [] same = refl
count-two p q (x ∷ xs) same =
    let a = count-cons p x xs in let b = count-cons q x xs in
    let rest : count_by p xs + count_by q xs ≡ length xs = count-two p q xs (λ m h. same m (inr h)) in
    let first = same x (inl refl) in
    omega arith

-- the lengths of two lists, by whether a is split
length_step : (b : Bool) (left right : List ℕ) (a total : ℕ) →
    (b ≡ true → length left + length right ≡ total) → (b ≡ false → 1 ≡ total) →
    length (elim b as (λ _. List ℕ) [ true ↦ left ++ right | false ↦ a ∷ [] ]) ≡ total
length_step true left right a total both one = length-append left right ∙ both refl
length_step false left right a total both one = one refl

module _ (n : ℕ) (members : List ℕ) (each : (a : ℕ) → IsIn a members → count_by (λ t. eqb t a) members ≡ 1)
    (closed : IsClosed n (among members)) where
  -- each member is an address
  address_of : (m : ℕ) → IsIn m members → IsAddress n m
  address_of m h = IsAddress-splittable n m (closed.splittable m (among-in m members h))

  -- below a there is one leaf more than members
  length-leaves_under : (levels a : ℕ) → IsDown n levels a →
      length (leaves_under levels (among members) a) ≡ 1 + count_by (is_under a) members
  length-leaves_under zero a d =
      let none : count_by (is_under a) members ≡ 0 = count-none (is_under a) members (λ m h u.
      let s = (closed.splittable m (among-in m members h)).coarse in
      let l = level-under a m (under-true a m u) in let e = d.height in omega arith) in
      omega arith
  length-leaves_under (suc levels) a d =
      length_step (among members a) (leaves_under levels (among members) (2 * a))
      (leaves_under levels (among members) (2 * a + 1)) a
      (1 + count_by (is_under a) members)
      (λ member.
      let left : length (leaves_under levels (among members) (2 * a)) ≡ 1 + count_by (is_under (2 * a)) members =
      length-leaves_under levels (2 * a) (IsDown-left n levels a d) in
      let right : length (leaves_under levels (among members) (2 * a + 1))
      ≡ 1 + count_by (is_under (2 * a + 1)) members =
      length-leaves_under levels (2 * a + 1) (IsDown-right n levels a d) in
      let once = each a (IsIn-among a members member) in
      let all = count-three (is_under a) (λ t. eqb t a) (is_under (2 * a)) (is_under (2 * a + 1)) members
      (λ m h. under_children n levels a m d (address_of m h)) in
      omega arith)
      (λ other.
      let none : count_by (is_under a) members ≡ 0 = count-none (is_under a) members (λ m h u.
      false≢true (sym other
      ∙ member_above (among members) closed.parent a m (under-true a m u) (among-in m members h))) in
      omega arith)

  -- each member is below one of the base triangles
  one_base_above : (m : ℕ) → IsIn m members → one_if (is_under 2 m) + one_if (is_under 3 m) ≡ 1
  one_base_above m h =
      let address = address_of m h in
      let s = sample_of n (2 * n - level_of m) m (IsDown-address n m address) in
      let one = one_base n s.0 s.1 s.2 in
      let to_2 = same_test (is_inside n s.0 s.1 2) (is_under 2 m)
      (λ i. true-under 2 m
      (omega arith) (IsUnder-sample n s.0 s.1 (level_of m) 2 m s.2 (IsAddress-down n (2 * n) 2 (IsDown-2 n)) address
      (let e = level_of-root 2 (omega arith) (omega arith) in omega arith) i s.3))
      (λ u. is_inside-under n 2 m s.0 s.1 address s.2 (under-true 2 m u) s.3) in
      let to_3 = same_test (is_inside n s.0 s.1 3) (is_under 3 m)
      (λ i. true-under 3 m
      (omega arith) (IsUnder-sample n s.0 s.1 (level_of m) 3 m s.2 (IsAddress-down n (2 * n) 3 (IsDown-3 n)) address
      (let e = level_of-root 3 (omega arith) (omega arith) in omega arith) i s.3))
      (λ u. is_inside-under n 3 m s.0 s.1 address s.2 (under-true 3 m u) s.3) in
      omega arith
    where
      same_test : (b c : Bool) → (b ≡ true → c ≡ true) → (c ≡ true → b ≡ true) → one_if b ≡ one_if c
      same_test true c to from = sym (ap one_if (to refl))
      same_test false true to from = absurd (false≢true (from refl))
      same_test false false to from = refl

  -- a closed set has two leaves more than members
  pub length-leaves_once : length (leaves_of n (among members)) ≡ length members + 2
  unfolding leaves_of
  length-leaves_once =
      let lower = length-leaves_under (2 * n) 2 (IsDown-2 n) in
      let upper = length-leaves_under (2 * n) 3 (IsDown-3 n) in
      let all = count-two (is_under 2) (is_under 3) members one_base_above in
      length-append (leaves_under (2 * n) (among members) 2) (leaves_under (2 * n) (among members) 3) ∙ omega arith

-- of an ascending list
pub length-leaves_of : (n : ℕ) (members : List ℕ) → IsAscending members → IsClosed n (among members) →
    length (leaves_of n (among members)) ≡ length members + 2
length-leaves_of n members ascending closed =
    length-leaves_once n members (λ a h. count-ascending a members ascending h) closed
