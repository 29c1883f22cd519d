-- Picking what has a positive priority, and sorting it.
use Rattle.std.proofs.Common.{◌≡◌, true, ℕ, zero, suc, ◌+◌, ◌-◌, ◌*◌, ◌^◌, ◌<◌, ◌≤◌, ◌⊎◌, inl, inr, ◌↔◌, false, cond}
use Rattle.std.proofs.Common.{eqb, ltb, ltb-true, lt-ltb, List, [], ◌∷◌, ◌++◌, map, get_or, All, AllPairs, refl, sym}
use Rattle.std.proofs.Common.{◌∙◌, ap, subst, arith, ⊎_elim, count_by, eq-eqb}
use Rattle.std.proofs.lemmas.Bool.{cases_lt, cases_Bool, eqb-true, false≢true}
use Rattle.std.proofs.lemmas.List.Elements.{All-nil, All-head, All-tail, All-push}
use Rattle.std.proofs.lemmas.List.Kept.{AllPairs-cons}
use Rattle.std.proofs.lemmas.List.Sorted.{All-permutation, IsPermutation-map, sum_by-IsPermutation}
use Rattle.std.proofs.lemmas.List.FromFn.{sum_by-map-range_with_len_more}
use Rattle.std.specs.List.{range_with_len}
use Rattle.std.specs.List.Sorted.{IsPermutation, IsSorted}
use Rattle.std.specs.Ordering.{MatchOrdering, is_lt}
use Rattle.std.specs.declared.cmp.Ordering.{Ordering}
use Rattle.std.specs.declared.cmp.Ordering.TheVariants.{Less, Equal, Greater}
use Rattle.mesh_defs.specs.Triangle.{level_of}
use Rattle.mesh_defs.specs.Ranking.{RanksBefore}
use Rattle.bintree_addr.specs.declared.rank.Rank.{Rank}
use Rattle.bintree_addr.specs.RankOrder.{rank_cmp, ComesFirst}
use Rattle.mesh_defs.proofs.ListLemmas.{one_if}
use Rattle.mesh_defs.proofs.ListLemmas.{IsIn, IsIn-contains, Contains-in, some-count, count-some, count-cons}
use Rattle.plain_mesh.specs.Ranks.{ranked_triangles, HavePriorities, positives_below, IsPicked, IsRanked}

-- how often a stands in a list
abbrev count_of : ℕ → List ℕ → ℕ
count_of a xs = count_by (λ t. eqb t a) xs

-- what is not found positive is 0
pub not_positive : (p : ℕ) → (0 < p → false ≡ true) → p ≤ 0
not_positive p h = ⊎_elim
    (λ (none : p < 1). omega arith)
    (λ (some : 1 ≤ p). absurd (false≢true (h (omega arith))))
    (cases_lt p 1)

-- picking

-- one more at the end
count-push : (a : ℕ) (ranks : List Rank) (r : Rank) →
    count_of a (ranked_triangles (ranks ++ r ∷ [])) ≡ count_of a (ranked_triangles ranks) + one_if (eqb r.tri a)
count-push a [] r = let c = count-cons (λ t. eqb t a) r.tri [] in omega arith
count-push a (x ∷ ranks) r =
    let c = count-cons (λ t. eqb t a) x.tri (ranked_triangles (ranks ++ r ∷ [])) in
    let d = count-cons (λ t. eqb t a) x.tri (ranked_triangles ranks) in
    let e : count_of a (ranked_triangles (ranks ++ r ∷ []))
    ≡ count_of a (ranked_triangles ranks) + one_if (eqb r.tri a) = count-push a ranks r in
    omega arith

-- the next address, if it has a positive priority
pub IsPicked-push : (priority : ℕ → ℕ) (b : ℕ) (ranks : List Rank) (r : Rank) → IsPicked priority b ranks → 2 ≤ b →
    r.tri ≡ b → r.p ≡ priority b → 0 < r.p →
    IsPicked priority (b + 1) (ranks ++ r ∷ [])
IsPicked-push priority b ranks r p low is value some = record {
  valued = All-push (λ (x : Rank). x.p ≡ priority x.tri) ranks r p.valued (value ∙ sym (ap priority is));
  once = λ a low_a below positive.
      let c = count-push a ranks r in ⊎_elim
      (λ (less : a < b). let o = p.once a low_a less positive in
      let n = none a (λ e. let f : b ≡ a = sym is ∙ e in omega arith) in omega arith)
      (λ (last : b ≤ a).
      let e : r.tri ≡ a = omega arith in
      let one : one_if (eqb r.tri a) ≡ 1 = ap one_if (eq-eqb r.tri a e) in
      ⊎_elim
      (λ (zero_count : count_of a (ranked_triangles ranks) < 1). omega arith)
      (λ (counted : 1 ≤ count_of a (ranked_triangles ranks)). let o = (p.only a counted).1 in absurd (omega arith))
      (cases_lt (count_of a (ranked_triangles ranks)) 1))
      (cases_lt a b);
  only = λ a counted.
      let c = count-push a ranks r in ⊎_elim
      (λ same. let e : r.tri ≡ a = eqb-true r.tri a same in
      let f : priority b ≡ priority a = ap priority (sym is ∙ e) in
      (omega arith, omega arith, omega arith))
      (λ other. let n : one_if (eqb r.tri a) ≡ 0 = ap one_if other in
      let old = p.only a (omega arith) in (old.0, (let o = old.1 in omega arith), old.2))
      (cases_Bool (eqb r.tri a));
}
  where
    none : (a : ℕ) → (r.tri ≡ a → ⊥) → one_if (eqb r.tri a) ≡ 0
    none a differ = ⊎_elim
        (λ same. absurd (differ (eqb-true r.tri a same)))
        (λ other. ap one_if other)
        (cases_Bool (eqb r.tri a))

-- and it is left out, if it has none
pub IsPicked-skip : (priority : ℕ → ℕ) (b : ℕ) (ranks : List Rank) → IsPicked priority b ranks → priority b ≤ 0 →
    IsPicked priority (b + 1) ranks
IsPicked-skip priority b ranks p none = record {
  valued = p.valued;
  once = λ a low below positive. ⊎_elim
      (λ (less : a < b). p.once a low less positive)
      (λ (last : b ≤ a).
      let e : priority b ≡ priority a = ap priority (let f : b ≡ a = omega arith in f) in
      absurd (omega arith))
      (cases_lt a b);
  only = λ a counted. let old = p.only a counted in (old.0, (let o = old.1 in omega arith), old.2);
}

-- counting

-- the next address counts, if it has a positive priority
pub positives-more : (priority : ℕ → ℕ) (b : ℕ) → 2 ≤ b →
    positives_below priority (b + 1) ≡ positives_below priority b + one_if (ltb 0 (priority b))
positives-more priority b low =
    let more : b + 1 - 2 ≡ (b - 2) + 1 = omega arith in
    ap (λ k. count_by (λ p. ltb 0 p) (map priority (range_with_len 2 k))) more
    ∙ sum_by-map-range_with_len_more (λ p. one_if (ltb 0 p)) priority 2 (b - 2) b (omega arith)

pub positives-yes : (priority : ℕ → ℕ) (b count : ℕ) → 2 ≤ b → count ≡ positives_below priority b → 0 < priority b →
    count + 1 ≡ positives_below priority (b + 1)
positives-yes priority b count low e some =
    let one : one_if (ltb 0 (priority b)) ≡ 1 = ap one_if (lt-ltb 0 (priority b) some) in
    let more = positives-more priority b low in omega arith

pub positives-no : (priority : ℕ → ℕ) (b count : ℕ) → 2 ≤ b → count ≡ positives_below priority b → priority b ≤ 0 →
    count ≡ positives_below priority (b + 1)
positives-no priority b count low e none =
    let zero_is : one_if (ltb 0 (priority b)) ≡ 0 = ap one_if (not_lt 0 (priority b) none) in
    let more = positives-more priority b low in omega arith
  where
    not_lt : (x y : ℕ) → y ≤ x → ltb x y ≡ false
    not_lt x y h = ⊎_elim
        (λ is. let less = ltb-true x y is in absurd (omega arith))
        (λ other. other)
        (cases_Bool (ltb x y))

-- order

-- what is not less is equal or greater
not_less : (o : Ordering) (A B C : Type 0) → MatchOrdering o A B C → is_lt o ≡ false → B ⊎ C
not_less Less A B C m e = absurd (false≢true (sym e))
not_less Equal A B C m e = inl m
not_less Greater A B C m e = inr m

-- rank order is transitive
before-trans : (priority : ℕ → ℕ) (a b c : ℕ) → RanksBefore priority a b → RanksBefore priority b c →
    RanksBefore priority a c
before-trans priority a b c (inl h) (inl k) = inl (omega arith)
before-trans priority a b c (inl h) (inr k) = inl (omega arith)
before-trans priority a b c (inr h) (inl k) = inl (omega arith)
before-trans priority a b c (inr h) (inr k) = inr (omega arith, omega arith)

-- the order of ranks is that of their triangles
before-ranks : (priority : ℕ → ℕ) (r s : Rank) → r.p ≡ priority r.tri → s.p ≡ priority s.tri → ComesFirst r s →
    RanksBefore priority r.tri s.tri
before-ranks priority r s e f (inl h) = inl (omega arith)
before-ranks priority r s e f (inr h) = inr (omega arith, h.1)

-- the comparison by cases
abbrev Compares : Type 0
Compares = (r s : Rank) → MatchOrdering (rank_cmp r s) (ComesFirst r s) (r ≡ s) (ComesFirst s r)

-- sorted, with no triangle twice: each ranks before all that follow
ordered-sorted : (priority : ℕ → ℕ) (xs : List Rank) → Compares → IsSorted rank_cmp xs → HavePriorities priority xs →
    ((a : ℕ) → count_of a (ranked_triangles xs) ≤ 1) → AllPairs (RanksBefore priority) (ranked_triangles xs)
ordered-sorted priority [] cases up valued once = λ i j d h k. absurd (omega arith)
ordered-sorted priority (x ∷ []) cases up valued once = λ i j d h k. absurd (omega arith)
ordered-sorted priority (x ∷ (y ∷ zs)) cases up valued once =
    AllPairs-cons (RanksBefore priority) x.tri (ranked_triangles (y ∷ zs))
    (follow (ordered-sorted priority (y ∷ zs) cases tail_up tail_valued tail_once))
    (ordered-sorted priority (y ∷ zs) cases tail_up tail_valued tail_once)
  where
    tail_valued : HavePriorities priority (y ∷ zs)
    tail_valued = All-tail (λ (r : Rank). r.p ≡ priority r.tri) x (y ∷ zs) valued

    tail_up : IsSorted rank_cmp (y ∷ zs)
    tail_up k d low h =
        let e : suc k + 1 ≡ suc (k + 1) = omega arith in
        subst (λ z. is_lt (rank_cmp (get_or (x ∷ (y ∷ zs)) z d) (get_or (y ∷ zs) k d)) ≡ false) e
        (up (suc k) d (omega arith) (omega arith))

    tail_once : (a : ℕ) → count_of a (ranked_triangles (y ∷ zs)) ≤ 1
    tail_once a =
        let c = count-cons (λ t. eqb t a) x.tri (ranked_triangles (y ∷ zs)) in let o = once a in omega arith

    differ : x.tri ≡ y.tri → ⊥
    differ e =
        let c = count-cons (λ t. eqb t y.tri) x.tri (ranked_triangles (y ∷ zs)) in
        let d = count-cons (λ t. eqb t y.tri) y.tri (ranked_triangles zs) in
        let one_x : one_if (eqb x.tri y.tri) ≡ 1 = ap one_if (eq-eqb x.tri y.tri e) in
        let one_y : one_if (eqb y.tri y.tri) ≡ 1 = ap one_if (eq-eqb y.tri y.tri refl) in
        let o = once y.tri in omega arith

    first : RanksBefore priority x.tri y.tri
    first = ⊎_elim
        (λ (same : y ≡ x). absurd (differ (ap (λ (r : Rank). r.tri) (sym same))))
        (λ (before : ComesFirst x y). before-ranks priority x y
        (All-head (λ (r : Rank). r.p ≡ priority r.tri) x (y ∷ zs) valued)
        (All-head (λ (r : Rank). r.p ≡ priority r.tri) y zs tail_valued) before)
        (not_less (rank_cmp y x) (ComesFirst y x) (y ≡ x) (ComesFirst x y) (cases y x)
        (up 0 x (omega arith) (omega arith)))

    follow : AllPairs (RanksBefore priority) (ranked_triangles (y ∷ zs)) →
        All (RanksBefore priority x.tri) (ranked_triangles (y ∷ zs))
    follow rest zero d h = first
    follow rest (suc k) d h =
        before-trans priority x.tri y.tri (get_or (ranked_triangles zs) k d) first
        (rest zero (suc k) d (omega arith) (omega arith))

-- the ranking

-- what is picked below the first finest address is the ranking, once it is sorted
pub IsRanked-sorted : (n : ℕ) (priority : ℕ → ℕ) (ranks sorted : List Rank) → Compares →
    ((a k : ℕ) → 2 ≤ a → (level_of a < k) ↔ (a < 2 ^ (k + 1))) →
    IsPicked priority (2 ^ (2 * n + 1)) ranks → IsPermutation ranks sorted → IsSorted rank_cmp sorted →
    IsRanked n priority sorted
IsRanked-sorted n priority ranks sorted cases level p moved up = record {
  valued = valued;
  ranked = record {
    ordered = ordered-sorted priority sorted cases up valued once;
    members = λ a. (
      (λ has.
          let only = p.only a (let c = same a in let k = count-some (λ t. eqb t a) a (ranked_triangles sorted)
          (IsIn-contains a (ranked_triangles sorted) has) (eq-eqb a a refl) in omega arith) in
          (record { low = only.0; coarse = (level a (2 * n) only.0).1 only.1 }, only.2)),
      (λ is.
          let below = (level a (2 * n) is.0.low).0 is.0.coarse in
          let one = p.once a is.0.low below is.1 in
          let found = some-count (λ t. eqb t a) (ranked_triangles sorted) (let c = same a in omega arith) in
          Contains-in a (ranked_triangles sorted)
          (subst (λ z. IsIn z (ranked_triangles sorted)) (eqb-true found.0 a found.2) found.1)),
    );
  };
}
  where
    valued : HavePriorities priority sorted
    valued = All-permutation (λ (r : Rank). r.p ≡ priority r.tri) ranks sorted moved p.valued

    same : (a : ℕ) → count_of a (ranked_triangles sorted) ≡ count_of a (ranked_triangles ranks)
    same a = sum_by-IsPermutation (λ t. cond (eqb t a) 1 0) (ranked_triangles ranks) (ranked_triangles sorted)
        (IsPermutation-map (λ (r : Rank). r.tri) ranks sorted moved)

    once : (a : ℕ) → count_of a (ranked_triangles sorted) ≤ 1
    once a = let e = same a in ⊎_elim
        (λ (none : count_of a (ranked_triangles ranks) < 1). omega arith)
        (λ (some : 1 ≤ count_of a (ranked_triangles ranks)).
        let only = p.only a some in let o = p.once a only.0 only.1 only.2 in omega arith)
        (cases_lt (count_of a (ranked_triangles ranks)) 1)
