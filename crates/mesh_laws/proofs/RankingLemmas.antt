-- For every priority there is a ranking: the splittable addresses, placed one after the other by insertion.
use Rattle.std.proofs.Common.{◌≡◌, ℕ, zero, suc, ◌*◌, ◌^◌, ◌<◌, ◌≤◌, ◌⊎◌, inl, inr, List, [], ◌∷◌, Bool, true, cond}
use Rattle.std.proofs.Common.{◌&&◌, ltb, sym, ◌∙◌, subst, arith, ltb-true, ltb-false, lt-ltb, ⊎_elim, All, AllPairs}
use Rattle.std.proofs.Common.{get_or}
use Rattle.std.proofs.lemmas.Bool.{cases_lt, cond_both, and_parts, and_from, false≢true}
use Rattle.std.proofs.lemmas.List.Elements.{All-cons, All-nil, All-head, All-tail, All-weaker, Contains-get_or}
use Rattle.mesh_defs.specs.Triangle.{IsSplittable, level_of}
use Rattle.mesh_defs.specs.Ranking.{RanksBefore, IsRanking}
use Rattle.mesh_defs.proofs.ListLemmas.{IsIn, IsIn-contains, Contains-in}
use Rattle.bintree_laws.proofs.LevelLemmas.{splittable-below}

-- a list in order

module _ (priority : ℕ → ℕ) where
  -- each entry ranks before all that follow it
  abbrev IsOrdered : List ℕ → Type 0
  IsOrdered [] = Unit {0}
  IsOrdered (x ∷ xs) = All (RanksBefore priority x) xs × IsOrdered xs

  -- so each two entries are in rank order
  AllPairs-ordered : (xs : List ℕ) → IsOrdered xs → AllPairs (RanksBefore priority) xs
  AllPairs-ordered [] o i j d h k = absurd (omega arith)
  AllPairs-ordered (x ∷ xs) o i zero d h k = absurd (omega arith)
  AllPairs-ordered (x ∷ xs) o zero (suc j) d h k = o.0 j d (omega arith)
  AllPairs-ordered (x ∷ xs) o (suc i) (suc j) d h k = AllPairs-ordered xs o.1 i j d (omega arith) (omega arith)

  -- x behind all that have at least its priority
  place : ℕ → List ℕ → List ℕ
  place x [] = x ∷ []
  place x (y ∷ ys) = cond (ltb (priority y) (priority x)) (x ∷ (y ∷ ys)) (y ∷ place x ys)

  -- what holds of x and of each entry holds after x is placed
  All-place : (P : ℕ → Type 0) (x : ℕ) (xs : List ℕ) → P x → All P xs → All P (place x xs)
  unfolding place
  All-place P x [] h all = All-cons P x [] h all
  All-place P x (y ∷ ys) h all =
      cond_both (ltb (priority y) (priority x)) (x ∷ (y ∷ ys)) (y ∷ place x ys) (All P)
      (λ _. All-cons P x (y ∷ ys) h all)
      (λ _. All-cons P y (place x ys) (All-head P y ys all) (All-place P x ys h (All-tail P y ys all)))

  -- a greater address than all of an ordered list keeps the order when it is placed
  IsOrdered-place : (x : ℕ) (xs : List ℕ) → All (λ y. y < x) xs → IsOrdered xs → IsOrdered (place x xs)
  unfolding place
  IsOrdered-place x [] below o = (All-nil (RanksBefore priority x), tt)
  IsOrdered-place x (y ∷ ys) below o =
      cond_both (ltb (priority y) (priority x)) (x ∷ (y ∷ ys)) (y ∷ place x ys) IsOrdered
      (λ higher. let above : priority y < priority x = ltb-true (priority y) (priority x) higher in (
        All-cons (RanksBefore priority x) y ys (inl above)
            (All-weaker (RanksBefore priority y) (RanksBefore priority x) (before_more x y above) ys o.0),
        o,
      ))
      (λ other. let under : priority x ≤ priority y = ltb-false (priority y) (priority x) other in
      let less : y < x = All-head (λ z. z < x) y ys below in (
        All-place (RanksBefore priority y) x ys (before_greater x y under less) o.0,
        IsOrdered-place x ys (All-tail (λ z. z < x) y ys below) o.1,
      ))
    where
      before_more : (x y : ℕ) → priority y < priority x → (z : ℕ) → RanksBefore priority y z → RanksBefore priority x z
      before_more x y above z (inl h) = inl (omega arith)
      before_more x y above z (inr h) = inl (omega arith)

      before_greater : (x y : ℕ) → priority x ≤ priority y → y < x → RanksBefore priority y x
      before_greater x y under less = ⊎_elim
          (λ (lower : priority x < priority y). inl lower)
          (λ (same : priority y ≤ priority x). inr (omega arith, less))
          (cases_lt (priority x) (priority y))

  -- after x is placed there is x, and what was there before
  IsIn-placed : (a x : ℕ) (xs : List ℕ) → IsIn a (place x xs) → (x ≡ a) ⊎ IsIn a xs
  unfolding place
  IsIn-placed a x [] h = h
  IsIn-placed a x (y ∷ ys) h =
      cond_both (ltb (priority y) (priority x)) (x ∷ (y ∷ ys)) (y ∷ place x ys)
      (λ l. IsIn a l → (x ≡ a) ⊎ IsIn a (y ∷ ys))
      (λ _ i. i)
      (λ _ i. ⊎_elim
      (λ (e : y ≡ a). inr (inl e))
      (λ (r : IsIn a (place x ys)). ⊎_elim
      (λ (e : x ≡ a). inl e)
      (λ (k : IsIn a ys). inr (inr k))
      (IsIn-placed a x ys r))
      i)
      h

  -- and nothing is lost
  IsIn-place : (a x : ℕ) (xs : List ℕ) → (x ≡ a) ⊎ IsIn a xs → IsIn a (place x xs)
  unfolding place
  IsIn-place a x [] h = h
  IsIn-place a x (y ∷ ys) h =
      cond_both (ltb (priority y) (priority x)) (x ∷ (y ∷ ys)) (y ∷ place x ys) (IsIn a)
      (λ _. h)
      (λ _. ⊎_elim
      (λ (e : x ≡ a). inr (IsIn-place a x ys (inl e)))
      (λ (i : (y ≡ a) ⊎ IsIn a ys). ⊎_elim
      (λ (e : y ≡ a). inl e)
      (λ (k : IsIn a ys). inr (IsIn-place a x ys (inr k)))
      i)
      h)

  -- the ranking of the addresses below a bound that a test picks
  ranked_below : (ℕ → Bool) → ℕ → List ℕ
  ranked_below picks zero = []
  ranked_below picks (suc a) = cond (picks a) (place a (ranked_below picks a)) (ranked_below picks a)

  -- what is ranked is below the bound and is picked
  IsIn-ranked : (picks : ℕ → Bool) (bound a : ℕ) → IsIn a (ranked_below picks bound) → (a < bound) × (picks a ≡ true)
  unfolding ranked_below
  IsIn-ranked picks zero a h = absurd h
  IsIn-ranked picks (suc b) a h =
      cond_both (picks b) (place b (ranked_below picks b)) (ranked_below picks b)
      (λ l. IsIn a l → (a < suc b) × (picks a ≡ true))
      (λ picked i. ⊎_elim
      (λ (e : b ≡ a). (omega arith, subst (λ c. picks c ≡ true) e picked))
      (λ (k : IsIn a (ranked_below picks b)). let r = IsIn-ranked picks b a k in (omega arith, r.1))
      (IsIn-placed a b (ranked_below picks b) i))
      (λ _ i. let r = IsIn-ranked picks b a i in (omega arith, r.1))
      h

  -- each picked number below the bound is ranked
  IsIn-ranked_below : (picks : ℕ → Bool) (bound a : ℕ) → a < bound → picks a ≡ true →
      IsIn a (ranked_below picks bound)
  unfolding ranked_below
  IsIn-ranked_below picks zero a h is = absurd (omega arith)
  IsIn-ranked_below picks (suc b) a h is =
      cond_both (picks b) (place b (ranked_below picks b)) (ranked_below picks b) (IsIn a)
      (λ _. IsIn-place a b (ranked_below picks b) (⊎_elim
      (λ (less : a < b). inr (IsIn-ranked_below picks b a less is))
      (λ (last : b ≤ a). inl (omega arith))
      (cases_lt a b)))
      (λ other. ⊎_elim
      (λ (less : a < b). IsIn-ranked_below picks b a less is)
      (λ (last : b ≤ a). let same : a ≡ b = omega arith in
      absurd (false≢true (sym other ∙ subst (λ c. picks c ≡ true) same is)))
      (cases_lt a b))

  -- the ranking is in order
  IsOrdered-ranked : (picks : ℕ → Bool) (bound : ℕ) → IsOrdered (ranked_below picks bound)
  unfolding ranked_below
  IsOrdered-ranked picks zero = tt
  IsOrdered-ranked picks (suc b) =
      cond_both (picks b) (place b (ranked_below picks b)) (ranked_below picks b) IsOrdered
      (λ _. IsOrdered-place b (ranked_below picks b)
      (λ k d h. (IsIn-ranked picks b (get_or (ranked_below picks b) k d)
      (IsIn-contains (get_or (ranked_below picks b) k d) (ranked_below picks b)
      (Contains-get_or (ranked_below picks b) k d h))).0)
      (IsOrdered-ranked picks b))
      (λ _. IsOrdered-ranked picks b)

-- the splittable addresses of positive priority

abbrev is_ranked : ℕ → (ℕ → ℕ) → ℕ → Bool
is_ranked n priority a = ltb 1 a && (ltb (level_of a) (2 * n) && ltb 0 (priority a))

-- what the test says
is_ranked-true : (n : ℕ) (priority : ℕ → ℕ) (a : ℕ) → is_ranked n priority a ≡ true →
    IsSplittable n a × (0 < priority a)
is_ranked-true n priority a h =
    let first : (ltb 1 a ≡ true) × ((ltb (level_of a) (2 * n) && ltb 0 (priority a)) ≡ true) = and_parts _ _ h in
    let second : (ltb (level_of a) (2 * n) ≡ true) × (ltb 0 (priority a) ≡ true) = and_parts _ _ first.1 in (
      record { low = ltb-true 1 a first.0; coarse = ltb-true (level_of a) (2 * n) second.0 },
      ltb-true 0 (priority a) second.1,
    )

-- and what it takes
is_ranked-from : (n : ℕ) (priority : ℕ → ℕ) (a : ℕ) → IsSplittable n a → 0 < priority a →
    is_ranked n priority a ≡ true
is_ranked-from n priority a s h =
    and_from (ltb 1 a) (ltb (level_of a) (2 * n) && ltb 0 (priority a)) (lt-ltb 1 a s.low)
    (and_from (ltb (level_of a) (2 * n)) (ltb 0 (priority a)) (lt-ltb (level_of a) (2 * n) s.coarse)
    (lt-ltb 0 (priority a) h))

-- their ranking: each is below four times 2 ^ (2 n)
pub ranking_of : ℕ → (ℕ → ℕ) → List ℕ
ranking_of n priority = ranked_below priority (is_ranked n priority) (4 * 2 ^ (2 * n))

-- it is a ranking
pub IsRanking-of : (n : ℕ) (priority : ℕ → ℕ) → IsRanking n priority (ranking_of n priority)
unfolding ranking_of
IsRanking-of n priority = record {
  ordered = AllPairs-ordered priority (ranking_of n priority)
      (IsOrdered-ranked priority (is_ranked n priority) (4 * 2 ^ (2 * n)));
  members = λ a. (
    (λ has. is_ranked-true n priority a
        (IsIn-ranked priority (is_ranked n priority) (4 * 2 ^ (2 * n)) a
        (IsIn-contains a (ranking_of n priority) has)).1),
    (λ (s : IsSplittable n a × (0 < priority a)). Contains-in a (ranking_of n priority)
        (IsIn-ranked_below priority (is_ranked n priority) (4 * 2 ^ (2 * n)) a
        (splittable-below n a s.0) (is_ranked-from n priority a s.0 s.1))),
  );
}
