-- The two base triangles are the best and the greedy mesh of budget 2, and no other conforming list is as
-- short: a closed set that is not empty holds 2 and 3, and so it has more than two leaves.
use Rattle.std.proofs.Common.{◌≡◌, ℕ, zero, suc, ◌+◌, ◌*◌, ◌/◌, ◌<◌, ◌≤◌, ◌⊎◌, inl, inr, List, [], ◌∷◌, ◌++◌, length}
use Rattle.std.proofs.Common.{Bool, true, false, IsTrue, eqb, refl, sym, ◌∙◌, ap, ap₂, subst, arith, ⊎_elim, take}
use Rattle.std.proofs.Common.{length-append, eq-eqb, count_by, ◌^◌, pow_pos, pow-add}
use Rattle.std.proofs.lemmas.Bool.{cases_lt, or_left, false≢true, false_from_ne_true, eqb-true}
use Rattle.std.specs.List.{list_any}
use Rattle.mesh_defs.specs.Triangle.{level_of, corners_of, IsAddress, IsMate}
use Rattle.mesh_defs.specs.ClosedSet.{IsClosed, IsLeastClosed, leaves_under, leaves_of, among}
use Rattle.mesh_defs.specs.Priority.{worst_of}
use Rattle.mesh_defs.specs.Ranking.{IsPrefixClosure, IsRankClosure}
use Rattle.mesh_defs.specs.Tiling.{IsConforming}
use Rattle.mesh_defs.specs.Greedy.{with_triangle, IsGreedyEnd}
use Rattle.mesh_defs.specs.BestMesh.{IsBestMesh}
use Rattle.mesh_defs.proofs.ListLemmas.{IsIn, count-some, some-count, length-counts}
use Rattle.mesh_laws.specs.Ancestors.{ancestors_of}
use Rattle.mesh_laws.proofs.ConformityLemmas.{IsConforming-leaves_of}
use Rattle.mesh_laws.proofs.ConverseLemmas.{IsClosed-ancestors_of, AreLeaves-ancestors_of}
use Rattle.mesh_laws.proofs.ClosureLemmas.{nothing_closed, nothing_least, leaves_under-some, leaves_of-same}
use Rattle.mesh_laws.proofs.RankingLemmas.{ranking_of, IsRanking-of}

-- the two base triangles are mates

-- both are addresses of every grid
base_address : (n a : ℕ) → 2 ≤ a → a ≤ 3 → IsAddress n a
base_address n a low high =
    let four : 2 ^ (2 * n + 2) ≡ 2 ^ (2 * n) * 4 = pow-add 2 (2 * n) 2 in
    let some : 0 < 2 ^ (2 * n) = pow_pos (2 * n) in record { low = low; high = omega arith }

-- the mate of 2 is 3
IsMate-2 : (n : ℕ) → IsMate n 2 3
unfolding corners_of level_of
IsMate-2 n = record {
  address = base_address n 3 (omega arith) (omega arith);
  other = λ e. omega arith;
  level = refl;
  base = inr (refl, refl);
}

-- the mate of 3 is 2
IsMate-3 : (n : ℕ) → IsMate n 3 2
unfolding corners_of level_of
IsMate-3 n = record {
  address = base_address n 2 (omega arith) (omega arith);
  other = λ e. omega arith;
  level = refl;
  base = inr (refl, refl);
}

-- a closed set with a member holds both base triangles

-- with each member a closed set holds the base triangle above it
holds_base : (n : ℕ) (has : ℕ → Bool) → IsClosed n has → (steps a : ℕ) → a ≤ steps → IsTrue (has a) →
    IsTrue (has 2) ⊎ IsTrue (has 3)
holds_base n has closed zero a h is =
    let low : 2 ≤ a = (closed.splittable a is).low in absurd (omega arith)
holds_base n has closed (suc steps) a h is =
    let low : 2 ≤ a = (closed.splittable a is).low in
    ⊎_elim
    (λ below. inl (subst (λ b. IsTrue (has b)) (let e : a ≡ 2 = omega arith in e) is))
    (λ above. ⊎_elim
    (λ below. inr (subst (λ b. IsTrue (has b)) (let e : a ≡ 3 = omega arith in e) is))
    (λ far. holds_base n has closed steps (a / 2) (omega arith) (closed.parent a is far))
    (cases_lt a 4))
    (cases_lt a 3)

-- and with that its mate
holds_both : (n : ℕ) (has : ℕ → Bool) → IsClosed n has → (a : ℕ) → IsTrue (has a) →
    IsTrue (has 2) × IsTrue (has 3)
holds_both n has closed a is = ⊎_elim
    (λ (lower : IsTrue (has 2)). (lower, closed.mate 2 3 lower (IsMate-2 n)))
    (λ (upper : IsTrue (has 3)). (closed.mate 3 2 upper (IsMate-3 n), upper))
    (holds_base n has closed a a (omega arith) is)

-- how many leaves there are

-- two leaves at least where it is split
length-split-two : (b : Bool) (left right : List ℕ) (a : ℕ) → b ≡ true → 1 ≤ length left → 1 ≤ length right →
    2 ≤ length (elim b as (λ _. List ℕ) [ true ↦ left ++ right | false ↦ a ∷ [] ])
length-split-two true left right a e h k = omega (arith, length-append left right)
length-split-two false left right a e h k = absurd (false≢true e)

-- below each member there are two leaves
leaves-two : (levels : ℕ) (has : ℕ → Bool) (a : ℕ) → 0 < levels → IsTrue (has a) →
    2 ≤ length (leaves_under levels has a)
leaves-two zero has a h is = absurd (omega arith)
leaves-two (suc levels) has a h is =
    length-split-two (has a) (leaves_under levels has (2 * a)) (leaves_under levels has (2 * a + 1)) a is
    (leaves_under-some levels has (2 * a)) (leaves_under-some levels has (2 * a + 1))

-- a closed set that is not empty has more than two leaves
leaves-many : (n : ℕ) (has : ℕ → Bool) (a : ℕ) → 1 ≤ n → IsClosed n has → IsTrue (has a) →
    2 < length (leaves_of n has)
unfolding leaves_of
leaves-many n has a low closed is =
    let both : IsTrue (has 2) × IsTrue (has 3) = holds_both n has closed a is in
    let lower : 2 ≤ length (leaves_under (2 * n) has 2) = leaves-two (2 * n) has 2 (omega arith) both.0 in
    let upper : 2 ≤ length (leaves_under (2 * n) has 3) = leaves-two (2 * n) has 3 (omega arith) both.1 in
    omega (arith, length-append (leaves_under (2 * n) has 2) (leaves_under (2 * n) has 3))

-- the empty set

abbrev empty : ℕ → Bool
empty a = false

-- a triangle that is no member is its own leaf
leaves-one : (levels a : ℕ) → leaves_under levels empty a ≡ a ∷ []
leaves-one zero a = refl
leaves-one (suc levels) a = refl

-- the leaves of the empty set are 2 and 3
leaves-empty : (n : ℕ) → leaves_of n empty ≡ 2 ∷ (3 ∷ [])
unfolding leaves_of
leaves-empty n = ap₂ (λ (xs ys : List ℕ). xs ++ ys) (leaves-one (2 * n) 2) (leaves-one (2 * n) 3)

-- the empty set is closed
IsClosed-empty : (n : ℕ) → IsClosed n empty
IsClosed-empty n = nothing_closed n

-- so 2 and 3 are conforming
pub base_conforming : (n : ℕ) → IsConforming n (2 ∷ (3 ∷ []))
base_conforming n = subst (IsConforming n) (leaves-empty n) (IsConforming-leaves_of n empty (IsClosed-empty n))

-- no other list is as short

-- two entries of which one is 2 and one is 3
two_entries : (a b : ℕ) → IsIn 2 (a ∷ (b ∷ [])) → IsIn 3 (a ∷ (b ∷ [])) →
    (a ∷ (b ∷ []) ≡ 2 ∷ (3 ∷ [])) ⊎ (a ∷ (b ∷ []) ≡ 3 ∷ (2 ∷ []))
two_entries a b (inl e) (inl f) = absurd (omega arith)
two_entries a b (inl e) (inr (inl f)) = inl (ap₂ (λ (i j : ℕ). i ∷ (j ∷ [])) e f)
two_entries a b (inr (inl e)) (inl f) = inr (ap₂ (λ (i j : ℕ). i ∷ (j ∷ [])) f e)
two_entries a b (inr (inl e)) (inr (inl f)) = absurd (omega arith)
two_entries a b (inl e) (inr (inr f)) = absurd f
two_entries a b (inr (inl e)) (inr (inr f)) = absurd f
two_entries a b (inr (inr e)) f = absurd e

-- a list of two entries that has 2 and 3
only_two : (others : List ℕ) → length others ≡ 2 → IsIn 2 others → IsIn 3 others →
    (others ≡ 2 ∷ (3 ∷ [])) ⊎ (others ≡ 3 ∷ (2 ∷ []))
only_two [] two first second = absurd first
only_two (a ∷ []) two first second = absurd (omega arith)
only_two (a ∷ (b ∷ [])) two first second = two_entries a b first second
only_two (a ∷ (b ∷ (c ∷ rest))) two first second = absurd (omega arith)

-- a conforming list of at most two triangles is 2 and 3: the set of the proper ancestors of its entries is empty
pub only_base : (n : ℕ) → 1 ≤ n → (others : List ℕ) → IsConforming n others → length others ≤ 2 →
    (others ≡ 2 ∷ (3 ∷ [])) ⊎ (others ≡ 3 ∷ (2 ∷ []))
only_base n low others conforming short =
    let closed : IsClosed n (ancestors_of others) = IsClosed-ancestors_of n others conforming in
    let counts = (AreLeaves-ancestors_of n others conforming).counts in
    let as_long : length (leaves_of n (ancestors_of others)) ≡ length others =
    length-counts (leaves_of n (ancestors_of others)) others counts in
    let none : (a : ℕ) → ancestors_of others a ≡ false = λ a. false_from_ne_true (ancestors_of others a)
    (λ is. let many : 2 < length (leaves_of n (ancestors_of others)) =
    leaves-many n (ancestors_of others) a low closed is in omega arith) in
    let leaves : leaves_of n (ancestors_of others) ≡ 2 ∷ (3 ∷ []) =
    leaves_of-same n (ancestors_of others) empty none ∙ leaves-empty n in
    let two : length others ≡ 2 = let e = ap length leaves in omega arith in
    only_two others two (entry 2 others (leaves_of n (ancestors_of others)) (counts 2)
    (leaves_count 2 (leaves_of n (ancestors_of others)) leaves (inl refl)))
    (entry 3 others (leaves_of n (ancestors_of others)) (counts 3)
    (leaves_count 3 (leaves_of n (ancestors_of others)) leaves (inr (inl refl))))
  where
    leaves_count : (a : ℕ) (xs : List ℕ) → xs ≡ 2 ∷ (3 ∷ []) → IsIn a (2 ∷ (3 ∷ [])) → 1 ≤ count_by (λ t. eqb t a) xs
    leaves_count a xs e h = subst (λ (l : List ℕ). 1 ≤ count_by (λ t. eqb t a) l) (sym e)
        (count-some (λ t. eqb t a) a (2 ∷ (3 ∷ [])) h (eq-eqb a a refl))

    entry : (a : ℕ) (ys xs : List ℕ) → count_by (λ t. eqb t a) xs ≡ count_by (λ t. eqb t a) ys →
        1 ≤ count_by (λ t. eqb t a) xs → IsIn a ys
    entry a ys xs same some =
        let found : (t : ℕ) × IsIn t ys × (eqb t a ≡ true) = some-count (λ t. eqb t a) ys (omega arith) in
        subst (λ t. IsIn t ys) (eqb-true found.0 a found.2) found.1

-- it is the closure of the empty prefix
IsPrefixClosure-empty : (n : ℕ) (ranking : List ℕ) → IsPrefixClosure n ranking 0 empty
IsPrefixClosure-empty n ranking = nothing_least n (among (take 0 ranking)) (λ a. refl)

-- a prefix that is not empty has a first triangle
among-first : (k : ℕ) (ranking : List ℕ) → 0 < k → k ≤ length ranking →
    (a : ℕ) × IsTrue (among (take k ranking) a)
among-first zero ranking h fits = absurd (omega arith)
among-first (suc k) [] h fits = absurd (omega arith)
among-first (suc k) (a ∷ ranking) h fits =
    (a, or_left (eqb a a) (list_any (λ t. eqb t a) (take k ranking)) (eq-eqb a a refl))

-- it is the rank closure for a budget of 2
IsRankClosure-empty : (n : ℕ) (ranking : List ℕ) → 1 ≤ n → IsRankClosure n 2 ranking 0 empty
IsRankClosure-empty n ranking low = record {
  prefix = omega arith;
  closure = IsPrefixClosure-empty n ranking;
  fits = omega (arith, ap length (leaves-empty n));
  longest = λ k other more fits prefix.
      let first = among-first k ranking more fits in
      leaves-many n other first.0 low prefix.closed (prefix.holds first.0 first.1);
}

-- greedy refinement with a budget of 2 ends where it begins
IsGreedyEnd-empty : (n : ℕ) (priority : ℕ → ℕ) → 1 ≤ n → IsGreedyEnd n 2 priority empty
IsGreedyEnd-empty n priority low = record {
  reached = (zero, λ a. refl);
  stops = λ next step.
      let f : ℕ = step.split.0 in
      let closure : IsLeastClosed n (with_triangle empty f) next = step.split.2 in
      leaves-many n next f low closure.closed (closure.holds f (eq-eqb f f refl));
}

-- the promise

-- in either order the worst is the same
worst-least : (priority : ℕ → ℕ) (others : List ℕ) →
    (others ≡ 2 ∷ (3 ∷ [])) ⊎ (others ≡ 3 ∷ (2 ∷ [])) → worst_of priority (2 ∷ (3 ∷ [])) ≤ worst_of priority others
worst-least priority others (inl e) =
    subst (λ l. worst_of priority (2 ∷ (3 ∷ [])) ≤ worst_of priority l) (sym e) (omega arith)
worst-least priority others (inr e) =
    subst (λ l. worst_of priority (2 ∷ (3 ∷ [])) ≤ worst_of priority l) (sym e) (omega arith)

-- the two base triangles are the best mesh of budget 2
pub base_best : (n : ℕ) → 1 ≤ n → (priority : ℕ → ℕ) → IsBestMesh n 2 priority (2 ∷ (3 ∷ []))
base_best n low priority = record {
  conforming = base_conforming n;
  within = omega arith;
  optimal = λ others conforming short. worst-least priority others (only_base n low others conforming short);
  greedy = record {
    ranking = ranking_of n priority;
    chosen = 0;
    has = empty;
    ranked = IsRanking-of n priority;
    closure = IsRankClosure-empty n (ranking_of n priority) low;
    refined = IsGreedyEnd-empty n priority low;
    leaves = sym (leaves-empty n);
  };
}
