-- Rank closures and greedy refinement over falling priorities: they end at the same set, and it is the best.
use Rattle.std.proofs.Common.{◌≡◌, ℕ, zero, suc, ◌+◌, ◌*◌, ◌/◌, ◌<◌, ◌≤◌, ◌⊎◌, inl, inr, Bool, false, List, [], ◌∷◌}
use Rattle.std.proofs.Common.{length, take, get_or, Contains, IsTrue, Some, slice_get, refl, sym, ◌∙◌, ap, subst, arith}
use Rattle.std.proofs.Common.{⊎_elim}
use Rattle.std.proofs.lemmas.Bool.{cases_lt, cases_order, cases_eq, cases_Bool, false≢true, both_ways}
use Rattle.std.proofs.lemmas.List.Elements.{All-contains}
use Rattle.mesh_defs.specs.Triangle.{level_of, IsAddress, IsSplittable}
use Rattle.mesh_defs.specs.Tiling.{IsConforming}
use Rattle.mesh_defs.specs.ClosedSet.{IsClosed, IsSubset, IsLeastClosed, leaves_of, among}
use Rattle.mesh_defs.specs.Priority.{worst_of}
use Rattle.mesh_defs.specs.Ranking.{RanksBefore, IsRanking, IsPrefixClosure, IsRankClosure, IsBlockedBy}
use Rattle.mesh_defs.specs.Greedy.{IsFirstLeaf, with_triangle, IsReachedIn, IsGreedyEnd}
use Rattle.mesh_defs.specs.BestMesh.{IsBestMesh}
use Rattle.bintree_laws.proofs.LevelLemmas.{level-le}
use Rattle.mesh_laws.proofs.RankingLemmas.{ranking_of, IsRanking-of}
use Rattle.mesh_laws.specs.Ancestors.{ancestors_of}
use Rattle.mesh_defs.specs.Falling.{IsFalling}
use Rattle.mesh_laws.proofs.DescentLemmas.{IsAddress-splittable}
use Rattle.mesh_laws.proofs.ConformityLemmas.{IsUnder, self, below, IsConforming-leaves_of}
use Rattle.mesh_defs.proofs.OrderLemmas.{not_both_before}
use Rattle.mesh_defs.proofs.ListLemmas.{IsIn, Contains-in, IsIn-among, among-in, length-counts}
use Rattle.mesh_laws.proofs.ConverseLemmas.{IsCovered, member_or_covered, IsClosed-ancestors_of}
use Rattle.mesh_laws.proofs.ConverseLemmas.{AreLeaves-ancestors_of, IsAddress-parent}
use Rattle.mesh_laws.proofs.ForcingLemmas.{with-cases, with-old, with-new}
use Rattle.mesh_defs.proofs.WorstLemmas.{worst-le, le-worst}
use Rattle.mesh_laws.proofs.ClosureLemmas.{nothing_least, IsSubset-closures, IsLeastClosed-unique}
use Rattle.mesh_laws.proofs.ClosureLemmas.{IsLeastClosed-same, closure_of, leaves_of-same, leaves_of-more}
use Rattle.mesh_laws.proofs.ClosureLemmas.{leaves_of-none, IsOuter, IsOuter-leaves_of, leaf-outer}

-- rank closures are unique

-- the number of chosen triangles is determined
chosen_unique : (n budget : ℕ) (ranking : List ℕ) (i j : ℕ) (has other : ℕ → Bool) →
    IsRankClosure n budget ranking i has → IsRankClosure n budget ranking j other → i ≡ j
chosen_unique n budget ranking i j has other p q = ⊎_elim
    (λ same. same)
    (λ differ. ⊎_elim
    (λ less. let h = p.longest j other less q.prefix q.closure in let f = q.fits in absurd (omega arith))
    (λ more. let h = q.longest i has more p.prefix p.closure in let f = p.fits in absurd (omega arith))
    differ)
    (cases_order i j)

-- and so is the set
pub IsRankClosure-unique : (n budget : ℕ) (ranking : List ℕ) (i j : ℕ) (has other : ℕ → Bool) →
    IsRankClosure n budget ranking i has → IsRankClosure n budget ranking j other →
    (i ≡ j) × ((a : ℕ) → has a ≡ other a)
IsRankClosure-unique n budget ranking i j has other p q =
    let same = chosen_unique n budget ranking i j has other p q in (
      same,
      IsLeastClosed-unique n (among (take i ranking)) has other p.closure
          (subst (λ k. IsPrefixClosure n ranking k other) (sym same) q.closure),
    )

-- prefixes of a ranking

-- a prefix's entries by their places
pub in_prefix : (k a : ℕ) (xs : List ℕ) → IsIn a (take k xs) → (i : ℕ) × (i < k) × (i < length xs) × (get_or xs i 0 ≡ a)
in_prefix zero a xs h = absurd h
in_prefix (suc k) a [] h = absurd h
in_prefix (suc k) a (x ∷ xs) (inl e) = (zero, omega arith, omega arith, e)
in_prefix (suc k) a (x ∷ xs) (inr h) =
    let r : (i : ℕ) × (i < k) × (i < length xs) × (get_or xs i 0 ≡ a) = in_prefix k a xs h in
    (suc r.0, (let b = r.1 in omega arith), (let b = r.2 in omega arith), r.3)

-- an early entry is in the prefix
pub prefix_in : (k i : ℕ) (xs : List ℕ) → i < k → i < length xs → IsIn (get_or xs i 0) (take k xs)
prefix_in zero i xs h b = absurd (omega arith)
prefix_in (suc k) i [] h b = absurd (omega arith)
prefix_in (suc k) zero (x ∷ xs) h b = inl refl
prefix_in (suc k) (suc i) (x ∷ xs) h b = inr (prefix_in k i xs (omega arith) (omega arith))

-- an entry by its place
place_in : (a : ℕ) (xs : List ℕ) → Contains xs a → (i : ℕ) × (i < length xs) × (get_or xs i 0 ≡ a)
place_in a [] h = absurd (let b = h.1 in omega arith)
place_in a (x ∷ xs) (zero, b, e) = (zero, b, e)
place_in a (x ∷ xs) (suc k, b, e) =
    let r : (i : ℕ) × (i < length xs) × (get_or xs i 0 ≡ a) = place_in a xs (k, omega arith, e) in
    (suc r.0, (let c = r.1 in omega arith), r.2)

-- what stands at a place is an entry
pub at_place : (i : ℕ) (xs : List ℕ) → i < length xs → Contains xs (get_or xs i 0)
at_place i [] b = absurd (omega arith)
at_place zero (x ∷ xs) b = (zero, b, refl)
at_place (suc i) (x ∷ xs) b =
    let r : Contains xs (get_or xs i 0) = at_place i xs (omega arith) in (suc r.0, (let c = r.1 in omega arith), r.2)

-- what is read at a place
pub slice_get-at : (i : ℕ) (xs : List ℕ) → i < length xs → slice_get xs i ≡ Some (get_or xs i 0)
slice_get-at i [] b = absurd (omega arith)
slice_get-at zero (x ∷ xs) b = refl
slice_get-at (suc i) (x ∷ xs) b = slice_get-at i xs (omega arith)

-- a longer prefix holds more
pub prefix-longer : (xs : List ℕ) (k j : ℕ) → k ≤ j → IsSubset (among (take k xs)) (among (take j xs))
prefix-longer xs k j le a h =
    let r = in_prefix k a xs (IsIn-among a (take k xs) h) in
    among-in a (take j xs) (subst (λ z. IsIn z (take j xs)) r.3 (prefix_in j r.0 xs (let b = r.1 in omega arith) r.2))

-- the prefix before the first entry that is no member

-- the first k entries are members
abbrev pub HoldsBelow : (ℕ → Bool) → List ℕ → ℕ → Type 0
HoldsBelow has xs k = (i : ℕ) → i < k → i < length xs → IsTrue (has (get_or xs i 0))

-- a first entry that is no member
abbrev pub HasMissing : (ℕ → Bool) → List ℕ → Type 0
HasMissing has xs = (j : ℕ) × (j < length xs) × (has (get_or xs j 0) ≡ false) × HoldsBelow has xs j

-- the first k are members, or some entry is missing
pub first_missing : (has : ℕ → Bool) (xs : List ℕ) (k : ℕ) → k ≤ length xs → HoldsBelow has xs k ⊎ HasMissing has xs
first_missing has xs zero le = inl (λ i h. absurd (omega arith))
first_missing has xs (suc k) le = ⊎_elim
    (λ (all : HoldsBelow has xs k). ⊎_elim
    (λ member. inl (λ i h b. ⊎_elim
    (λ less. all i less b)
    (λ last. subst (λ z. IsTrue (has (get_or xs z 0))) (let e : k ≡ i = omega arith in e) member)
    (cases_lt i k)))
    (λ other. inr (k, omega arith, other, all))
    (cases_Bool (has (get_or xs k 0))))
    (λ missing. inr missing)
    (first_missing has xs k (omega arith))

-- the closure of a prefix is that of each prefix between it and the first missing entry
prefix-up : (n : ℕ) (xs : List ℕ) (has : ℕ → Bool) (k j : ℕ) → IsPrefixClosure n xs k has → k ≤ j →
    HoldsBelow has xs j → IsPrefixClosure n xs j has
prefix-up n xs has k j p le all = record {
  closed = p.closed;
  holds = λ a h.
      let r = in_prefix j a xs (IsIn-among a (take j xs) h) in
      subst (λ z. IsTrue (has z)) r.3 (all r.0 r.1 r.2);
  least = λ other c holds. p.least other c (λ a h. holds a (prefix-longer xs k j le a h));
}

-- the prefix ends before the first missing entry
prefix-le : (n : ℕ) (xs : List ℕ) (has : ℕ → Bool) (k : ℕ) → IsPrefixClosure n xs k has →
    (m : HasMissing has xs) → k ≤ m.0
prefix-le n xs has k p m = ⊎_elim
    (λ past. absurd (both_ways (has (get_or xs m.0 0)) m.2 (p.holds (get_or xs m.0 0)
    (among-in (get_or xs m.0 0) (take k xs) (prefix_in k m.0 xs past m.1)))))
    (λ within. within)
    (cases_lt m.0 k)

-- one entry more
pub prefix-next : (n : ℕ) (xs : List ℕ) (has next : ℕ → Bool) (j : ℕ) → j < length xs → IsPrefixClosure n xs j has →
    IsLeastClosed n (with_triangle has (get_or xs j 0)) next → IsPrefixClosure n xs (j + 1) next
prefix-next n xs has next j within p q = record {
  closed = q.closed;
  holds = λ a h. let r = in_prefix (j + 1) a xs (IsIn-among a (take (j + 1) xs) h) in ⊎_elim
      (λ less. q.holds a (with-old has (get_or xs j 0) a
      (p.holds a (among-in a (take j xs) (subst (λ z. IsIn z (take j xs)) r.3 (prefix_in j r.0 xs less r.2))))))
      (λ last. let e : j ≡ r.0 = (let b = r.1 in omega arith) in
      subst (λ z. IsTrue (next z)) (ap (λ i. get_or xs i 0) e ∙ r.3)
      (q.holds (get_or xs j 0) (with-new has (get_or xs j 0))))
      (cases_lt r.0 j);
  least = λ other c holds. q.least other c (λ a h. ⊎_elim
      (λ old. p.least other c (λ b k. holds b (prefix-longer xs j (j + 1) (omega arith) b k)) a old)
      (λ same. subst (λ z. IsTrue (other z)) same
      (holds (get_or xs j 0)
      (among-in (get_or xs j 0) (take (j + 1) xs) (prefix_in (j + 1) j xs (omega arith) within))))
      (with-cases has (get_or xs j 0) a h));
}

-- falling priorities

module _ (n : ℕ) (priority : ℕ → ℕ) (falling : IsFalling n priority) where
  -- what lies below has no greater priority
  pub priority-under : (v u : ℕ) → IsAddress n u → IsUnder v u → priority u ≤ priority v
  priority-under v u address self = omega arith
  priority-under v u address (below w big k) =
      let falls = falling.child w address big in
      let rest : priority (w / 2) ≤ priority v = priority-under v (w / 2) (IsAddress-parent n w address big) k in
      omega arith

  -- an address of positive priority is splittable
  pub splittable-positive : (a : ℕ) → IsAddress n a → 0 < priority a → IsSplittable n a
  splittable-positive a address some = ⊎_elim
      (λ coarse. record { low = address.low; coarse = coarse })
      (λ fine.
      let fits = level-le n a address in
      let none = falling.finest a address (omega arith) in
      absurd (omega arith))
      (cases_lt (level_of a) (2 * n))

-- greedy refinement

module _ (n : ℕ) (priority : ℕ → ℕ) (ranking : List ℕ) (ranked : IsRanking n priority ranking)
    (falling : IsFalling n priority) where
  -- an entry is splittable and has a positive priority
  pub entry : (i : ℕ) → i < length ranking → IsSplittable n (get_or ranking i 0) × (0 < priority (get_or ranking i 0))
  entry i b = (ranked.members (get_or ranking i 0)).0 (at_place i ranking b)

  -- where an address of positive priority stands
  pub place_of : (a : ℕ) → IsAddress n a → 0 < priority a → (i : ℕ) × (i < length ranking) × (get_or ranking i 0 ≡ a)
  place_of a address some =
      place_in a ranking ((ranked.members a).1 (splittable-positive n priority falling a address some, some))

  -- the first missing entry is a leaf
  missing_leaf : (has : ℕ → Bool) → IsClosed n has → (m : HasMissing has ranking) → IsOuter n has (get_or ranking m.0 0)
  missing_leaf has closed m =
      let t : ℕ = get_or ranking m.0 0 in
      let e : IsSplittable n t × (0 < priority t) = entry m.0 m.1 in
      let address : IsAddress n t = IsAddress-splittable n t e.0 in
      record {
        address = address;
        outside = λ is. both_ways (has t) m.2 is;
        parent = λ big. parent_member t address e.1 big refl;
      }
    where
      parent_member : (t : ℕ) → IsAddress n t → 0 < priority t → 4 ≤ t → t ≡ get_or ranking m.0 0 → IsTrue (has (t / 2))
      parent_member t address some big is =
          let falls : priority t ≤ priority (t / 2) = falling.child t address big in
          let p = place_of (t / 2) (IsAddress-parent n t address big) (omega arith) in
          let first : RanksBefore priority (t / 2) t = ⊎_elim
          (λ more. inl more)
          (λ same. inr (omega arith, omega arith))
          (cases_lt (priority t) (priority (t / 2))) in
          ⊎_elim
          (λ early. subst (λ z. IsTrue (has z)) p.2 (m.3 p.0 early p.1))
          (λ late. absurd (⊎_elim
          (λ later. not_both_before priority (t / 2) t first
          (subst (λ z. RanksBefore priority t z) p.2
          (subst (λ z. RanksBefore priority z (get_or ranking p.0 0)) (sym is) (ranked.ordered m.0 p.0 0 later p.1))))
          (λ same. let e : m.0 ≡ p.0 = omega arith in
          let f : t ≡ t / 2 = is ∙ ap (λ i. get_or ranking i 0) e ∙ p.2 in omega arith)
          (cases_lt m.0 p.0)))
          (cases_lt p.0 m.0)

  -- and it is the first leaf in rank
  pub missing_first : (has : ℕ → Bool) → IsClosed n has → (m : HasMissing has ranking) →
      IsFirstLeaf n priority has (get_or ranking m.0 0)
  missing_first has closed m = record {
    leaf = Contains-in (get_or ranking m.0 0) (leaves_of n has)
        (leaf-outer n has (get_or ranking m.0 0) closed (missing_leaf has closed m));
    positive = (entry m.0 m.1).1;
    first = λ a leaf some other.
        let outer = All-contains (IsOuter n has) (leaves_of n has) a (IsOuter-leaves_of n has closed) leaf in
        let p = place_of a outer.address some in
        ⊎_elim
        (λ early. absurd (outer.outside (subst (λ z. IsTrue (has z)) p.2 (m.3 p.0 early p.1))))
        (λ late. ⊎_elim
        (λ later. subst (λ z. RanksBefore priority (get_or ranking m.0 0) z) p.2 (ranked.ordered m.0 p.0 0 later p.1))
        (λ same. let e : p.0 ≡ m.0 = omega arith in absurd (other (sym p.2 ∙ ap (λ i. get_or ranking i 0) e)))
        (cases_lt m.0 p.0))
        (cases_lt p.0 m.0);
  }

  -- a first leaf in rank is the first missing entry
  pub first_is_missing : (has : ℕ → Bool) → IsClosed n has → (f : ℕ) → IsFirstLeaf n priority has f →
      (m : HasMissing has ranking) × (get_or ranking m.0 0 ≡ f)
  first_is_missing has closed f first =
      let outer = All-contains (IsOuter n has) (leaves_of n has) f (IsOuter-leaves_of n has closed) first.leaf in
      let p = place_of f outer.address first.positive in
      ⊎_elim
      (λ (all : HoldsBelow has ranking (length ranking)).
      absurd (outer.outside (subst (λ z. IsTrue (has z)) p.2 (all p.0 p.1 p.1))))
      (λ (m : HasMissing has ranking). (
        m,
        ⊎_elim
            (λ same. same)
            (λ other. absurd (not_both_before priority f (get_or ranking m.0 0)
            (first.first (get_or ranking m.0 0) (missing_first has closed m).leaf
            (missing_first has closed m).positive other)
            ((missing_first has closed m).first f first.leaf first.positive (λ e. other (sym e)))))
            (cases_eq (get_or ranking m.0 0) f),
      ))
      (first_missing has ranking (length ranking) (omega arith))

  -- each set that is reached is the closure of a prefix
  reached_prefix : (budget steps : ℕ) (has : ℕ → Bool) → IsReachedIn steps n priority budget has →
      (k : ℕ) × (k ≤ length ranking) × IsPrefixClosure n ranking k has
  reached_prefix budget zero has none = (
    zero,
    omega arith,
    record {
      closed = record {
        splittable = λ a h. absurd (both_ways (has a) (none a) h);
        parent = λ a h. absurd (both_ways (has a) (none a) h);
        mate = λ a b h. absurd (both_ways (has a) (none a) h);
      };
      holds = λ a h. absurd (false≢true h);
      least = λ other c holds a h. absurd (both_ways (has a) (none a) h);
    },
  )
  reached_prefix budget (suc steps) has r =
      let before : ℕ → Bool = r.0 in
      let prefix = reached_prefix budget steps before r.1 in
      let f : ℕ = r.2.split.0 in
      let found = first_is_missing before prefix.2.closed f r.2.split.1 in
      let m : HasMissing before ranking = found.0 in
      let up =
      prefix-up n ranking before prefix.0 m.0 prefix.2 (prefix-le n ranking before prefix.0 prefix.2 m) m.3 in (
        m.0 + 1,
        (let b = m.1 in omega arith),
        prefix-next n ranking before has m.0 m.1 up
            (subst (λ z. IsLeastClosed n (with_triangle before z) has) (sym found.1) r.2.split.2),
      )

  -- each set that is reached is within the budget
  reached_fits : (budget steps : ℕ) (has : ℕ → Bool) → 2 ≤ budget → IsReachedIn steps n priority budget has →
      length (leaves_of n has) ≤ budget
  reached_fits budget zero has low none = let e = leaves_of-none n has none in omega arith
  reached_fits budget (suc steps) has low r = r.3

  -- the end by its first missing entry
  closure-missing : (budget : ℕ) (has : ℕ → Bool) → 2 ≤ budget → IsGreedyEnd n budget priority has →
      (m : HasMissing has ranking) → IsRankClosure n budget ranking m.0 has
  closure-missing budget has low end m =
      let prefix = reached_prefix budget end.reached.0 has end.reached.1 in
      let up = prefix-up n ranking has prefix.0 m.0 prefix.2 (prefix-le n ranking has prefix.0 prefix.2 m) m.3 in
      let t : ℕ = get_or ranking m.0 0 in
      let next = closure_of n has t up.closed (entry m.0 m.1).0 in
      record {
        prefix = let b = m.1 in omega arith;
        closure = up;
        fits = reached_fits budget end.reached.0 has low end.reached.1;
        longest = λ k other more within closure.
            let over = end.stops next.0 record { split = (t, missing_first has up.closed m, next.1) } in
            let least = prefix-next n ranking has next.0 m.0 m.1 up next.1 in
            let sub = IsSubset-closures n (among (take (m.0 + 1) ranking)) (among (take k ranking)) next.0 other
            (prefix-longer ranking (m.0 + 1) k (omega arith)) least closure in
            let count = leaves_of-more n next.0 other sub in
            omega arith;
      }

  -- the end where no entry is missing
  closure-whole : (budget : ℕ) (has : ℕ → Bool) → 2 ≤ budget → IsGreedyEnd n budget priority has →
      HoldsBelow has ranking (length ranking) →
      IsRankClosure n budget ranking (length ranking) has
  closure-whole budget has low end all =
      let prefix = reached_prefix budget end.reached.0 has end.reached.1 in
      record {
        prefix = omega arith;
        closure = prefix-up n ranking has prefix.0 (length ranking) prefix.2 prefix.1 all;
        fits = reached_fits budget end.reached.0 has low end.reached.1;
        longest = λ k other more within. absurd (omega arith);
      }

  -- greedy refinement ends at the rank closure
  pub IsRankClosure-greedy : (budget : ℕ) (has : ℕ → Bool) → 2 ≤ budget → IsGreedyEnd n budget priority has →
      (chosen : ℕ) × IsRankClosure n budget ranking chosen has
  IsRankClosure-greedy budget has low end = ⊎_elim
      (λ (all : HoldsBelow has ranking (length ranking)). (length ranking, closure-whole budget has low end all))
      (λ (m : HasMissing has ranking). (m.0, closure-missing budget has low end m))
      (first_missing has ranking (length ranking) (omega arith))

  -- the first leaf in rank at the end blocks
  pub IsBlockedBy-greedy : (budget chosen : ℕ) (has next : ℕ → Bool) (f : ℕ) → 2 ≤ budget →
      IsGreedyEnd n budget priority has →
      IsRankClosure n budget ranking chosen has → IsFirstLeaf n priority has f →
      IsLeastClosed n (with_triangle has f) next →
      IsBlockedBy n ranking chosen f (length (leaves_of n next))
  IsBlockedBy-greedy budget chosen has next f low end closure first least =
      let found = first_is_missing has closure.closure.closed f first in
      let m : HasMissing has ranking = found.0 in
      let at : IsRankClosure n budget ranking m.0 has = closure-missing budget has low end m in
      let same : m.0 ≡ chosen = (IsRankClosure-unique n budget ranking m.0 chosen has has at closure).0 in
      let step = prefix-next n ranking has next m.0 m.1 at.closure
      (subst (λ z. IsLeastClosed n (with_triangle has z) next) (sym found.1) least) in
      record {
        next = ap (λ i. slice_get ranking i) (sym same) ∙ slice_get-at m.0 ranking m.1 ∙ ap (λ z. Some z) found.1;
        counted = (next, subst (λ i. IsPrefixClosure n ranking (i + 1) next) same step, refl);
      }

  -- where a triangle blocks, there is a first leaf
  pub first_leaf-blocked : (budget chosen : ℕ) (has : ℕ → Bool) → IsRankClosure n budget ranking chosen has →
      chosen < length ranking →
      2 ≤ budget → IsGreedyEnd n budget priority has → IsFirstLeaf n priority has (get_or ranking chosen 0)
  first_leaf-blocked budget chosen has closure less low end = ⊎_elim
      (λ (all : HoldsBelow has ranking (length ranking)).
      let same = (IsRankClosure-unique n budget ranking (length ranking) chosen has has
      (closure-whole budget has low end all) closure).0 in
      absurd (omega arith))
      (λ (m : HasMissing has ranking).
      let same =
      (IsRankClosure-unique n budget ranking m.0 chosen has has (closure-missing budget has low end m) closure).0 in
      subst (λ i. IsFirstLeaf n priority has (get_or ranking i 0)) same (missing_first has closure.closure.closed m))
      (first_missing has ranking (length ranking) (omega arith))

  -- from the rank closure

  -- the empty set is the closure of the empty prefix
  nothing_prefix : IsPrefixClosure n ranking 0 (λ _. false)
  nothing_prefix = nothing_least n (among (take 0 ranking)) (λ a. refl)

  -- a prefix's entries are members of its closure
  prefix_holds : (k : ℕ) (has : ℕ → Bool) → IsPrefixClosure n ranking k has → HoldsBelow has ranking k
  prefix_holds k has p i less within =
      p.holds (get_or ranking i 0) (among-in (get_or ranking i 0) (take k ranking) (prefix_in k i ranking less within))

  -- a set that is reached and is the closure of the first k
  record IsReachedFront (budget k : ℕ) : Type 0 where
    set : ℕ → Bool
    steps : ℕ
    reached : IsReachedIn steps n priority budget set
    prefix : IsPrefixClosure n ranking k set

  -- each prefix within the budget is reached
  reached_prefixes : (budget chosen : ℕ) (has : ℕ → Bool) → IsPrefixClosure n ranking chosen has →
      chosen ≤ length ranking → length (leaves_of n has) ≤ budget →
      (k : ℕ) → k ≤ chosen → IsReachedFront budget k
  reached_prefixes budget chosen has p within fits zero le =
      record { set = λ _. false; steps = zero; reached = λ a. refl; prefix = nothing_prefix }
  reached_prefixes budget chosen has p within fits (suc k) le =
      let r : IsReachedFront budget k = reached_prefixes budget chosen has p within fits k (omega arith) in
      ⊎_elim
      (λ member. record {
        set = r.set;
        steps = r.steps;
        reached = r.reached;
        prefix = prefix-up n ranking r.set k (suc k) r.prefix (omega arith) (λ i less b. ⊎_elim
            (λ early. prefix_holds k r.set r.prefix i early b)
            (λ last. subst (λ z. IsTrue (r.set (get_or ranking z 0))) (let e : k ≡ i = omega arith in e) member)
            (cases_lt i k));
      })
      (λ other.
      let m : HasMissing r.set ranking = (k, omega arith, other, prefix_holds k r.set r.prefix) in
      let next = closure_of n r.set (get_or ranking k 0) r.prefix.closed (entry k (omega arith)).0 in
      let step : IsPrefixClosure n ranking (k + 1) next.0 =
      prefix-next n ranking r.set next.0 k (omega arith) r.prefix next.1 in
      let sub = IsSubset-closures n (among (take (k + 1) ranking)) (among (take chosen ranking)) next.0 has
      (prefix-longer ranking (k + 1) chosen (omega arith)) step p in
      let count = leaves_of-more n next.0 has sub in
      record {
        set = next.0;
        steps = suc r.steps;
        reached = (
          r.set,
          r.reached,
          record { split = (get_or ranking k 0, missing_first r.set r.prefix.closed m, next.1) },
          omega arith,
        );
        prefix = subst (λ z. IsPrefixClosure n ranking z next.0) (let e : k + 1 ≡ suc k = omega arith in e) step;
      })
      (cases_Bool (r.set (get_or ranking k 0)))

  -- a test that agrees with one that is reached is reached
  reached-same : (budget steps : ℕ) (has other : ℕ → Bool) → ((a : ℕ) → has a ≡ other a) →
      IsReachedIn steps n priority budget has →
      IsReachedIn steps n priority budget other
  reached-same budget zero has other same none = λ a. sym (same a) ∙ none a
  reached-same budget (suc steps) has other same r = (
    r.0,
    r.1,
    record {
      split =
          (r.2.split.0, r.2.split.1, IsLeastClosed-same n (with_triangle r.0 r.2.split.0) has other same r.2.split.2);
    },
    subst (λ (l : List ℕ). length l ≤ budget) (leaves_of-same n has other same) r.3,
  )

  -- the rank closure is where greedy refinement ends
  pub IsGreedyEnd-closure : (budget chosen : ℕ) (has : ℕ → Bool) → IsRankClosure n budget ranking chosen has →
      IsGreedyEnd n budget priority has
  IsGreedyEnd-closure budget chosen has p =
      let r = reached_prefixes budget chosen has p.closure p.prefix p.fits chosen (omega arith) in
      let same = IsLeastClosed-unique n (among (take chosen ranking)) r.set has r.prefix p.closure in
      record {
        reached = (r.steps, reached-same budget r.steps r.set has same r.reached);
        stops = λ next step.
            let found = first_is_missing has p.closure.closed step.split.0 step.split.1 in
            let m : HasMissing has ranking = found.0 in
            let le = prefix-le n ranking has chosen p.closure m in
            let up = prefix-up n ranking has chosen m.0 p.closure le m.3 in
            let least = prefix-next n ranking has next m.0 m.1 up
            (subst (λ z. IsLeastClosed n (with_triangle has z) next) (sym found.1) step.split.2) in
            p.longest (m.0 + 1) next (omega arith) (let b = m.1 in omega arith) least;
      }

  -- the best mesh

  -- no leaf has a greater priority than the first missing entry
  leaf-le : (has : ℕ → Bool) → IsClosed n has → (m : HasMissing has ranking) → (a : ℕ) → IsIn a (leaves_of n has) →
      priority a ≤ priority (get_or ranking m.0 0)
  leaf-le has closed m a leaf = ⊎_elim
      (λ none. omega arith)
      (λ some. ⊎_elim
      (λ same. let e = ap priority same in omega arith)
      (λ other. no_less (get_or ranking m.0 0)
      ((missing_first has closed m).first a (Contains-in a (leaves_of n has) leaf) some (λ e. other (sym e))))
      (cases_eq (get_or ranking m.0 0) a))
      (cases_lt (priority a) 1)
    where
      no_less : (t : ℕ) → RanksBefore priority t a → priority a ≤ priority t
      no_less t (inl h) = omega arith
      no_less t (inr h) = omega arith

  -- where none is missing, each leaf has priority 0
  leaf-none : (has : ℕ → Bool) → IsClosed n has → HoldsBelow has ranking (length ranking) → (a : ℕ) →
      IsIn a (leaves_of n has) → priority a ≤ 0
  leaf-none has closed all a leaf =
      let outer = All-contains (IsOuter n has) (leaves_of n has) a (IsOuter-leaves_of n has closed)
      (Contains-in a (leaves_of n has) leaf) in
      ⊎_elim
      (λ none. omega arith)
      (λ some.
      let p = place_of a outer.address some in
      absurd (outer.outside (subst (λ z. IsTrue (has z)) p.2 (all p.0 p.1 p.1))))
      (cases_lt (priority a) 1)

  -- a conforming list whose worst is less than an entry has all up to it split
  prefix_split : (others : List ℕ) → IsConforming n others → (j : ℕ) → j < length ranking →
      worst_of priority others < priority (get_or ranking j 0) →
      IsSubset (among (take (j + 1) ranking)) (ancestors_of others)
  prefix_split others conforming j within better a h =
      let r = in_prefix (j + 1) a ranking (IsIn-among a (take (j + 1) ranking) h) in
      let e = entry r.0 r.2 in
      let u : ℕ = get_or ranking r.0 0 in
      let high : priority (get_or ranking j 0) ≤ priority (get_or ranking r.0 0) = ⊎_elim
      (λ less. no_less r.0 (ranked.ordered r.0 j 0 less within))
      (λ last.
      let f : priority (get_or ranking r.0 0) ≡ priority (get_or ranking j 0) =
      ap (λ i. priority (get_or ranking i 0)) (let g : r.0 ≡ j = (let b = r.1 in omega arith) in g) in
      omega arith)
      (cases_lt r.0 j) in
      subst (λ z. IsTrue (ancestors_of others z)) r.3
      (⊎_elim
      (λ member. member)
      (λ (c : IsCovered n others conforming (get_or ranking r.0 0)).
      let over = priority-under n priority falling c.entry (get_or ranking r.0 0)
      (IsAddress-splittable n (get_or ranking r.0 0) e.0) c.under in
      let worst = le-worst priority c.entry others c.listed in absurd (omega arith))
      (member_or_covered n others conforming (get_or ranking r.0 0)
      (IsAddress-splittable n (get_or ranking r.0 0) e.0)))
    where
      no_less : (i : ℕ) → RanksBefore priority (get_or ranking i 0) (get_or ranking j 0) →
          priority (get_or ranking j 0) ≤ priority (get_or ranking i 0)
      no_less i (inl h) = omega arith
      no_less i (inr h) = omega arith

  -- no conforming list within the budget has a lower worst
  optimal : (budget : ℕ) (has : ℕ → Bool) → 2 ≤ budget → IsGreedyEnd n budget priority has →
      (others : List ℕ) → IsConforming n others →
      length others ≤ budget → worst_of priority (leaves_of n has) ≤ worst_of priority others
  optimal budget has low end others conforming short =
      let closure = IsRankClosure-greedy budget has low end in
      let closed : IsClosed n has = closure.1.closure.closed in
      ⊎_elim
      (λ (all : HoldsBelow has ranking (length ranking)).
      let none = worst-le priority 0 (leaves_of n has) (leaf-none has closed all) in
      omega arith)
      (λ (m : HasMissing has ranking).
      let top = worst-le priority (priority (get_or ranking m.0 0)) (leaves_of n has) (leaf-le has closed m) in
      ⊎_elim
      (λ better.
      let at = closure-missing budget has low end m in
      let next = closure_of n has (get_or ranking m.0 0) closed (entry m.0 m.1).0 in
      let over = end.stops next.0 record { split = (get_or ranking m.0 0, missing_first has closed m, next.1) } in
      let step = prefix-next n ranking has next.0 m.0 m.1 at.closure next.1 in
      let sub = step.least (ancestors_of others) (IsClosed-ancestors_of n others conforming)
      (prefix_split others conforming m.0 m.1 better) in
      let count = leaves_of-more n next.0 (ancestors_of others) sub in
      let same = length-counts (leaves_of n (ancestors_of others)) others
      (AreLeaves-ancestors_of n others conforming).counts in
      absurd (omega arith))
      (λ worse. omega arith)
      (cases_lt (worst_of priority others) (priority (get_or ranking m.0 0))))
      (first_missing has ranking (length ranking) (omega arith))

  -- the leaves at the end of greedy refinement are the best mesh
  pub IsBestMesh-greedy : (budget : ℕ) (has : ℕ → Bool) → 2 ≤ budget → IsGreedyEnd n budget priority has →
      IsBestMesh n budget priority (leaves_of n has)
  IsBestMesh-greedy budget has low end =
      let closure = IsRankClosure-greedy budget has low end in
      record {
        conforming = IsConforming-leaves_of n has closure.1.closure.closed;
        within = closure.1.fits;
        optimal = optimal budget has low end;
        greedy = record {
          ranking = ranking;
          chosen = closure.0;
          has = has;
          ranked = ranked;
          closure = closure.1;
          refined = end;
          leaves = refl;
        };
      }

-- a blocking triangle and its need are determined
pub IsBlockedBy-unique : (n : ℕ) (ranking : List ℕ) (chosen a b need other : ℕ) → IsBlockedBy n ranking chosen a need →
    IsBlockedBy n ranking chosen b other →
    (a ≡ b) × (need ≡ other)
IsBlockedBy-unique n ranking chosen a b need other p q =
    let first = p.next in let second = q.next in
    let same : a ≡ b = cc in (
      same,
      p.counted.2 ∙ ap length (leaves_of-same n p.counted.0 q.counted.0
          (IsLeastClosed-unique n (among (take (chosen + 1) ranking)) p.counted.0 q.counted.0 p.counted.1 q.counted.1))
          ∙ sym q.counted.2,
    )

-- for every falling priority
pub IsBestMesh-end : (n budget : ℕ) (priority : ℕ → ℕ) (has : ℕ → Bool) → IsFalling n priority → 2 ≤ budget →
    IsGreedyEnd n budget priority has →
    IsBestMesh n budget priority (leaves_of n has)
IsBestMesh-end n budget priority has falling =
    IsBestMesh-greedy n priority (ranking_of n priority) (IsRanking-of n priority) falling budget has
