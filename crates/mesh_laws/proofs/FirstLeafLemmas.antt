-- Closed sets against a ranking: the prefixes that a set holds, and its first leaf in rank.
use Rattle.std.proofs.Common.{◌≡◌, ℕ, ◌+◌, ◌*◌, ◌<◌, ◌≤◌, ◌⊎◌, inl, inr, Bool, IsTrue, List, length, take, get_or, All}
use Rattle.std.proofs.Common.{Contains, refl, sym, ◌∙◌, ap, subst, arith, ⊎_elim}
use Rattle.std.proofs.lemmas.Bool.{cases_lt, cases_eq}
use Rattle.std.proofs.lemmas.List.Elements.{All-contains}
use Rattle.mesh_defs.specs.Triangle.{level_of, IsAddress, IsSplittable}
use Rattle.mesh_defs.specs.ClosedSet.{IsClosed, IsSubset, leaves_of, among}
use Rattle.mesh_defs.specs.Ranking.{RanksBefore, IsRanking, IsRankClosure}
use Rattle.mesh_defs.specs.Greedy.{IsFirstLeaf}
use Rattle.mesh_defs.specs.Falling.{IsFalling}
use Rattle.mesh_defs.proofs.ListLemmas.{Contains-in, IsIn-contains, IsIn-among, among-in}
use Rattle.bintree_laws.proofs.LevelLemmas.{level-le}
use Rattle.mesh_laws.specs.Order.{RanksNoLater}
use Rattle.mesh_laws.proofs.ClosureLemmas.{closure_of, leaves_of-more}
use Rattle.mesh_laws.proofs.RankLemmas.{in_prefix, prefix_in, prefix-next, HoldsBelow, HasMissing, first_missing}
use Rattle.mesh_laws.proofs.RankLemmas.{entry, place_of, missing_first}
use Rattle.mesh_laws.proofs.OrderLemmas.{before-le, before_cases, before_trans, before-no_later, no_later_back}
use Rattle.mesh_laws.proofs.OrderLemmas.{ranks_no_later, IsFirstOf, first_of}
use Rattle.mesh_laws.proofs.SetListLemmas.{All-in}
use Rattle.mesh_laws.proofs.DiamondLemmas.{leaf_outside}

-- prefixes

-- a set that holds the first k entries holds the prefix of k
pub prefix_subset : (has : ℕ → Bool) (xs : List ℕ) (k : ℕ) → HoldsBelow has xs k → IsSubset (among (take k xs)) has
prefix_subset has xs k all a h =
    let place = in_prefix k a xs (IsIn-among a (take k xs) h) in
    subst (λ z. IsTrue (has z)) place.3 (all place.0 place.1 place.2)

-- and a set that holds the prefix holds the first k entries
pub subset_prefix : (has : ℕ → Bool) (xs : List ℕ) (k : ℕ) → IsSubset (among (take k xs)) has → HoldsBelow has xs k
subset_prefix has xs k sub i less within =
    sub (get_or xs i 0) (among-in (get_or xs i 0) (take k xs) (prefix_in k i xs less within))

-- fewer members have no more leaves
pub fewer_leaves : (n : ℕ) (has other : ℕ → Bool) (budget : ℕ) → IsSubset has other →
    length (leaves_of n other) ≤ budget → length (leaves_of n has) ≤ budget
fewer_leaves n has other budget sub fits = omega (arith, leaves_of-more n has other sub)

-- the first leaf in rank

module _ (n : ℕ) (priority : ℕ → ℕ) where
  -- the first leaf in rank, or all leaves have priority 0
  pub first_leaf_or_none : (has : ℕ → Bool) →
      ((f : ℕ) × IsFirstLeaf n priority has f) ⊎ All (λ a. priority a ≡ 0) (leaves_of n has)
  first_leaf_or_none has = ⊎_elim
      (λ (r : (f : ℕ) × IsFirstOf (RanksBefore priority) (λ a b. before_cases (priority a) a (priority b) b)
      (λ a b c h k. before_trans h k) (λ a. 0 < priority a) (leaves_of n has) f).
      inl (
        r.0,
        record {
          leaf = Contains-in r.0 (leaves_of n has) r.1.entry;
          positive = r.1.is;
          first = λ a leaf some other. ⊎_elim (λ same. absurd (other same)) (λ before. before)
              (r.1.first a (IsIn-contains a (leaves_of n has) leaf) some);
        },
      ))
      (λ none. inr (All-in (λ a. priority a ≡ 0) (leaves_of n has) (λ a i. ⊎_elim
      (λ (some : 0 < priority a). absurd (none a i some))
      (λ (zero : priority a ≤ 0). let e : priority a ≡ 0 = omega arith in e)
      (cases_lt 0 (priority a)))))
      (first_of (RanksBefore priority) (λ a b. before_cases (priority a) a (priority b) b)
      (λ a b c h k. before_trans h k) (λ a. 0 < priority a) (leaves_of n has) (λ a i. ⊎_elim
      (λ some. inl some)
      (λ (zero : priority a ≤ 0). inr (λ (k : 0 < priority a). let e : ⊥ = omega arith in e))
      (cases_lt 0 (priority a))))

  -- and not both
  pub first_not_zero : (has : ℕ → Bool) (f : ℕ) → IsFirstLeaf n priority has f →
      All (λ a. priority a ≡ 0) (leaves_of n has) → ⊥
  first_not_zero has f first zeros =
      let some = first.positive in
      let none : priority f ≡ 0 = All-contains (λ a. priority a ≡ 0) (leaves_of n has) f zeros first.leaf in omega arith

  -- there is one first leaf in rank
  pub one_first : (has : ℕ → Bool) (f g : ℕ) → IsFirstLeaf n priority has f → IsFirstLeaf n priority has g → f ≡ g
  one_first has f g h k = ⊎_elim
      (λ same. same)
      (λ differ. absurd (no_later_back (before-no_later (h.first g k.leaf k.positive (λ e. differ (sym e))))
      (k.first f h.leaf h.positive differ)))
      (cases_eq f g)

  -- a first leaf in rank is splittable
  pub first_leaf_splittable : IsFalling n priority → (has : ℕ → Bool) (f : ℕ) → IsClosed n has →
      IsFirstLeaf n priority has f → IsSplittable n f
  first_leaf_splittable falling has f closed first =
      let outer = leaf_outside n has f closed first.leaf in
      let some = first.positive in
      ⊎_elim
      (λ coarse. record { low = outer.address.low; coarse = coarse })
      (λ (fine : 2 * n ≤ level_of f).
      let most = level-le n f outer.address in
      let none = falling.finest f outer.address (omega arith) in
      absurd (omega arith))
      (cases_lt (level_of f) (2 * n))

-- over a ranking

module _ (n : ℕ) (priority : ℕ → ℕ) (ranking : List ℕ) (ranked : IsRanking n priority ranking)
    (falling : IsFalling n priority) where
  -- where each leaf has priority 0, all of the ranking are members
  pub zeros_hold : (has : ℕ → Bool) → IsClosed n has → All (λ a. priority a ≡ 0) (leaves_of n has) →
      HoldsBelow has ranking (length ranking)
  zeros_hold has closed zeros = ⊎_elim
      (λ (all : HoldsBelow has ranking (length ranking)). all)
      (λ (m : HasMissing has ranking).
      let first = missing_first n priority ranking ranked falling has closed m in
      let positive = first.positive in
      let none : priority (get_or ranking m.0 0) ≡ 0 =
      All-contains (λ a. priority a ≡ 0) (leaves_of n has) (get_or ranking m.0 0) zeros first.leaf in
      absurd (omega arith))
      (first_missing has ranking (length ranking) (omega arith))

  -- what ranks before the entry at a place stands at an earlier one
  pub earlier_place : (j a : ℕ) → j < length ranking → IsAddress n a → RanksBefore priority a (get_or ranking j 0) →
      (i : ℕ) × (i < j) × (i < length ranking) × (get_or ranking i 0 ≡ a)
  earlier_place j a within address before =
      let e = entry n priority ranking ranked falling j within in
      let high = before-le before in
      let some = e.1 in
      let p = place_of n priority ranking ranked falling a address (omega arith) in
      ⊎_elim
      (λ (less : p.0 < j). (p.0, less, p.1, p.2))
      (λ (rest : j ≤ p.0). absurd (⊎_elim
      (λ (later : j < p.0). no_later_back (before-no_later before)
      (subst (λ z. RanksBefore priority (get_or ranking j 0) z) p.2 (ranked.ordered j p.0 0 later p.1)))
      (λ (last : p.0 ≤ j).
      let same : get_or ranking j 0 ≡ a = ap (λ i. get_or ranking i 0) (let e : j ≡ p.0 = omega arith in e) ∙ p.2 in
      no_later_back (ranks_no_later priority (inl refl)) (subst (λ z. RanksBefore priority a z) same before))
      (cases_lt j p.0)))
      (cases_lt p.0 j)

  -- a leaf of positive priority that ranks no later than a
  pub record LeafAbove (has : ℕ → Bool) (a : ℕ) : Type 0 where
    pub leaf : ℕ
    pub listed : Contains (leaves_of n has) leaf
    pub positive : 0 < priority leaf
    pub no_later : RanksNoLater priority leaf a

  -- over a triangle of positive priority that is no member there is one
  pub leaf_above : (has : ℕ → Bool) → IsClosed n has → (a : ℕ) → IsAddress n a → 0 < priority a →
      (IsTrue (has a) → ⊥) → LeafAbove has a
  leaf_above has closed a address some outside =
      let p = place_of n priority ranking ranked falling a address some in
      let member : HoldsBelow has ranking (p.0 + 1) → ⊥ =
      λ all. outside (subst (λ z. IsTrue (has z)) p.2 (all p.0 (omega arith) p.1)) in
      ⊎_elim
      (λ (all : HoldsBelow has ranking (length ranking)). absurd (member (λ i less within. all i within within)))
      (λ (m : HasMissing has ranking).
      let first = missing_first n priority ranking ranked falling has closed m in
      record {
        leaf = get_or ranking m.0 0;
        listed = first.leaf;
        positive = first.positive;
        no_later = ⊎_elim
            (λ (early : p.0 < m.0). absurd (member (λ i less within. m.3 i (omega arith) within)))
            (λ (late : m.0 ≤ p.0). ⊎_elim
            (λ (later : m.0 < p.0). before-no_later
            (subst (λ z. RanksBefore priority (get_or ranking m.0 0) z) p.2 (ranked.ordered m.0 p.0 0 later p.1)))
            (λ (last : p.0 ≤ m.0). ranks_no_later priority
            (inl (ap (λ i. get_or ranking i 0) (let e : m.0 ≡ p.0 = omega arith in e) ∙ p.2)))
            (cases_lt m.0 p.0))
            (cases_lt p.0 m.0);
      })
      (first_missing has ranking (length ranking) (omega arith))

  -- a closed set with one entry more than the chosen ones exceeds the budget
  pub exceeds : (budget chosen : ℕ) (best : ℕ → Bool) → IsRankClosure n budget ranking chosen best → (has : ℕ → Bool) →
      IsClosed n has → chosen < length ranking → HoldsBelow has ranking (chosen + 1) → budget < length (leaves_of n has)
  exceeds budget chosen best closure has closed within all =
      let e = entry n priority ranking ranked falling chosen within in
      let next = closure_of n best (get_or ranking chosen 0) closure.closure.closed e.0 in
      let prefix = prefix-next n ranking best next.0 chosen within closure.closure next.1 in
      let over = closure.longest (chosen + 1) next.0 (omega arith) (omega arith) prefix in
      omega (arith, leaves_of-more n next.0 has (prefix.least has closed (prefix_subset has ranking (chosen + 1) all)))
