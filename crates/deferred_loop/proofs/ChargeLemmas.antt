-- What is asked at the heads of the queues is charged.
use Rattle.std.proofs.Common.{◌≡◌, ℕ, ◌+◌, ◌<◌, ◌≤◌, ◌⊎◌, inl, inr, false, not, eqb, eq-eqb, IsTrue, List, [], ◌∷◌}
use Rattle.std.proofs.Common.{length, Contains, refl, sym, ◌∙◌, ap, subst, arith, ⊎_elim}
use Rattle.std.specs.List.{filter, AllByRecursion}
use Rattle.std.proofs.lemmas.Bool.{cases_lt, both_ways, or_parts, or_cases, or_left, or_right, eqb-true, not_from_false}
use Rattle.std.proofs.lemmas.Bool.{false_from_ne_true}
use Rattle.std.proofs.lemmas.List.Filters.{length-filter_both}
use Rattle.std.proofs.lemmas.Map.Keys.{IsDistinct-cons}
use Rattle.mesh_defs.specs.ClosedSet.{leaves_of, among}
use Rattle.mesh_defs.specs.Greedy.{with_triangle}
use Rattle.mesh_laws.proofs.DescentLemmas.{IsAddress-splittable}
use Rattle.mesh_defs.proofs.ListLemmas.{IsIn-among}
use Rattle.deferred_loop.specs.Seen.{PoolSet, SeenMesh, best_key, worst_key, sure, IsHead, IsLastHead, IsRated}
use Rattle.deferred_loop.specs.Seen.{lower_of, upper_of}
use Rattle.mesh_defs.specs.GridSet.{IsGridSet}
use Rattle.bintree_addr.specs.declared.rank.Rank.{Rank}
use Rattle.bintree_addr.specs.RankOrder.{ComesFirst}
use Rattle.mesh_laws.specs.Diamond.{IsInDiamond, CanMerge}
use Rattle.mesh_laws.specs.Lead.{IsLastLead}
use Rattle.mesh_laws.specs.Steps.{leaf_count, too_many, StepRun}
use Rattle.mesh_defs.specs.Ranking.{IsBefore}
use Rattle.mesh_laws.specs.Order.{IsNoLater}
use Rattle.mesh_laws.specs.Deferred.{leaf, member, DiamondStraddles, zero_lower, DeferredFrame, IsDeferredFrame}
use Rattle.mesh_laws.specs.Deferred.{IsOpen, open_leaf, open_member}
use Rattle.mesh_laws.specs.Keys.{lower_key}
use Rattle.mesh_laws.proofs.SetListLemmas.{filter-in, filter-among, length-some}
use Rattle.mesh_laws.proofs.DiamondLemmas.{without_diamond}
use Rattle.mesh_laws.proofs.NextLemmas.{last_lead_or_none, some_lead}
use Rattle.mesh_laws.proofs.OrderLemmas.{no_later_from, no_later-le, no_later_trans}
use Rattle.mesh_laws.proofs.StraddleLemmas.{asked_leaf, asked_diamond, asked_over}
use Rattle.mesh_laws.proofs.KeyLemmas.{lead_no_later_key, IsAddress-entry}
use Rattle.deferred_loop.specs.Choice.{IsFirstRank}
use Rattle.deferred_loop.specs.Kept.{IsSettled, IsOldLeaf, IsOldMember, IsCharged, IsMet, IsAllowed}
use Rattle.deferred_loop.specs.declared.queued.Head.{Head}
use Rattle.deferred_loop.specs.declared.queued.Last.{Last}
use Rattle.deferred_loop.specs.declared.limit.Limit.{Limit}
use Rattle.deferred_loop.specs.declared.limit.Limit.TheVariants.{Over, After, Zero}
use Rattle.deferred_loop.proofs.KeyLemmas.{present, present_is, best_key-stamp, best_key-above, unsure, worst_key-lower}
use Rattle.deferred_loop.proofs.KeyLemmas.{worst_key-above, before_then, can_merge_with}
use Rattle.deferred_loop.proofs.HeadLemmas.{positive_or_zero, last_key, last_value}

-- an entry that may be asked: its call is in the reserve, or it is open and was not asked
abbrev pub MayAsk : (w : DeferredFrame) (asked reserve : List ℕ) (t : ℕ) → Type 0
MayAsk w asked reserve t = IsTrue (among reserve t) ⊎ (IsOpen w t × (IsTrue (among asked t) → ⊥))

-- what is not among a list is equal to none of it
apart : (t : ℕ) (xs : List ℕ) → (IsTrue (among xs t) → ⊥) → AllByRecursion (λ y. eqb t y ≡ false) xs
apart t [] none = tt
apart t (x ∷ xs) none = (
  false_from_ne_true (eqb t x) (λ same. none (or_left (eqb x t) (among xs t) (eq-eqb x t (sym (eqb-true t x same))))),
  apart t xs (λ there. none (or_right (eqb x t) (among xs t) there)),
)

-- a list without an entry is shorter
filter_shorter : (t : ℕ) (xs : List ℕ) → IsTrue (among xs t) → length (filter (λ b. not (eqb t b)) xs) < length xs
filter_shorter t xs there =
    let both = length-filter_both (λ b. eqb t b) (λ b. not (eqb t b)) (λ b. refl) xs in
    let own = length-some t (filter (λ b. eqb t b) xs)
    (filter-in (λ b. eqb t b) t xs (IsIn-among t xs there) (eq-eqb t t refl)) in
    omega arith

module _ (w : DeferredFrame) (before after : SeenMesh) (r : Rank) (t : ℕ)
    (told : IsRated before after r) (tri : r.tri ≡ t) where
  -- what is not known is another one, and was not known
  told_parts : (a : ℕ) → after.known a ≡ false → (before.known a ≡ false) × (eqb t a ≡ false)
  told_parts a new =
      or_parts (before.known a) (eqb t a) (sym (told.known a ∙ ap (λ z. with_triangle before.known z a) tri) ∙ new)

  leaf_before : (n a : ℕ) → Contains (leaves_of n (among after.set.members)) a →
      Contains (leaves_of n (among before.set.members)) a
  leaf_before n a h = subst (λ (z : PoolSet). Contains (leaves_of n (among z.members)) a) told.set h

  can_before : (n a : ℕ) → CanMerge n (among after.set.members) a → CanMerge n (among before.set.members) a
  can_before n a h = subst (λ (z : PoolSet). CanMerge n (among z.members) a) told.set h

  -- an old entry still is one, where it was not asked
  old_leaf : (asked now : List ℕ) (a : ℕ) → (IsTrue (among now a) → IsTrue (among asked a)) →
      IsOldLeaf w before asked a → IsOldLeaf w after now a
  old_leaf asked now a less old = record {
    leaf = old.leaf;
    undue = old.undue;
    unasked = λ i. old.unasked (less i);
    upper = ap upper_of (told.stamp a) ∙ old.upper;
  }

  old_member : (asked now : List ℕ) (a : ℕ) → (IsTrue (among now a) → IsTrue (among asked a)) →
      IsOldMember w before asked a → IsOldMember w after now a
  old_member asked now a less old = record {
    can = old.can;
    undue = old.undue;
    unasked = λ i. old.unasked (less i);
    lower = λ b i. ap lower_of (told.stamp b) ∙ old.lower b i;
  }

  -- a call from the reserve
  charged_reserve : (evaluations added removed count more : ℕ) → more ≤ count + 1 →
      (c : IsCharged w evaluations before added removed count) → IsTrue (among c.reserve t) →
      IsCharged w evaluations after added removed more
  charged_reserve evaluations added removed count more counted c there = record {
    run = subst (λ (z : PoolSet). StepRun w.n w.budget w.priority w.start z.members added removed) (sym told.set) c.run;
    asked = c.asked;
    distinct = c.distinct;
    each = c.each;
    reserve = filter (λ b. not (eqb t b)) c.reserve;
    leaf = λ a h new.
        let parts = told_parts a new in
        ⊎_elim
        (λ still. inl (filter-among (λ b. not (eqb t b)) a c.reserve still (not_from_false (eqb t a) parts.1)))
        (λ old. inr (old_leaf c.asked c.asked a (λ i. i) old))
        (c.leaf a (leaf_before w.n a h) parts.0);
    member = λ a h new.
        let parts = told_parts a new in
        ⊎_elim
        (λ still. inl (filter-among (λ b. not (eqb t b)) a c.reserve still (not_from_false (eqb t a) parts.1)))
        (λ old. inr (old_member c.asked c.asked a (λ i. i) old))
        (c.member a (can_before w.n a h) parts.0);
    total = omega (arith, c.total, counted, filter_shorter t c.reserve there);
  }

  -- a call for an open entry
  charged_open : (evaluations added removed count more : ℕ) → more ≤ count + 1 →
      (c : IsCharged w evaluations before added removed count) → IsOpen w t → (IsTrue (among c.asked t) → ⊥) →
      IsCharged w evaluations after added removed more
  charged_open evaluations added removed count more counted c is_open new_one = record {
    run = subst (λ (z : PoolSet). StepRun w.n w.budget w.priority w.start z.members added removed) (sym told.set) c.run;
    asked = t ∷ c.asked;
    distinct = IsDistinct-cons eqb t c.asked (apart t c.asked new_one) c.distinct;
    each = λ b i. ⊎_elim (λ same. subst (λ z. IsOpen w z) (eqb-true t b same) is_open) (λ there. c.each b there)
        (or_cases (eqb t b) (among c.asked b) i);
    reserve = c.reserve;
    leaf = λ a h new.
        let parts = told_parts a new in
        ⊎_elim (λ still. inl still) (λ old. inr (old_leaf c.asked (t ∷ c.asked) a (less a parts.1) old))
        (c.leaf a (leaf_before w.n a h) parts.0);
    member = λ a h new.
        let parts = told_parts a new in
        ⊎_elim (λ still. inl still) (λ old. inr (old_member c.asked (t ∷ c.asked) a (less a parts.1) old))
        (c.member a (can_before w.n a h) parts.0);
    total = omega (arith, c.total, counted);
  }
    where
      less : (a : ℕ) → eqb t a ≡ false → IsTrue (among (t ∷ c.asked) a) → IsTrue (among c.asked a)
      less a other i = ⊎_elim (λ same. absurd (both_ways (eqb t a) other same)) (λ there. there)
          (or_cases (eqb t a) (among c.asked a) i)

  -- either one
  pub charged_asked : (evaluations added removed count more : ℕ) → more ≤ count + 1 →
      (c : IsCharged w evaluations before added removed count) → MayAsk w c.asked c.reserve t →
      IsCharged w evaluations after added removed more
  charged_asked evaluations added removed count more counted c (inl there) =
      charged_reserve evaluations added removed count more counted c there
  charged_asked evaluations added removed count more counted c (inr old) =
      charged_open evaluations added removed count more counted c old.0 old.1

module _ (w : DeferredFrame) (is : IsDeferredFrame w) (s : SeenMesh) (settled : IsSettled w s) where
  grid_set : IsGridSet w.n s.set.members
  grid_set = settled.valid

  -- the head of the split queue may be asked
  pub head_may : (h : Head) → IsHead s h → leaf_count w.n s.set.members ≤ w.budget →
      h.sure ≡ false → (h.rank.p ≡ 0 → ⊥) →
      (evaluations added removed count : ℕ) (c : IsCharged w evaluations s added removed count) →
      MayAsk w c.asked c.reserve h.rank.tri
  head_may h head within told some evaluations added removed count c =
      let t : ℕ = h.rank.tri in
      let new : s.known h.rank.tri ≡ false = unsure s h.rank.tri (sym head.marked ∙ told) in
      let here = subst (λ z. Contains (leaves_of z (among s.set.members)) h.rank.tri) settled.grid head.leaf in
      let straddles = asked_leaf w is s.set.members grid_set within (best_key s)
      (λ l i. best_key-above w s l (settled.keys l (leaf i))) h.rank.tri
      (λ l i. head.first l (subst (λ z. Contains (leaves_of z (among s.set.members)) l) (sym settled.grid) i))
      (subst (λ z. 0 < z) head.value (positive_or_zero h.rank.p some)) in
      ⊎_elim
      (λ there. inl there)
      (λ (old : IsOldLeaf w s c.asked h.rank.tri).
      let same : best_key s h.rank.tri ≡ w.upper h.rank.tri = best_key-stamp s h.rank.tri new ∙ old.upper in
      inr (
        open_leaf old.leaf old.undue record {
          before_blocking = λ b blocks. ⊎_elim
              (λ (more : w.priority b < best_key s h.rank.tri). inl (omega arith))
              (λ (tie : (best_key s h.rank.tri ≡ w.priority b) × (h.rank.tri ≤ b)). inr (sym same ∙ tie.0, tie.1))
              (straddles.before_blocking b blocks);
          positive = λ none. subst (λ z. 0 < z) same (straddles.positive none);
        },
        old.unasked,
      ))
      (c.leaf h.rank.tri here new)

  module _ (h : Last) (last : IsLastHead s h) where
    -- the keys of an old diamond are no less than its bounds at the start
    old_lower : (t b : ℕ) (asked : List ℕ) → IsInDiamond w.n h.rank.tri t → IsOldMember w s asked t →
        IsInDiamond w.n t b → w.lower b ≤ worst_key s b
    old_lower t b asked inside old i =
        let can = can_merge_with w.n (among s.set.members) t b grid_set.closed
        (last_key w is s settled h last t inside).mergeable i in
        worst_key-above w s b (w.lower b) (settled.keys b (member can))
        (is.below b (IsAddress-entry w.n s.set.members b grid_set (member can))) (old.lower b i)

    -- a triangle of the diamond has no better key
    better : (t b : ℕ) → IsInDiamond w.n h.rank.tri t → IsInDiamond w.n t b →
        IsNoLater ((lower_key (present w s) (sure s)) h.rank.tri) h.rank.tri ((lower_key (present w s) (sure s)) b) b
    better t b inside i = (last_key w is s settled h last t inside).better b i

    -- the key that the queue holds of it
    key_of : (t b : ℕ) → IsInDiamond w.n h.rank.tri t → IsInDiamond w.n t b →
        worst_key s b ≡ lower_key (present w s) (sure s) b
    key_of t b inside i = worst_key-lower w s b (settled.keys b (member
        (can_merge_with w.n (among s.set.members) t b grid_set.closed
        (last_key w is s settled h last t inside).mergeable i)))

    -- after f by a key, after f by the bound
    later_still : (f b : ℕ) (key : ℕ → ℕ) → w.lower b ≤ key b → IsBefore (w.priority f) f (key b) b →
        IsBefore (w.priority f) f (w.lower b) b
    later_still f b key less (inl more) = inl (omega arith)
    later_still f b key less (inr tie) = ⊎_elim
        (λ below. inl below)
        (λ rest. inr (omega arith, tie.1))
        (cases_lt (w.lower b) (w.priority f))

    -- the key against the first leaf
    key_after : (f : Rank) → IsFirstRank w.n w.priority s.set.members f → ComesFirst f h.rank →
        IsBefore (w.priority f.tri) f.tri ((lower_key (present w s) (sure s)) h.rank.tri) h.rank.tri
    key_after f first (inl more) = inl (omega (arith, first.value, last_value w is s settled h last))
    key_after f first (inr tie) = inr (sym first.value ∙ tie.0 ∙ last_value w is s settled h last, tie.1)

    -- an old diamond that meets the limit straddles
    straddles : (limit : Limit) (t : ℕ) (evaluations added removed count : ℕ)
        (c : IsCharged w evaluations s added removed count) → IsAllowed w s.set.members limit → IsMet limit h.rank →
        IsInDiamond w.n h.rank.tri t → IsOldMember w s c.asked t →
        DiamondStraddles w.n w.budget w.priority w.start w.lower t
    straddles Over t evaluations added removed count c over met inside old = ⊎_elim
        (λ (d : (d : ℕ) × IsLastLead w.n w.priority (among s.set.members) d).
        let u = without_diamond w.n s.set.members d.0 grid_set.ascending
        (IsAddress-splittable w.n d.0 (grid_set.closed.splittable d.0 d.1.lead.mergeable.member)) in
        asked_over w is s.set.members added removed u.0 c.run
        record { diamond = d.0; last = d.1; must = too_many over; merged = u.1 } w.lower t (λ b i.
        let key = key_of t b inside i in let low = old_lower t b c.asked inside old i in
        no_later_trans
        (no_later_trans
        (lead_no_later_key (present w s) (present_is w s is) s.set.members (sure s) t h.rank.tri grid_set
        (last_key w is s settled h last t inside) d.0 d.1.lead)
        (better t b inside i))
        (no_later_from (omega arith) (omega arith))))
        (λ none. absurd (some_lead w.n w.priority s.set.members w.budget grid_set.closed is.low over none))
        (last_lead_or_none w.n w.priority s.set.members grid_set.closed)
    straddles (After f) t evaluations added removed count c first met inside old =
        asked_diamond w is s.set.members added removed c.run f.tri first.first w.lower t (λ b i.
        let key = key_of t b inside i in let low = old_lower t b c.asked inside old i in
        later_still f.tri b (lower_key (present w s) (sure s)) (omega arith)
        (before_then (key_after f first met) (better t b inside i)))
    straddles Zero t evaluations added removed count c _ met inside old = zero_lower (λ b i.
        let key = key_of t b inside i in let low = old_lower t b c.asked inside old i in
        let less = no_later-le (better t b inside i) in
        let none : lower_key (present w s) (sure s) h.rank.tri ≡ 0 = sym (last_value w is s settled h last) ∙ met in
        omega arith)

    -- a triangle of the head of the merge queue may be asked, where its key meets the limit
    pub last_may : (limit : Limit) (t : ℕ) → IsAllowed w s.set.members limit → IsMet limit h.rank →
        IsInDiamond s.set.n h.rank.tri t → s.known t ≡ false →
        (evaluations added removed count : ℕ) (c : IsCharged w evaluations s added removed count) →
        MayAsk w c.asked c.reserve t
    last_may limit t allowed met at new evaluations added removed count c =
        let inside = subst (λ z. IsInDiamond z h.rank.tri t) settled.grid at in
        ⊎_elim
        (λ there. inl there)
        (λ (old : IsOldMember w s c.asked t). inr (
          open_member old.can old.undue (straddles limit t evaluations added removed count c allowed met inside old),
          old.unasked,
        ))
        (c.member t (last_key w is s settled h last t inside).mergeable new)
