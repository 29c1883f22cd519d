-- No diamond that holds a chosen triangle is merged, and each split is of a chosen triangle.
use Rattle.std.proofs.Common.{◌≡◌, ℕ, ◌+◌, ◌<◌, ◌≤◌, ◌⊎◌, ◌||◌, inl, inr, Bool, IsTrue, List, length, take, get_or}
use Rattle.std.proofs.Common.{refl, sym, ◌∙◌, ap, subst, arith, ⊎_elim}
use Rattle.std.proofs.lemmas.Bool.{cases_lt, cases_Bool, cases_eq, both_ways, or_left, or_right, or_cases}
use Rattle.mesh_defs.specs.Triangle.{IsAddress, IsMate}
use Rattle.mesh_defs.specs.ClosedSet.{IsClosed, IsSubset, among}
use Rattle.mesh_defs.specs.Ranking.{RanksBefore, IsRanking, IsRankClosure}
use Rattle.mesh_defs.specs.Greedy.{IsFirstLeaf}
use Rattle.mesh_laws.proofs.DescentLemmas.{IsAddress-splittable}
use Rattle.mesh_defs.proofs.ListLemmas.{IsIn-among, among-in}
use Rattle.mesh_defs.specs.GridSet.{IsAscending, IsGridSet}
use Rattle.mesh_defs.specs.Falling.{IsFalling}
use Rattle.mesh_laws.proofs.ForcingLemmas.{with-old, with-new}
use Rattle.mesh_laws.proofs.RankLemmas.{in_prefix, prefix_in, HoldsBelow, HasMissing, entry, first_is_missing}
use Rattle.mesh_laws.specs.Order.{RanksNoLater}
use Rattle.mesh_laws.specs.Diamond.{IsInDiamond, CanMerge}
use Rattle.mesh_laws.specs.Lead.{IsLead}
use Rattle.mesh_laws.proofs.FirstLeafLemmas.{prefix_subset, fewer_leaves, zeros_hold, earlier_place, exceeds}
use Rattle.mesh_laws.specs.Steps.{IsSplitStep, MustMerge, too_many, makes_room, needless, IsMergeStep, HoldsChosen}
use Rattle.mesh_laws.specs.Steps.{AreLoose}
use Rattle.mesh_laws.proofs.DiamondLemmas.{mate_or_none, without_diamond, without_diamond-closed}
use Rattle.mesh_laws.proofs.ChangeLemmas.{forced_subset, union_closed}
use Rattle.mesh_laws.proofs.SetListLemmas.{entries_without}
use Rattle.mesh_laws.proofs.OrderLemmas.{before-no_later, no_later-le, no_later_back, no_later_other}
use Rattle.mesh_laws.proofs.OrderLemmas.{no_later_before, ranks_no_later}
use Rattle.bintree_laws.proofs.CentreLemmas.{mate_unique}
use Rattle.mesh_laws.proofs.LeadLemmas.{lead_first, leads_hold}

-- whether a diamond holds a chosen triangle
pub holds_chosen : (n : ℕ) (ranking : List ℕ) (chosen a : ℕ) → IsAddress n a →
    HoldsChosen n ranking chosen a ⊎ (HoldsChosen n ranking chosen a → ⊥)
holds_chosen n ranking chosen a address = ⊎_elim
    (λ own. inl record { triangle = a; in_diamond = inl refl; is_chosen = own })
    (λ not_own. ⊎_elim
    (λ (found : (m : ℕ) × IsMate n a m). ⊎_elim
    (λ across. inl record { triangle = found.0; in_diamond = inr found.1; is_chosen = across })
    (λ not_across. inr (λ h. by_case h.triangle h.is_chosen (λ same. both_ways (among (take chosen ranking) a) not_own
    (subst (λ z. IsTrue (among (take chosen ranking) z)) same h.is_chosen))
    (λ mate. both_ways (among (take chosen ranking) found.0) not_across
    (subst (λ z. IsTrue (among (take chosen ranking) z))
    (mate_unique n a h.triangle found.0 address mate found.1) h.is_chosen)) h.in_diamond))
    (cases_Bool (among (take chosen ranking) found.0)))
    (λ none. inr (λ h. by_case h.triangle h.is_chosen (λ same. both_ways (among (take chosen ranking) a) not_own
    (subst (λ z. IsTrue (among (take chosen ranking) z)) same h.is_chosen))
    (λ mate. none h.triangle mate) h.in_diamond))
    (mate_or_none n a address))
    (cases_Bool (among (take chosen ranking) a))
  where
    by_case : (c : ℕ) → IsTrue (among (take chosen ranking) c) → (c ≡ a → ⊥) →
        (IsMate n a c → ⊥) → IsInDiamond n a c → ⊥
    by_case c prefix first second (inl same) = first same
    by_case c prefix first second (inr mate) = second mate

-- the members of a closed set whose diamond holds no chosen triangle are a list
pub loose_of : (n : ℕ) (ranking : List ℕ) (chosen : ℕ) (members : List ℕ) → IsGridSet n members →
    (loose : List ℕ) × AreLoose n ranking chosen members loose
loose_of n ranking chosen members set =
    let r = entries_without (HoldsChosen n ranking chosen) members set.ascending (λ a i.
    holds_chosen n ranking chosen a (IsAddress-splittable n a (set.closed.splittable a (among-in a members i)))) in (
      r.0,
      record {
        ascending = r.1;
        rest = λ a. (
          (λ h. let q = (r.2 a).0 (IsIn-among a r.0 h) in (among-in a members q.0, q.1)),
          (λ q. among-in a r.0 ((r.2 a).1 (IsIn-among a members q.0, q.1))),
        );
      },
    )

module _ (n budget : ℕ) (priority : ℕ → ℕ) (ranking : List ℕ) (chosen : ℕ) (best : ℕ → Bool)
    (ranked : IsRanking n priority ranking) (falling : IsFalling n priority)
    (closure : IsRankClosure n budget ranking chosen best) where
  -- c is one of the chosen triangles
  abbrev pub IsChosen : ℕ → Type 0
  IsChosen c = IsTrue (among (take chosen ranking) c)

  -- a chosen triangle by its place
  chosen_place : (c : ℕ) → IsChosen c → (i : ℕ) × (i < chosen) × (i < length ranking) × (get_or ranking i 0 ≡ c)
  chosen_place c h = in_prefix chosen c ranking (IsIn-among c (take chosen ranking) h)

  -- and what stands at an early place is chosen
  place_chosen : (i c : ℕ) → i < chosen → i < length ranking → get_or ranking i 0 ≡ c → IsChosen c
  place_chosen i c less within is =
      subst IsChosen is (among-in (get_or ranking i 0) (take chosen ranking) (prefix_in chosen i ranking less within))

  -- a chosen triangle has a positive priority
  chosen_positive : (c : ℕ) → IsChosen c → 0 < priority c
  chosen_positive c h =
      let p = chosen_place c h in
      subst (λ z. 0 < priority z) p.3 (entry n priority ranking ranked falling p.0 p.2).1

  -- what ranks no later than a chosen triangle is chosen
  pub chosen_before : (a c : ℕ) → IsAddress n a → IsChosen c → RanksNoLater priority a c → IsChosen a
  chosen_before a c address h no_later = ⊎_elim
      (λ (same : a ≡ c). subst IsChosen (sym same) h)
      (λ (differ : a ≡ c → ⊥).
      let before : RanksBefore priority a c = no_later_other no_later differ in
      let p = chosen_place c h in
      let q = earlier_place n priority ranking ranked falling p.0 a p.2 address
      (subst (λ z. RanksBefore priority a z) (sym p.3) before) in
      place_chosen q.0 a (let b = p.1 in let d = q.1 in omega arith) q.2 q.3)
      (cases_eq a c)

  -- the first leaf in rank is chosen, or it stands behind all chosen ones, and these are members
  record IsBehind (has : ℕ → Bool) (f : ℕ) : Type 0 where
    place : ℕ
    late : chosen ≤ place
    within : place < length ranking
    is : get_or ranking place 0 ≡ f
    early : HoldsBelow has ranking place

  first_leaf_cases : (has : ℕ → Bool) (f : ℕ) → IsClosed n has → IsFirstLeaf n priority has f →
      IsChosen f ⊎ IsBehind has f
  first_leaf_cases has f closed first =
      let found = first_is_missing n priority ranking ranked falling has closed f first in
      let m : HasMissing has ranking = found.0 in
      ⊎_elim
      (λ less. inl (place_chosen m.0 f less m.1 found.1))
      (λ rest. inr record { place = m.0; late = rest; within = m.1; is = found.1; early = m.3 })
      (cases_lt m.0 chosen)

  -- then the chosen ones are members
  behind_hold : (has : ℕ → Bool) (f : ℕ) → IsBehind has f → IsSubset (among (take chosen ranking)) has
  behind_hold has f b =
      prefix_subset has ranking chosen (λ i less within. let late = b.late in b.early i (omega arith) within)

  -- and rank before it
  behind_before : (has : ℕ → Bool) (f c : ℕ) → IsBehind has f → IsChosen c → RanksBefore priority c f
  behind_before has f c b h =
      let p = chosen_place c h in
      let late = b.late in
      let less : p.0 < b.place = (let q = p.1 in omega arith) in
      subst (λ z. RanksBefore priority z f) p.3
      (subst (λ z. RanksBefore priority (get_or ranking p.0 0) z) b.is (ranked.ordered p.0 b.place 0 less b.within))

  -- splits

  -- each split is of a chosen triangle
  pub split_is_chosen : (before after : List ℕ) → IsClosed n (among before) →
      (step : IsSplitStep n budget priority before after) → IsChosen step.leaf
  split_is_chosen before after closed step = ⊎_elim
      (λ h. h)
      (λ (b : IsBehind (among before) step.leaf).
      let late = b.late in
      let within = b.within in
      let fits = step.fits in
      let all : HoldsBelow (among after) ranking (chosen + 1) = λ i less inside. ⊎_elim
      (λ early. step.forced.least.holds (get_or ranking i 0)
      (with-old (among before) step.leaf (get_or ranking i 0) (b.early i early inside)))
      (λ last.
      let e : b.place ≡ i = omega arith in
      let same : step.leaf ≡ get_or ranking i 0 = sym b.is ∙ ap (λ z. get_or ranking z 0) e in
      subst (λ z. IsTrue (among after z)) same (step.forced.least.holds step.leaf (with-new (among before) step.leaf)))
      (cases_lt i b.place) in
      let over = exceeds n priority ranking ranked falling budget chosen best closure
      (among after) step.forced.least.closed (omega arith) all in
      absurd (omega arith))
      (first_leaf_cases (among before) step.leaf closed step.first)

  -- so it adds only members of the rank closure
  pub split_adds : (before after : List ℕ) → IsClosed n (among before) → IsSplitStep n budget priority before after →
      (a : ℕ) → IsTrue (among after a) → IsTrue (among before a) ⊎ IsTrue (best a)
  split_adds before after closed step a h =
      or_cases (among before a) (best a)
      (forced_subset n before step.leaf (among after) (λ z. among before z || best z) step.forced.least
      (union_closed n (among before) best closed closure.closure.closed)
      (λ b i. or_left (among before b) (best b) i)
      (or_right (among before step.leaf) (best step.leaf)
      (closure.closure.holds step.leaf (split_is_chosen before after closed step)))
      a h)

  -- merges

  -- in a closed set between the chosen triangles and the rank closure each diamond that can be merged holds a chosen
  -- one
  mergeable_holds : (before : List ℕ) → IsAscending before → IsClosed n (among before) →
      IsSubset (among (take chosen ranking)) (among before) →
      IsSubset (among before) best → (d : ℕ) → CanMerge n (among before) d → HoldsChosen n ranking chosen d
  mergeable_holds before ascending closed all sub d can =
      let address : IsAddress n d = IsAddress-splittable n d (closed.splittable d can.member) in
      ⊎_elim
      (λ h. h)
      (λ (none : HoldsChosen n ranking chosen d → ⊥).
      let w = without_diamond n before d ascending address in
      let shut = without_diamond-closed n before d w.0 closed can w.1 in
      let inside = closure.closure.least (among w.0) shut
      (λ c h. (w.1.members c).1 (all c h, λ i. none record { triangle = c; in_diamond = i; is_chosen = h })) d
      (sub d can.member) in
      absurd (((w.1.members d).0 inside).1 (inl refl)))
      (holds_chosen n ranking chosen d address)

  -- the lead ranks no later than the chosen triangle of its diamond
  lead_no_later : (has : ℕ → Bool) (d : ℕ) → IsClosed n has → IsLead n priority has d →
      (h : HoldsChosen n ranking chosen d) →
      RanksNoLater priority d h.triangle
  lead_no_later has d closed lead h = lead_first n priority has closed d h.triangle lead h.in_diamond

  -- a set within the rank closure loses nothing
  pub inside_no_merge : (before after : List ℕ) → IsAscending before → IsClosed n (among before) →
      IsSubset (among before) best →
      IsMergeStep n budget priority before after → ⊥
  inside_no_merge before after ascending closed sub step = by_case step.must
    where
      held : IsSubset (among (take chosen ranking)) (among before) → HoldsChosen n ranking chosen step.diamond
      held all = mergeable_holds before ascending closed all sub step.diamond step.last.lead.mergeable

      no_later : (h : HoldsChosen n ranking chosen step.diamond) → RanksNoLater priority step.diamond h.triangle
      no_later h = lead_no_later (among before) step.diamond closed step.last.lead h

      by_case : MustMerge n budget priority before step.diamond → ⊥
      by_case (too_many over) = let fits = fewer_leaves n (among before) best budget sub closure.fits in omega arith
      by_case (makes_room f within no_room later) = ⊎_elim
          (λ h.
          let inner = forced_subset n before f
          (among no_room.after) best no_room.forced.least closure.closure.closed sub (closure.closure.holds f h) in
          let fits = fewer_leaves n (among no_room.after) best budget inner closure.fits in
          let over = no_room.over in omega arith)
          (λ (b : IsBehind (among before) f).
          let h = held (behind_hold (among before) f b) in
          no_later_back (before-no_later (no_later_before (no_later h)
          (behind_before (among before) f h.triangle b h.is_chosen))) later)
          (first_leaf_cases (among before) f closed no_room.first)
      by_case (needless within zeros none) =
          let all = zeros_hold n priority ranking ranked falling (among before) closed zeros in
          let h = held (prefix_subset (among before) ranking chosen (λ i less inside. all i inside inside)) in
          let some = chosen_positive h.triangle h.is_chosen in
          let high = no_later-le (no_later h) in
          omega arith

  -- a lead that ranks no later than a chosen triangle is chosen
  lead_chosen : (has : ℕ → Bool) (d c : ℕ) → IsClosed n has → IsLead n priority has d → IsChosen c →
      RanksNoLater priority d c → IsChosen d
  lead_chosen has d c closed lead h order =
      chosen_before d c (IsAddress-splittable n d (closed.splittable d lead.mergeable.member)) h order

  -- no diamond that holds a chosen triangle is merged
  pub merge_spares_chosen : (before after : List ℕ) → IsAscending before → IsClosed n (among before) →
      (step : IsMergeStep n budget priority before after) →
      HoldsChosen n ranking chosen step.diamond → ⊥
  merge_spares_chosen before after ascending closed step h =
      let own = lead_chosen (among before) step.diamond h.triangle closed step.last.lead h.is_chosen
      (lead_no_later (among before) step.diamond closed step.last.lead h) in
      inside_no_merge before after ascending closed
      (leads_hold n priority (among before) closed best closure.closure.closed (λ d lead. closure.closure.holds d
      (lead_chosen (among before) d step.diamond closed lead own (ranks_no_later priority (⊎_elim
      (λ same. inl same)
      (λ differ. inr (step.last.last d lead differ))
      (cases_eq d step.diamond))))))
      step
