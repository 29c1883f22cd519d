-- What the loop over bounds asks for straddles.
use Rattle.std.proofs.Common.{◌≡◌, ℕ, ◌+◌, ◌-◌, ◌<◌, ◌≤◌, inl, inr, List, length, get_or, Contains, refl, sym, subst}
use Rattle.std.proofs.Common.{arith, ⊎_elim}
use Rattle.std.proofs.lemmas.Bool.{cases_lt, cases_eq, cases_Bool, both_ways}
use Rattle.std.proofs.lemmas.Option.{slice_get_past}
use Rattle.std.proofs.lemmas.List.Elements.{All-contains}
use Rattle.mesh_defs.specs.ClosedSet.{leaves_of, among}
use Rattle.mesh_defs.specs.Ranking.{IsBefore}
use Rattle.mesh_defs.specs.Greedy.{IsFirstLeaf}
use Rattle.mesh_laws.proofs.DescentLemmas.{IsAddress-splittable}
use Rattle.mesh_defs.specs.GridSet.{IsGridSet}
use Rattle.mesh_laws.proofs.RankLemmas.{HoldsBelow, HasMissing, first_missing, missing_first, slice_get-at}
use Rattle.mesh_laws.specs.Order.{IsNoLater, RanksNoLater}
use Rattle.mesh_laws.specs.Diamond.{IsInDiamond}
use Rattle.mesh_laws.proofs.OrderLemmas.{before-no_later, no_later_from, no_later_trans, no_later_before}
use Rattle.mesh_laws.proofs.OrderLemmas.{ranks_no_later}
use Rattle.mesh_laws.proofs.FirstLeafLemmas.{first_leaf_or_none, leaf_above, exceeds}
use Rattle.mesh_laws.specs.Steps.{leaf_count, IsMergeStep, StepRun, begin, split, merge}
use Rattle.mesh_laws.specs.Deferred.{IsMergedInRun, LeafStraddles, DiamondStraddles, after_first, after_merged}
use Rattle.mesh_laws.specs.Deferred.{DeferredFrame, IsDeferredFrame}
use Rattle.mesh_laws.proofs.DiamondLemmas.{diamond_test, leaf_outside}
use Rattle.mesh_laws.proofs.LeadLemmas.{lead_first}
use Rattle.mesh_laws.proofs.RunLemmas.{run_set, split_keeps}

module _ (w : DeferredFrame) (is : IsDeferredFrame w) where
  -- where the leaves are within the budget, a leaf whose key comes first straddles by it
  pub asked_leaf : (members : List ℕ) → IsGridSet w.n members → leaf_count w.n members ≤ w.budget →
      (key : ℕ → ℕ) → ((l : ℕ) → Contains (leaves_of w.n (among members)) l → w.priority l ≤ key l) →
      (a : ℕ) → ((l : ℕ) → Contains (leaves_of w.n (among members)) l → IsNoLater (key a) a (key l) l) → 0 < key a →
      LeafStraddles w.priority w.ranking w.chosen key a
  asked_leaf members set within key above a first some = record {
    positive = λ none. some;
    before_blocking = λ b blocks. ⊎_elim
        (λ (less : w.chosen < length w.ranking).
        let at = slice_get-at w.chosen w.ranking less in
        let same : get_or w.ranking w.chosen 0 ≡ b = cc in
        subst (λ z. IsNoLater (key a) a (w.priority z) z) same (no_later_blocking less))
        (λ past.
        let none = slice_get_past w.ranking w.chosen past in
        let e : ⊥ = cc in absurd e)
        (cases_lt w.chosen (length w.ranking));
  }
    where
      -- no later than the entry at a place, where the first leaf in rank stands no later
      no_later_place : (m : HasMissing (among members) w.ranking) →
          IsNoLater (key a) a (w.priority (get_or w.ranking m.0 0)) (get_or w.ranking m.0 0)
      no_later_place m =
          let leaf = (missing_first w.n w.priority w.ranking is.ranked is.falling (among members) set.closed m).leaf in
          no_later_trans (first (get_or w.ranking m.0 0) leaf)
          (no_later_from (above (get_or w.ranking m.0 0) leaf) (omega arith))

      no_later_blocking : w.chosen < length w.ranking →
          IsNoLater (key a) a (w.priority (get_or w.ranking w.chosen 0)) (get_or w.ranking w.chosen 0)
      no_later_blocking less = ⊎_elim
          (λ (all : HoldsBelow (among members) w.ranking (w.chosen + 1)).
          let over = exceeds w.n w.priority w.ranking is.ranked is.falling w.budget w.chosen w.best is.closure
          (among members) set.closed less all in
          absurd (omega arith))
          (λ (m : HasMissing (among members) w.ranking). ⊎_elim
          (λ (early : m.0 < w.chosen). no_later_trans (no_later_place m)
          (before-no_later (is.ranked.ordered m.0 w.chosen 0 early less)))
          (λ (rest : w.chosen ≤ m.0). ⊎_elim
          (λ (late : w.chosen < m.0).
          let over = exceeds w.n w.priority w.ranking is.ranked is.falling w.budget w.chosen w.best is.closure
          (among members) set.closed less
          (λ i low inside. m.3 i (omega arith) inside) in
          absurd (omega arith))
          (λ (here : m.0 ≤ w.chosen). subst (λ z. IsNoLater (key a) a (w.priority (get_or w.ranking z 0))
          (get_or w.ranking z 0)) (let e : m.0 ≡ w.chosen = omega arith in e) (no_later_place m))
          (cases_lt w.chosen m.0))
          (cases_lt m.0 w.chosen))
          (first_missing (among members) w.ranking (w.chosen + 1) (omega arith))

  -- the first leaf in rank of the start, or a diamond merged since, ranks no later than a
  pub data Floor (a : ℕ) : Type 0 where
    by_first : (f : ℕ) → IsFirstLeaf w.n w.priority (among w.start) f → RanksNoLater w.priority f a → Floor a
    by_merged : (d : ℕ) → IsMergedInRun w.n w.budget w.priority w.start d → RanksNoLater w.priority d a → Floor a

  floor_down : (a b : ℕ) → Floor a → RanksNoLater w.priority a b → Floor b
  floor_down a b (by_first f h l) k = by_first f h (no_later_trans l k)
  floor_down a b (by_merged d h l) k = by_merged d h (no_later_trans l k)

  -- no leaf of positive priority that a run comes to is above all of these
  pub run_floor : (members : List ℕ) (added removed : ℕ) →
      StepRun w.n w.budget w.priority w.start members added removed →
      (a : ℕ) → Contains (leaves_of w.n (among members)) a → 0 < w.priority a → Floor a
  run_floor members added removed begin a leaf some = ⊎_elim
      (λ (f : (f : ℕ) × IsFirstLeaf w.n w.priority (among w.start) f).
      by_first f.0 f.1 (ranks_no_later w.priority (⊎_elim
      (λ same. inl (sym same))
      (λ differ. inr (f.1.first a leaf some differ))
      (cases_eq a f.0))))
      (λ zeros.
      let none : w.priority a ≡ 0 = All-contains (λ l. w.priority l ≡ 0) (leaves_of w.n (among w.start)) a zeros leaf in
      absurd (omega arith))
      (first_leaf_or_none w.n w.priority (among w.start))
  run_floor _ added removed (split before after x y run step) a leaf some =
      let now = run_set w.n w.budget w.priority w.start before x y is.set run in
      let outer = leaf_outside w.n (among after) a step.forced.least.closed leaf in
      let l = leaf_above w.n w.priority w.ranking is.ranked is.falling (among before) now.closed a outer.address some
      (λ h. outer.outside (split_keeps w.n w.budget w.priority before after step a h)) in
      floor_down l.leaf a (run_floor before x y run l.leaf l.listed l.positive) l.no_later
  run_floor _ added removed (merge before after x y run step) a leaf some =
      let now = run_set w.n w.budget w.priority w.start before x y is.set run in
      let then = run_set w.n w.budget w.priority w.start after x (y + (length before - length after)) is.set
      (merge before after x y run step) in
      let outer = leaf_outside w.n (among after) a then.closed leaf in
      let t = diamond_test w.n step.diamond (IsAddress-splittable w.n step.diamond
      (now.closed.splittable step.diamond step.last.lead.mergeable.member)) in
      ⊎_elim
      (λ inside. by_merged step.diamond
      record { before = before; after = after; added = x; removed = y; run = run; step = step; lead = refl }
      (lead_first w.n w.priority (among before) now.closed step.diamond a step.last.lead ((t.1 a).0 inside)))
      (λ outside.
      let l = leaf_above w.n w.priority w.ranking is.ranked is.falling (among before) now.closed a outer.address some
      (λ h. outer.outside ((step.merged.members a).1 (h, λ i. both_ways (t.0 a) outside ((t.1 a).1 i)))) in
      floor_down l.leaf a (run_floor before x y run l.leaf l.listed l.positive) l.no_later)
      (cases_Bool (t.0 a))

  -- a diamond whose lower bounds come after the first leaf in rank straddles
  pub asked_diamond : (members : List ℕ) (added removed : ℕ) →
      StepRun w.n w.budget w.priority w.start members added removed →
      (f : ℕ) → IsFirstLeaf w.n w.priority (among members) f → (lower : ℕ → ℕ) (a : ℕ) →
      ((b : ℕ) → IsInDiamond w.n a b → IsBefore (w.priority f) f (lower b) b) →
      DiamondStraddles w.n w.budget w.priority w.start lower a
  asked_diamond members added removed run f first lower a after =
      elim (run_floor members added removed run f first.leaf first.positive) as (λ _.
      DiamondStraddles w.n w.budget w.priority w.start lower a) [
        | by_first g h l ↦ after_first g h (λ b i. no_later_before l (after b i))
        | by_merged d h l ↦ after_merged d h (λ b i. before-no_later (no_later_before l (after b i)))
      ]

  -- and so does one whose lower bounds come no earlier than the diamond that is then merged
  pub asked_over : (members : List ℕ) (added removed : ℕ) (after : List ℕ) →
      StepRun w.n w.budget w.priority w.start members added removed →
      (step : IsMergeStep w.n w.budget w.priority members after) → (lower : ℕ → ℕ) (a : ℕ) →
      ((b : ℕ) → IsInDiamond w.n a b → IsNoLater (w.priority step.diamond) step.diamond (lower b) b) →
      DiamondStraddles w.n w.budget w.priority w.start lower a
  asked_over members added removed after run step lower a h =
      after_merged step.diamond record {
        before = members;
        after = after;
        added = added;
        removed = removed;
        run = run;
        step = step;
        lead = refl;
      } h
