-- A set has a next one, or the frame is finished.
use Rattle.std.proofs.Common.{◌≡◌, ℕ, ◌/◌, ◌<◌, ◌≤◌, ◌⊎◌, inl, inr, Bool, IsTrue, List, [], ◌∷◌, All, refl, sym, subst}
use Rattle.std.proofs.Common.{arith, ⊎_elim}
use Rattle.std.proofs.lemmas.Bool.{cases_lt, cases_eq}
use Rattle.mesh_defs.specs.Triangle.{IsAddress}
use Rattle.mesh_defs.specs.ClosedSet.{IsClosed, leaves_of, among}
use Rattle.mesh_defs.specs.Ranking.{RanksBefore}
use Rattle.mesh_defs.specs.Greedy.{IsFirstLeaf}
use Rattle.mesh_laws.proofs.DescentLemmas.{IsAddress-splittable}
use Rattle.mesh_defs.proofs.ListLemmas.{IsIn-among, among-in}
use Rattle.mesh_defs.specs.GridSet.{IsGridSet}
use Rattle.mesh_defs.specs.Falling.{IsFalling}
use Rattle.mesh_laws.proofs.ClosureLemmas.{leaves_of-none}
use Rattle.mesh_laws.specs.Order.{RanksNoLater}
use Rattle.mesh_laws.proofs.OrderLemmas.{before_trans, before_cases, no_later-le, no_later_before, ranks_no_later}
use Rattle.mesh_laws.proofs.OrderLemmas.{IsFirstOf, first_of}
use Rattle.mesh_laws.specs.Lead.{IsLead, IsLastLead}
use Rattle.mesh_laws.proofs.FirstLeafLemmas.{first_leaf_or_none, first_leaf_splittable}
use Rattle.mesh_laws.specs.Steps.{leaf_count, DoesNotFit, IsSplitStep, MustMerge, too_many, makes_room, needless}
use Rattle.mesh_laws.specs.Steps.{IsMergeStep, IsFinished, blocked, all_split}
use Rattle.mesh_laws.proofs.DiamondLemmas.{ChildMember, child_or_childless, not_childless, leaf_outside}
use Rattle.mesh_laws.proofs.DiamondLemmas.{without_diamond}
use Rattle.mesh_laws.proofs.ExistenceLemmas.{forced_list}
use Rattle.mesh_laws.proofs.LeadLemmas.{lead_of, lead_unique, held_by}

module _ (n : ℕ) (priority : ℕ → ℕ) where
  order : (a b : ℕ) → (a ≡ b) ⊎ (RanksBefore priority a b ⊎ RanksBefore priority b a)
  order a b = before_cases (priority a) a (priority b) b

  -- whether a member leads
  lead_or_not : (has : ℕ → Bool) → IsClosed n has → (a : ℕ) → IsTrue (has a) →
      IsLead n priority has a ⊎ (IsLead n priority has a → ⊥)
  lead_or_not has closed a member =
      let address : IsAddress n a = IsAddress-splittable n a (closed.splittable a member) in
      ⊎_elim
      (λ (below : ChildMember n has a).
      inr (λ (lead : IsLead n priority has a). not_childless n has below.child (below.child / 2) refl
      (lead.mergeable.childless (below.child / 2) below.in_diamond) below.member))
      (λ childless.
      let r = lead_of n priority has closed a record { member = member; childless = childless } in
      ⊎_elim
      (λ (same : r.0 ≡ a). inl (subst (λ z. IsLead n priority has z) same r.1))
      (λ differ. inr (λ (lead : IsLead n priority has a).
      differ (lead_unique n priority has closed a r.0 lead r.1 r.2)))
      (cases_eq r.0 a))
      (child_or_childless n has a address)

  -- the last diamond in rank, or none can be merged
  pub last_lead_or_none : (members : List ℕ) → IsClosed n (among members) →
      ((d : ℕ) × IsLastLead n priority (among members) d) ⊎ ((d : ℕ) → IsLead n priority (among members) d → ⊥)
  last_lead_or_none members closed =
      let turned : (a b : ℕ) → (a ≡ b) ⊎ (RanksBefore priority b a ⊎ RanksBefore priority a b) = λ a b. ⊎_elim
      (λ same. inl same)
      (λ order. inr (⊎_elim (λ before. inr before) (λ after. inl after) order))
      (order a b) in
      ⊎_elim
      (λ (r : (d : ℕ) × IsFirstOf (λ a b. RanksBefore priority b a) turned (λ a b c h k. before_trans k h)
      (IsLead n priority (among members)) members d).
      inl (
        r.0,
        record {
          lead = r.1.is;
          last = λ a lead other. ⊎_elim
              (λ same. absurd (other same))
              (λ before. before)
              (r.1.first a (IsIn-among a members lead.mergeable.member) lead);
        },
      ))
      (λ none. inr (λ d lead. none d (IsIn-among d members lead.mergeable.member) lead))
      (first_of (λ a b. RanksBefore priority b a) turned (λ a b c h k. before_trans k h)
      (IsLead n priority (among members)) members
      (λ a i. lead_or_not (among members) closed a (among-in a members i)))

  -- a set with more than two leaves has a diamond that can be merged
  pub some_lead : (members : List ℕ) (budget : ℕ) → IsClosed n (among members) → 2 ≤ budget →
      budget < leaf_count n members →
      ((d : ℕ) → IsLead n priority (among members) d → ⊥) → ⊥
  some_lead [] budget closed low over none = let e = leaves_of-none n (among []) (λ a. refl) in omega arith
  some_lead (x ∷ xs) budget closed low over none =
      let r = held_by n priority (among (x ∷ xs)) closed x (among-in x (x ∷ xs) (inl refl)) in none r.0 r.1.0

-- the three ways on from a set
pub data Next (n budget : ℕ) (priority : ℕ → ℕ) (before : List ℕ) : Type 0 where
  splits : (after : List ℕ) → IsSplitStep n budget priority before after → Next n budget priority before
  merges : (after : List ℕ) → IsMergeStep n budget priority before after → Next n budget priority before
  ends : IsFinished n budget priority before → Next n budget priority before

module _ (n budget : ℕ) (priority : ℕ → ℕ) (falling : IsFalling n priority) where
  merged : (before : List ℕ) (d : ℕ) → IsGridSet n before → IsLastLead n priority (among before) d →
      MustMerge n budget priority before d → Next n budget priority before
  merged before d set last must =
      let w = without_diamond n before d set.ascending
      (IsAddress-splittable n d (set.closed.splittable d last.lead.mergeable.member)) in
      merges w.0 record { diamond = d; last = last; must = must; merged = w.1 }

  -- every lead is the last one or ranks before it
  pub no_later_last : (has : ℕ → Bool) (d a : ℕ) → IsLastLead n priority has d → IsLead n priority has a →
      RanksNoLater priority a d
  no_later_last has d a last lead =
      ranks_no_later priority (⊎_elim (λ same. inl same) (λ differ. inr (last.last a lead differ)) (cases_eq a d))

  -- a set within the budget with a first leaf that does not fit
  next_blocked : (before : List ℕ) (f : ℕ) → IsGridSet n before → leaf_count n before ≤ budget →
      DoesNotFit n budget priority before f → Next n budget priority before
  next_blocked before f set within no_room = ⊎_elim
      (λ (d : (d : ℕ) × IsLastLead n priority (among before) d). ⊎_elim
      (λ (same : f ≡ d.0). absurd (outside (subst (λ z. IsTrue (among before z)) (sym same) d.1.lead.mergeable.member)))
      (λ order. ⊎_elim
      (λ (room : RanksBefore priority f d.0). merged before d.0 set d.1 (makes_room f within no_room room))
      (λ (stop : RanksBefore priority d.0 f). ends
      (blocked f within no_room (λ a lead. no_later_before (no_later_last (among before) d.0 a d.1 lead) stop)))
      order)
      (before_cases (priority f) f (priority d.0) d.0))
      (λ none. ends (blocked f within no_room (λ d lead. absurd (none d lead))))
      (last_lead_or_none n priority before set.closed)
    where
      outside : IsTrue (among before f) → ⊥
      outside = (leaf_outside n (among before) f set.closed no_room.first.leaf).outside

  -- a set within the budget where each leaf has priority 0
  next_zeros : (before : List ℕ) → IsGridSet n before → leaf_count n before ≤ budget →
      All (λ a. priority a ≡ 0) (leaves_of n (among before)) → Next n budget priority before
  next_zeros before set within zeros = ⊎_elim
      (λ (d : (d : ℕ) × IsLastLead n priority (among before) d). ⊎_elim
      (λ (some : 0 < priority d.0). ends (all_split within zeros (λ a lead.
      let high = no_later-le (no_later_last (among before) d.0 a d.1 lead) in omega arith)))
      (λ (none : priority d.0 ≤ 0). merged before d.0 set d.1
      (needless within zeros (let e : priority d.0 ≡ 0 = omega arith in e)))
      (cases_lt 0 (priority d.0)))
      (λ none. ends (all_split within zeros (λ d lead. absurd (none d lead))))
      (last_lead_or_none n priority before set.closed)

  -- a set has a next one, or the frame is finished
  pub next : (before : List ℕ) → IsGridSet n before → 2 ≤ budget → Next n budget priority before
  next before set low = ⊎_elim
      (λ (over : budget < leaf_count n before). ⊎_elim
      (λ (d : (d : ℕ) × IsLastLead n priority (among before) d). merged before d.0 set d.1 (too_many over))
      (λ none. absurd (some_lead n priority before budget set.closed low over none))
      (last_lead_or_none n priority before set.closed))
      (λ (within : leaf_count n before ≤ budget). ⊎_elim
      (λ (f : (f : ℕ) × IsFirstLeaf n priority (among before) f).
      let u = forced_list n before f.0 set.closed
      (first_leaf_splittable n priority falling (among before) f.0 set.closed f.1) in
      ⊎_elim
      (λ (over : budget < leaf_count n u.0).
      next_blocked before f.0 set within record { first = f.1; after = u.0; forced = u.1; over = over })
      (λ (fits : leaf_count n u.0 ≤ budget). splits u.0 record {
        leaf = f.0;
        within = within;
        first = f.1;
        forced = u.1;
        fits = fits;
      })
      (cases_lt budget (leaf_count n u.0)))
      (λ zeros. next_zeros before set within zeros)
      (first_leaf_or_none n priority (among before)))
      (cases_lt budget (leaf_count n before))
