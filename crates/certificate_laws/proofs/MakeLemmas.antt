-- Each optimal mesh has a sound certificate: the closure of all triangles of at least its worst is a mesh with a
-- lower worst, so it exceeds the budget; and reasons can be listed until all of that closure is.
use Rattle.std.proofs.Common.{◌≡◌, ℕ, zero, suc, ◌+◌, ◌-◌, ◌/◌, ◌<◌, ◌≤◌, ◌⊎◌, inl, inr, Bool, true, false, IsTrue}
use Rattle.std.proofs.Common.{List, [], ◌∷◌, ◌++◌, length, refl, sym, ◌∙◌, subst, arith, ⊎_elim, length-append}
use Rattle.std.proofs.lemmas.Bool.{cases_lt, cases_Bool, both_ways}
use Rattle.mesh_defs.specs.Triangle.{IsAddress, IsMate}
use Rattle.mesh_defs.specs.ClosedSet.{IsSubset, IsLeastClosed, leaves_of}
use Rattle.mesh_defs.specs.Priority.{worst_of}
use Rattle.mesh_defs.specs.Ranking.{IsRanking, IsRankClosure}
use Rattle.mesh_defs.specs.BestMesh.{IsBestMesh}
use Rattle.bintree_laws.proofs.CentreLemmas.{mate_unique}
use Rattle.mesh_laws.proofs.DescentLemmas.{IsAddress-splittable}
use Rattle.mesh_laws.proofs.ConformityLemmas.{IsConforming-leaves_of}
use Rattle.mesh_defs.proofs.ListLemmas.{IsIn, IsIn-among, among-in}
use Rattle.mesh_defs.specs.Falling.{IsFalling}
use Rattle.mesh_laws.proofs.RankLemmas.{IsBestMesh-greedy, IsGreedyEnd-closure, splittable-positive}
use Rattle.mesh_laws.proofs.SetListLemmas.{list_of, ascending-list_of, among-list_of}
use Rattle.mesh_laws.proofs.SetListLemmas.{length-distinct}
use Rattle.mesh_laws.proofs.DiamondLemmas.{mate_or_none}
use Rattle.mesh_laws.specs.Least.{is_worse}
use Rattle.mesh_laws.proofs.LeastLemmas.{worse-iff, least_found, least_within}
use Rattle.certificate_laws.specs.declared.reason.Kind.TheVariants.{Want, Parent, Mate}
use Rattle.certificate_laws.specs.declared.reason.Reason.{Reason}
use Rattle.certificate_laws.specs.Certificate.{reason_triangles, named_in, IsReason, AreReasons, IsSound, IsOptimal}
use Rattle.certificate_laws.specs.Certificate.{AreAllReasons}
use Rattle.certificate_laws.proofs.DistinctLemmas.{some_or_none, distinct-ascending, size_of-leaves}
use Rattle.certificate_laws.proofs.SoundLemmas.{earlier_cases, reasons_next, reasons_inside, length-triangles_of}

-- listing a closure

-- What is worse than a tolerance, and its closure.
module _ (n tolerance : ℕ) (priority : ℕ → ℕ) (has : ℕ → Bool)
    (closure : IsLeastClosed n (is_worse n tolerance priority) has) where
  -- reasons of members
  abbrev pub AreInside : List Reason → Type 0
  AreInside reasons = (a : ℕ) → IsIn a (reason_triangles reasons) → IsTrue (has a)

  -- reasons that hold what is wanted, and with each triangle its parent and mate, are all: where a maker's queue ends
  pub all_listed : (reasons : List Reason) → AreInside reasons →
      IsSubset (is_worse n tolerance priority) (named_in reasons) →
      ((b : ℕ) → IsIn b (reason_triangles reasons) → 4 ≤ b → IsTrue (named_in reasons (b / 2))) →
      ((b m : ℕ) → IsIn b (reason_triangles reasons) → IsMate n b m → IsTrue (named_in reasons m)) →
      IsSubset has (named_in reasons)
  all_listed reasons inside wants parents mates = closure.least (named_in reasons)
      record {
        splittable = λ a h. closure.closed.splittable a (inside a (IsIn-among a (reason_triangles reasons) h));
        parent = λ a h big. parents a (IsIn-among a (reason_triangles reasons) h) big;
        mate = λ a b h m. mates a b (IsIn-among a (reason_triangles reasons) h) m;
      }
      wants

  -- one reason more: of a member that is not listed
  abbrev HasNext : List Reason → Type 0
  HasNext reasons = (r : Reason) × IsTrue (has r.triangle) × IsReason n priority (suc tolerance) (named_in reasons) r

  -- a triangle that is wanted and not listed
  abbrev IsWanted : List Reason → ℕ → Type 0
  IsWanted reasons a = IsTrue (is_worse n tolerance priority a) × (named_in reasons a ≡ false)

  -- a listed triangle whose parent is not
  abbrev LacksParent : List Reason → ℕ → Type 0
  LacksParent reasons b = (4 ≤ b) × (named_in reasons (b / 2) ≡ false)

  -- a listed triangle whose mate is not
  abbrev LacksMate : List Reason → ℕ → Type 0
  LacksMate reasons b = (m : ℕ) × IsMate n b m × (named_in reasons m ≡ false)

  -- each is decided
  wanted_or_not : (reasons : List Reason) (a : ℕ) → IsWanted reasons a ⊎ (IsWanted reasons a → ⊥)
  wanted_or_not reasons a = ⊎_elim
      (λ worse. ⊎_elim
      (λ listed. inr (λ (w : IsWanted reasons a). both_ways (named_in reasons a) w.1 listed))
      (λ missing. inl (worse, missing))
      (cases_Bool (named_in reasons a)))
      (λ fits. inr (λ (w : IsWanted reasons a). both_ways (is_worse n tolerance priority a) fits w.0))
      (cases_Bool (is_worse n tolerance priority a))

  lacks_parent_or_not : (reasons : List Reason) (b : ℕ) → LacksParent reasons b ⊎ (LacksParent reasons b → ⊥)
  lacks_parent_or_not reasons b = ⊎_elim
      (λ small. inr (λ (l : LacksParent reasons b). let big = l.0 in absurd (omega arith)))
      (λ big. ⊎_elim
      (λ listed. inr (λ (l : LacksParent reasons b). both_ways (named_in reasons (b / 2)) l.1 listed))
      (λ missing. inl (big, missing))
      (cases_Bool (named_in reasons (b / 2))))
      (cases_lt b 4)

  lacks_mate_or_not : (reasons : List Reason) (b : ℕ) → IsAddress n b → LacksMate reasons b ⊎ (LacksMate reasons b → ⊥)
  lacks_mate_or_not reasons b address = ⊎_elim
      (λ (found : (m : ℕ) × IsMate n b m). ⊎_elim
      (λ listed. inr (λ (l : LacksMate reasons b). both_ways (named_in reasons l.0) l.2
      (subst (λ z. named_in reasons z ≡ true) (mate_unique n b found.0 l.0 address found.1 l.1) listed)))
      (λ missing. inl (found.0, found.1, missing))
      (cases_Bool (named_in reasons found.0)))
      (λ (none : (m : ℕ) → IsMate n b m → ⊥). inr (λ (l : LacksMate reasons b). none l.0 l.1))
      (mate_or_none n b address)

  -- not false is true
  listed_if : (reasons : List Reason) (a : ℕ) → (named_in reasons a ≡ false → ⊥) → IsTrue (named_in reasons a)
  listed_if reasons a h = ⊎_elim (λ yes. yes) (λ no. absurd (h no)) (cases_Bool (named_in reasons a))

  -- there is a next reason, or all members are listed
  next_or_all : (reasons : List Reason) → AreInside reasons → HasNext reasons ⊎ IsSubset has (named_in reasons)
  next_or_all reasons inside = ⊎_elim
      (λ (w : (a : ℕ) × IsIn a (list_of n has) × IsWanted reasons a).
      let worse = (worse-iff n tolerance priority w.0).0 w.2.0 in
      inl (
        record { kind = Want; triangle = w.0 },
        closure.holds w.0 w.2.0,
        record {
          splittable = worse.0;
          new = w.2.1;
          why = let high = worse.1 in omega arith;
        },
      ))
      (λ (no_want : (a : ℕ) → IsIn a (list_of n has) → IsWanted reasons a → ⊥). ⊎_elim
      (λ (p : (b : ℕ) × IsIn b (reason_triangles reasons) × LacksParent reasons b).
      let member : IsTrue (has (p.0 / 2)) = closure.closed.parent p.0 (inside p.0 p.1) p.2.0 in
      inl (
        record { kind = Parent; triangle = p.0 / 2 },
        member,
        record {
          splittable = closure.closed.splittable (p.0 / 2) member;
          new = p.2.1;
          why = (p.0, among-in p.0 (reason_triangles reasons) p.1, p.2.0, refl);
        },
      ))
      (λ (no_parent : (b : ℕ) → IsIn b (reason_triangles reasons) → LacksParent reasons b → ⊥). ⊎_elim
      (λ (p : (b : ℕ) × IsIn b (reason_triangles reasons) × LacksMate reasons b).
      inl (
        record { kind = Mate; triangle = p.2.0 },
        closure.closed.mate p.0 p.2.0 (inside p.0 p.1) p.2.1,
        record {
          splittable = closure.closed.splittable p.2.0 (closure.closed.mate p.0 p.2.0 (inside p.0 p.1) p.2.1);
          new = p.2.2;
          why = (p.0, among-in p.0 (reason_triangles reasons) p.1, p.2.1);
        },
      ))
      (λ (no_mate : (b : ℕ) → IsIn b (reason_triangles reasons) → LacksMate reasons b → ⊥).
      inr (all_listed reasons inside
      (λ a h. listed_if reasons a (λ missing. no_want a
      (IsIn-among a (list_of n has) (sym (among-list_of n has closure.closed a) ∙ closure.holds a h)) (h, missing)))
      (λ b i big. listed_if reasons (b / 2) (λ missing. no_parent b i (big, missing)))
      (λ b m i mate. listed_if reasons m (λ missing. no_mate b i (m, mate, missing)))))
      (some_or_none (LacksMate reasons) (reason_triangles reasons)
      (λ b i. lacks_mate_or_not reasons b (IsAddress-splittable n b (closure.closed.splittable b (inside b i))))))
      (some_or_none (LacksParent reasons) (reason_triangles reasons) (λ b i. lacks_parent_or_not reasons b)))
      (some_or_none (IsWanted reasons) (list_of n has) (λ a i. wanted_or_not reasons a))

  -- a list of so many reasons of members
  pub record Listing (many : ℕ) : Type 0 where
    pub reasons : List Reason
    pub long : length reasons ≡ many
    pub inside : AreInside reasons
    pub reasoned : AreReasons n priority (suc tolerance) [] reasons

  -- there is one of each length up to the size of the set
  pub listing_of : (many : ℕ) → many + 2 ≤ length (leaves_of n has) → Listing many
  listing_of zero fits = record { reasons = []; long = refl; inside = λ a h. absurd h; reasoned = tt }
  listing_of (suc many) fits =
      let l : Listing many = listing_of many (omega arith) in
      ⊎_elim
      (λ (next : HasNext l.reasons). record {
        reasons = l.reasons ++ next.0 ∷ [];
        long = let e = length-append l.reasons (next.0 ∷ []) in let f = l.long in omega arith;
        inside = λ a h. ⊎_elim
            (l.inside a)
            (λ (same : next.0.triangle ≡ a). subst (λ z. IsTrue (has z)) same next.1)
            (earlier_cases l.reasons next.0 a h);
        reasoned = reasons_next n priority (suc tolerance) [] l.reasons next.0 l.reasoned next.2;
      })
      (λ (all : IsSubset has (named_in l.reasons)).
      let size = size_of-leaves n has closure.closed in
      let most = length-distinct (list_of n has) (reason_triangles l.reasons)
      (distinct-ascending (list_of n has) (ascending-list_of n has))
      (λ a h. all a (among-list_of n has closure.closed a ∙ h)) in
      let same = length-triangles_of l.reasons in
      let f = l.long in
      absurd (omega arith))
      (next_or_all l.reasons l.inside)

-- certificates

-- an optimal mesh of positive worst has a sound certificate of budget - 1 reasons
sound-positive : (n budget tolerance : ℕ) (priority : ℕ → ℕ) (leaves : List ℕ) → IsFalling n priority →
    IsOptimal n budget priority leaves →
    worst_of priority leaves ≡ suc tolerance →
    (reasons : List Reason) × IsSound n budget priority leaves reasons × (length reasons ≤ budget - 1)
sound-positive n budget tolerance priority leaves falling is worst =
    let c = least_found n tolerance priority in
    let low = least_within n tolerance priority c.0 falling c.1 in
    let over : budget < length (leaves_of n c.0) = ⊎_elim
    (λ more. more)
    (λ fits.
    let best = is.optimal (leaves_of n c.0) (IsConforming-leaves_of n c.0 c.1.closed) fits in
    absurd (omega arith))
    (cases_lt budget (length (leaves_of n c.0))) in
    let l = listing_of n tolerance priority c.0 c.1 (budget - 1)
    (let size = size_of-leaves n c.0 c.1.closed in omega arith) in
    let long = l.long in (
      l.reasons,
      record {
        conforming = is.conforming;
        within = is.within;
        reasoned = subst (λ w. AreReasons n priority w [] l.reasons) (sym worst) l.reasoned;
        enough = λ _. omega arith;
      },
      omega arith,
    )

-- each optimal mesh has one
pub sound_of : (n budget : ℕ) (priority : ℕ → ℕ) (leaves : List ℕ) → IsFalling n priority →
    IsOptimal n budget priority leaves →
    (reasons : List Reason) × IsSound n budget priority leaves reasons × (length reasons ≤ budget - 1)
sound_of n budget priority leaves falling is = by_worst (worst_of priority leaves) refl
  where
    by_worst : (w : ℕ) → worst_of priority leaves ≡ w →
        (reasons : List Reason) × IsSound n budget priority leaves reasons × (length reasons ≤ budget - 1)
    by_worst zero e = (
      [],
      record { conforming = is.conforming; within = is.within; reasoned = tt; enough = λ some. absurd (omega arith) },
      omega arith,
    )
    by_worst (suc tolerance) e = sound-positive n budget tolerance priority leaves falling is e

-- where a maker's queue ends there are reasons enough
pub all-enough : (n budget : ℕ) (priority : ℕ → ℕ) (leaves : List ℕ) (reasons : List Reason) → IsFalling n priority →
    IsOptimal n budget priority leaves →
    AreReasons n priority (worst_of priority leaves) [] reasons →
    AreAllReasons n priority (worst_of priority leaves) reasons →
    0 < worst_of priority leaves → budget ≤ length reasons + 1
all-enough n budget priority leaves reasons falling is reasoned all some =
    let tolerance : ℕ = worst_of priority leaves - 1 in
    let c = least_found n tolerance priority in
    let low = least_within n tolerance priority c.0 falling c.1 in
    let inside = reasons_inside n priority (worst_of priority leaves) c.0 c.1.closed
    (λ a address high. c.1.holds a ((worse-iff n tolerance priority a).1
    (splittable-positive n priority falling a address (omega arith), omega arith)))
    [] reasons (λ a h. absurd h) reasoned in
    let listed = all_listed n tolerance priority c.0 c.1 reasons inside
    (λ a h. let w = (worse-iff n tolerance priority a).0 h in all.wants a w.0 (let high = w.1 in omega arith))
    (λ b i big. all.parents b (among-in b (reason_triangles reasons) i) big)
    (λ b m i mate. all.mates b m (among-in b (reason_triangles reasons) i) mate) in
    let size = size_of-leaves n c.0 c.1.closed in
    let most = length-distinct (list_of n c.0) (reason_triangles reasons)
    (distinct-ascending (list_of n c.0) (ascending-list_of n c.0))
    (λ a h. listed a (among-list_of n c.0 c.1.closed a ∙ h)) in
    let same = length-triangles_of reasons in
    ⊎_elim
    (λ over. omega arith)
    (λ fits.
    let best = is.optimal (leaves_of n c.0) (IsConforming-leaves_of n c.0 c.1.closed) fits in
    absurd (omega arith))
    (cases_lt budget (length (leaves_of n c.0)))

-- a best mesh is optimal
pub optimal-best : (n budget : ℕ) (priority : ℕ → ℕ) (leaves : List ℕ) → IsBestMesh n budget priority leaves →
    IsOptimal n budget priority leaves
optimal-best n budget priority leaves best = record {
  conforming = best.conforming;
  within = best.within;
  optimal = best.optimal;
}

-- the leaves of a rank closure have a certificate
pub sound-closure : (n budget : ℕ) (priority : ℕ → ℕ) (ranking : List ℕ) (chosen : ℕ) (has : ℕ → Bool) →
    IsRanking n priority ranking →
    IsFalling n priority → 2 ≤ budget → IsRankClosure n budget ranking chosen has →
    (reasons : List Reason) × IsSound n budget priority (leaves_of n has) reasons × (length reasons ≤ budget - 1)
sound-closure n budget priority ranking chosen has ranked falling low closure =
    sound_of n budget priority (leaves_of n has) falling (optimal-best n budget priority (leaves_of n has)
    (IsBestMesh-greedy n priority ranking ranked falling budget has low
    (IsGreedyEnd-closure n priority ranking ranked falling budget chosen has closure)))
