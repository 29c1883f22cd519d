-- Whether a reason is one is decided, so each certificate has a verdict; and it has one alone.
use Rattle.std.proofs.Common.{◌≡◌, ℕ, ◌+◌, ◌*◌, ◌/◌, ◌%◌, ◌^◌, ◌<◌, ◌≤◌, ◌⊎◌, ◌↔◌, inl, inr, Bool, IsTrue, List}
use Rattle.std.proofs.Common.{[], ◌∷◌, ◌++◌, length, take, drop, refl, sym, ◌∙◌, ap, ap₂, subst, arith, ⊎_elim}
use Rattle.std.proofs.Common.{append_assoc, length-append}
use Rattle.std.proofs.lemmas.Bool.{cases_lt, cases_order, cases_Bool, both_ways}
use Rattle.std.proofs.lemmas.List.{append-nil, take_at, take-append-le, take-append-drop}
use Rattle.mesh_defs.specs.Triangle.{IsAddress, IsSplittable, IsMate}
use Rattle.mesh_defs.specs.Tiling.{IsConforming}
use Rattle.mesh_defs.specs.Priority.{worst_of}
use Rattle.bintree_laws.proofs.CentreLemmas.{mate_unique, mate_symmetric}
use Rattle.mesh_laws.proofs.DescentLemmas.{IsAddress-splittable}
use Rattle.mesh_laws.proofs.SweepLemmas.{splittable-lt, lt-splittable}
use Rattle.mesh_defs.proofs.ListLemmas.{IsIn, IsIn-among}
use Rattle.mesh_laws.proofs.DiamondLemmas.{mate_or_none}
use Rattle.certificate_laws.specs.declared.reason.Reason.{Reason}
use Rattle.certificate_laws.specs.declared.reason.Reject.{Reject}
use Rattle.certificate_laws.specs.declared.reason.Reject.TheVariants.{BadLine, NotConforming, OverBudget, BadReason}
use Rattle.certificate_laws.specs.declared.reason.Reject.TheVariants.{TooFewReasons, MeshDiffers}
use Rattle.certificate_laws.specs.declared.reason.Verdict.{Verdict}
use Rattle.certificate_laws.specs.declared.reason.Verdict.TheVariants.{Certified, Rejected}
use Rattle.certificate_laws.specs.declared.reason.Kind.{Kind}
use Rattle.certificate_laws.specs.declared.reason.Kind.TheVariants.{Want, Parent, Mate}
use Rattle.certificate_laws.specs.Certificate.{reason_triangles, named_in, IsWhy, IsReason, AreReasons, IsFirstBad}
use Rattle.certificate_laws.specs.Certificate.{IsSound, IsRejected, IsVerdict}
use Rattle.certificate_laws.proofs.SoundLemmas.{reasons_next, reasons_before}
use Rattle.certificate_laws.proofs.CutLemmas.{conforming_or_not}

-- one reason

-- it is the parent of a triangle of the set exactly where one of its children is there
pub parent-why : (earlier : ℕ → Bool) (a : ℕ) → 2 ≤ a →
    ((b : ℕ) × IsTrue (earlier b) × (4 ≤ b) × (a ≡ b / 2)) ↔ (IsTrue (earlier (2 * a)) ⊎ IsTrue (earlier (2 * a + 1)))
parent-why earlier a low = (
  (λ w. ⊎_elim
      (λ even. inl (subst (λ z. IsTrue (earlier z)) (let half = w.3 in let e : w.0 ≡ 2 * a = omega arith in e) w.1))
      (λ odd. inr (subst (λ z. IsTrue (earlier z)) (let half = w.3 in let e : w.0 ≡ 2 * a + 1 = omega arith in e) w.1))
      (cases_lt (w.0 % 2) 1)),
  (λ h. ⊎_elim (λ left. (2 * a, left, omega arith, omega arith))
      (λ right. (2 * a + 1, right, omega arith, omega arith)) h),
)

-- it is the mate of a triangle of the set exactly where its own mate is there
pub mate-why : (n : ℕ) (earlier : ℕ → Bool) (a m : ℕ) → IsAddress n a →
    ((b : ℕ) → IsTrue (earlier b) → IsAddress n b) → IsMate n a m →
    ((b : ℕ) × IsTrue (earlier b) × IsMate n b a) ↔ IsTrue (earlier m)
mate-why n earlier a m address addresses mate = (
  (λ w. subst (λ z. IsTrue (earlier z))
      (mate_unique n a w.0 m address (mate_symmetric n w.0 a (addresses w.0 w.1) w.2) mate) w.1),
  (λ h. (m, h, mate_symmetric n a m address mate)),
)

-- and a triangle without a mate is the mate of none
pub no_mate-why : (n : ℕ) (earlier : ℕ → Bool) (a : ℕ) → ((b : ℕ) → IsTrue (earlier b) → IsAddress n b) →
    ((m : ℕ) → IsMate n a m → ⊥) →
    (b : ℕ) × IsTrue (earlier b) × IsMate n b a → ⊥
no_mate-why n earlier a addresses none w = none w.0 (mate_symmetric n w.0 a (addresses w.0 w.1) w.2)

-- sets that agree have the same reasons
pub reason-same : (n : ℕ) (priority : ℕ → ℕ) (worst : ℕ) (some other : ℕ → Bool) (r : Reason) →
    ((a : ℕ) → some a ≡ other a) →
    IsReason n priority worst some r → IsReason n priority worst other r
reason-same n priority worst some other r same is = record {
  splittable = is.splittable;
  new = sym (same r.triangle) ∙ is.new;
  why = why_same r.kind r.triangle is.why;
}
  where
    why_same : (kind : Kind) (a : ℕ) → IsWhy n priority worst some kind a → IsWhy n priority worst other kind a
    why_same Want a w = w
    why_same Parent a w = (w.0, sym (same w.0) ∙ w.1, w.2, w.3)
    why_same Mate a w = (w.0, sym (same w.0) ∙ w.1, w.2)

module _ (n : ℕ) (priority : ℕ → ℕ) (worst : ℕ) where
  -- whether a cause is one is decided
  why_or_not : (earlier : ℕ → Bool) → ((b : ℕ) → IsTrue (earlier b) → IsAddress n b) →
      (kind : Kind) (a : ℕ) → IsAddress n a →
      IsWhy n priority worst earlier kind a ⊎ (IsWhy n priority worst earlier kind a → ⊥)
  why_or_not earlier addresses Want a address =
      ⊎_elim (λ less. inr (λ w. absurd (omega arith))) (λ fits. inl fits) (cases_lt (priority a) worst)
  why_or_not earlier addresses Parent a address = ⊎_elim
      (λ left. inl ((parent-why earlier a address.low).1 (inl left)))
      (λ not_left. ⊎_elim
      (λ right. inl ((parent-why earlier a address.low).1 (inr right)))
      (λ not_right. inr (λ w. ⊎_elim
      (λ left. both_ways (earlier (2 * a)) not_left left)
      (λ right. both_ways (earlier (2 * a + 1)) not_right right)
      ((parent-why earlier a address.low).0 w)))
      (cases_Bool (earlier (2 * a + 1))))
      (cases_Bool (earlier (2 * a)))
  why_or_not earlier addresses Mate a address = ⊎_elim
      (λ (found : (m : ℕ) × IsMate n a m). ⊎_elim
      (λ there. inl ((mate-why n earlier a found.0 address addresses found.1).1 there))
      (λ not_there. inr (λ w.
      both_ways (earlier found.0) not_there ((mate-why n earlier a found.0 address addresses found.1).0 w)))
      (cases_Bool (earlier found.0)))
      (λ (none : (m : ℕ) → IsMate n a m → ⊥). inr (no_mate-why n earlier a addresses none))
      (mate_or_none n a address)

  -- whether a triangle may be split is decided
  splittable_or_not : (a : ℕ) → IsSplittable n a ⊎ (IsSplittable n a → ⊥)
  splittable_or_not a = ⊎_elim
      (λ small. inr (λ (s : IsSplittable n a). let low = s.low in absurd (omega arith)))
      (λ low. ⊎_elim
      (λ coarse. inl (lt-splittable n a low coarse))
      (λ fine. inr (λ (s : IsSplittable n a). let coarse = splittable-lt n a s in absurd (omega arith)))
      (cases_lt a (2 ^ (2 * n + 1))))
      (cases_lt a 2)

  -- whether a reason is one is decided
  pub reason_or_not : (earlier : ℕ → Bool) → ((b : ℕ) → IsTrue (earlier b) → IsAddress n b) → (r : Reason) →
      IsReason n priority worst earlier r ⊎ (IsReason n priority worst earlier r → ⊥)
  reason_or_not earlier addresses r = ⊎_elim
      (λ (splittable : IsSplittable n r.triangle). ⊎_elim
      (λ old. inr (λ (is : IsReason n priority worst earlier r). both_ways (earlier r.triangle) is.new old))
      (λ new. ⊎_elim
      (λ (why : IsWhy n priority worst earlier r.kind r.triangle).
      inl record { splittable = splittable; new = new; why = why })
      (λ (no_why : IsWhy n priority worst earlier r.kind r.triangle → ⊥).
      inr (λ (is : IsReason n priority worst earlier r). no_why is.why))
      (why_or_not earlier addresses r.kind r.triangle (IsAddress-splittable n r.triangle splittable)))
      (cases_Bool (earlier r.triangle)))
      (λ (not_splittable : IsSplittable n r.triangle → ⊥).
      inr (λ (is : IsReason n priority worst earlier r). not_splittable is.splittable))
      (splittable_or_not r.triangle)

  -- reasons

  -- the triangles of reasons may be split
  pub reasons-splittable : (before reasons : List Reason) → AreReasons n priority worst before reasons → (a : ℕ) →
      IsIn a (reason_triangles reasons) → IsSplittable n a
  reasons-splittable before [] are a h = absurd h
  reasons-splittable before (x ∷ xs) are a (inl e) = subst (λ z. IsSplittable n z) e are.0.splittable
  reasons-splittable before (x ∷ xs) are a (inr h) = reasons-splittable (before ++ x ∷ []) xs are.1 a h

  -- behind good ones all are reasons, or some is the first that is none
  first_bad_from : (good rest : List Reason) → AreReasons n priority worst [] good →
      AreReasons n priority worst [] (good ++ rest) ⊎ ((index : ℕ) × IsFirstBad n priority worst (good ++ rest) index)
  first_bad_from good [] are = inl (subst (λ l. AreReasons n priority worst [] l) (sym (append-nil good)) are)
  first_bad_from good (x ∷ xs) are = ⊎_elim
      (λ (is : IsReason n priority worst (named_in good) x).
      subst (λ l. AreReasons n priority worst [] l ⊎ ((index : ℕ) × IsFirstBad n priority worst l index))
      (append_assoc good (x ∷ []) xs)
      (first_bad_from (good ++ x ∷ []) xs (reasons_next n priority worst [] good x are is)))
      (λ (fails : IsReason n priority worst (named_in good) x → ⊥).
      inr (
        length good + 1,
        record { good = good; bad = x; rest = xs; parts = refl; place = refl; reasoned = are; fails = fails },
      ))
      (reason_or_not (named_in good) (λ b h.
      IsAddress-splittable n b (reasons-splittable [] good are b (IsIn-among b (reason_triangles good) h))) x)

  -- all are reasons, or some is the first that is none
  pub first_bad_or_none : (reasons : List Reason) →
      AreReasons n priority worst [] reasons ⊎ ((index : ℕ) × IsFirstBad n priority worst reasons index)
  first_bad_or_none reasons = first_bad_from [] reasons tt

  -- not both
  pub bad_or_good : (reasons : List Reason) (index : ℕ) → IsFirstBad n priority worst reasons index →
      AreReasons n priority worst [] reasons → ⊥
  bad_or_good reasons index b are =
      b.fails (reasons_before n priority worst [] b.good b.bad b.rest
      (subst (λ l. AreReasons n priority worst [] l) b.parts are)).1

  -- of two first bad ones neither comes first
  not_earlier : (reasons : List Reason) (i j : ℕ) → IsFirstBad n priority worst reasons i →
      IsFirstBad n priority worst reasons j → i < j → ⊥
  not_earlier reasons i j b d less =
      let k : ℕ = length b.good + 1 in
      let own : length b.good + 1 ≡ i = b.place in let others : length d.good + 1 ≡ j = d.place in
      let begins : take k reasons ≡ b.good ++ b.bad ∷ [] =
      ap (λ l. take k l) (b.parts ∙ sym (append_assoc b.good (b.bad ∷ []) b.rest))
      ∙ take_at (b.good ++ b.bad ∷ []) b.rest k (length-append b.good (b.bad ∷ [])) in
      let inside : take k reasons ≡ take k d.good =
      ap (λ l. take k l) d.parts ∙ take-append-le k d.good (d.bad ∷ d.rest) (omega arith) in
      let split : d.good ≡ b.good ++ b.bad ∷ drop k d.good =
      sym (take-append-drop k d.good) ∙ ap (λ l. l ++ drop k d.good) (sym inside ∙ begins)
      ∙ append_assoc b.good (b.bad ∷ []) (drop k d.good) in
      b.fails (reasons_before n priority worst [] b.good b.bad (drop k d.good)
      (subst (λ l. AreReasons n priority worst [] l) split d.reasoned)).1

  -- so there is one
  pub first_bad_unique : (reasons : List Reason) (i j : ℕ) → IsFirstBad n priority worst reasons i →
      IsFirstBad n priority worst reasons j → i ≡ j
  first_bad_unique reasons i j b d = ⊎_elim
      (λ same. same)
      (λ differ.
      absurd (⊎_elim (λ less. not_earlier reasons i j b d less) (λ more. not_earlier reasons j i d b more) differ))
      (cases_order i j)

-- verdicts

module _ (n budget : ℕ) (priority : ℕ → ℕ) (leaves : List ℕ) (reasons : List Reason) where
  -- each certificate has a verdict
  pub verdict_of : (verdict : Verdict) × IsVerdict n budget priority leaves reasons verdict
  verdict_of = ⊎_elim
      (λ (conforming : IsConforming n leaves). ⊎_elim
      (λ over. (Rejected OverBudget, (conforming, over)))
      (λ within. ⊎_elim
      (λ (are : AreReasons n priority (worst_of priority leaves) [] reasons). ⊎_elim
      (λ none. certified record {
        conforming = conforming;
        within = within;
        reasoned = are;
        enough = λ some. absurd (omega arith);
      })
      (λ some. ⊎_elim
      (λ few. (Rejected TooFewReasons, (conforming, within, are, some, few)))
      (λ enough. certified record { conforming = conforming; within = within; reasoned = are; enough = λ _. enough })
      (cases_lt (length reasons + 1) budget))
      (cases_lt (worst_of priority leaves) 1))
      (λ (bad : (index : ℕ) × IsFirstBad n priority (worst_of priority leaves) reasons index).
      (Rejected (BadReason bad.0), (conforming, within, bad.1)))
      (first_bad_or_none n priority (worst_of priority leaves) reasons))
      (cases_lt budget (length leaves)))
      (λ (cracked : IsConforming n leaves → ⊥). (Rejected NotConforming, cracked))
      (conforming_or_not n leaves)
    where
      certified : IsSound n budget priority leaves reasons →
          (verdict : Verdict) × IsVerdict n budget priority leaves reasons verdict
      certified sound = (Certified (length leaves) (worst_of priority leaves), (sound, refl, refl))

  -- what a verdict says, in parts: each part decides between two verdicts
  abbrev Is : Verdict → Type 0
  Is verdict = IsVerdict n budget priority leaves reasons verdict

  abbrev Fails : Reject → Type 0
  Fails why = IsRejected n budget priority leaves reasons why

  -- a sound one fails in no part
  sound_or_not : (why : Reject) → IsSound n budget priority leaves reasons → Fails why → ⊥
  sound_or_not (BadLine line) v u = u
  sound_or_not NotConforming v u = u v.conforming
  sound_or_not OverBudget v u = omega (arith, v.within, u.1)
  sound_or_not (BadReason i) v u = bad_or_good n priority (worst_of priority leaves) reasons i u.2 v.reasoned
  sound_or_not TooFewReasons v u = omega (arith, v.enough u.3, u.4)
  sound_or_not (MeshDiffers at) v u = u

  -- one part alone is the first that fails
  rejected_unique : (why other : Reject) → Fails why → Fails other → why ≡ other
  rejected_unique (BadLine line) other v u = absurd v
  rejected_unique (MeshDiffers at) other v u = absurd v
  rejected_unique NotConforming (BadLine line) v u = absurd u
  rejected_unique NotConforming NotConforming v u = refl
  rejected_unique NotConforming OverBudget v u = absurd (v u.0)
  rejected_unique NotConforming (BadReason i) v u = absurd (v u.0)
  rejected_unique NotConforming TooFewReasons v u = absurd (v u.0)
  rejected_unique NotConforming (MeshDiffers at) v u = absurd u
  rejected_unique OverBudget (BadLine line) v u = absurd u
  rejected_unique OverBudget NotConforming v u = absurd (u v.0)
  rejected_unique OverBudget OverBudget v u = refl
  rejected_unique OverBudget (BadReason i) v u = absurd (omega (arith, v.1, u.1))
  rejected_unique OverBudget TooFewReasons v u = absurd (omega (arith, v.1, u.1))
  rejected_unique OverBudget (MeshDiffers at) v u = absurd u
  rejected_unique (BadReason i) (BadLine line) v u = absurd u
  rejected_unique (BadReason i) NotConforming v u = absurd (u v.0)
  rejected_unique (BadReason i) OverBudget v u = absurd (omega (arith, v.1, u.1))
  rejected_unique (BadReason i) (BadReason j) v u =
      ap (λ k. BadReason k) (first_bad_unique n priority (worst_of priority leaves) reasons i j v.2 u.2)
  rejected_unique (BadReason i) TooFewReasons v u =
      absurd (bad_or_good n priority (worst_of priority leaves) reasons i v.2 u.2)
  rejected_unique (BadReason i) (MeshDiffers at) v u = absurd u
  rejected_unique TooFewReasons (BadLine line) v u = absurd u
  rejected_unique TooFewReasons NotConforming v u = absurd (u v.0)
  rejected_unique TooFewReasons OverBudget v u = absurd (omega (arith, v.1, u.1))
  rejected_unique TooFewReasons (BadReason i) v u =
      absurd (bad_or_good n priority (worst_of priority leaves) reasons i u.2 v.2)
  rejected_unique TooFewReasons TooFewReasons v u = refl
  rejected_unique TooFewReasons (MeshDiffers at) v u = absurd u

  -- and one verdict alone
  pub verdict_unique : (verdict other : Verdict) → Is verdict → Is other → verdict ≡ other
  verdict_unique (Certified t w) (Certified s x) v u = ap₂ (λ a b. Certified a b) (v.1 ∙ sym u.1) (v.2 ∙ sym u.2)
  verdict_unique (Certified t w) (Rejected why) v u = absurd (sound_or_not why v.0 u)
  verdict_unique (Rejected why) (Certified t w) v u = absurd (sound_or_not why u.0 v)
  verdict_unique (Rejected why) (Rejected other) v u = ap (λ r. Rejected r) (rejected_unique why other v u)
