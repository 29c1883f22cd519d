-- What a checker's tests say of a reason, over sets and tables.
use Rattle.std.proofs.Common.{◌≡◌, ℕ, eqb, ◌||◌, ◌+◌, ◌*◌, ◌<◌, ◌≤◌, ◌⊎◌, ◌↔◌, Bool, true, false, IsTrue, List, [], ◌∷◌}
use Rattle.std.proofs.Common.{◌++◌, length, take, get_or, drop, append_assoc, sym, ◌∙◌, ap, subst, arith, ⊎_elim}
use Rattle.std.proofs.lemmas.Bool.{both_ways}
use Rattle.std.proofs.lemmas.List.{take_more, take-append-drop, length-take-le}
use Rattle.mesh_defs.specs.Triangle.{IsSplittable, IsMate}
use Rattle.mesh_defs.specs.Greedy.{with_triangle}
use Rattle.mesh_laws.proofs.DescentLemmas.{IsAddress-splittable}
use Rattle.mesh_defs.proofs.ListLemmas.{IsIn-among, among-in}
use Rattle.mesh_defs.proofs.TestLemmas.{same_tests}
use Rattle.mesh_laws.proofs.ForcingLemmas.{with-cases, with-old, with-new}
use Rattle.certificate_laws.specs.declared.reason.Reason.{Reason}
use Rattle.certificate_laws.specs.declared.reason.Kind.{Kind}
use Rattle.certificate_laws.specs.declared.reason.Kind.TheVariants.{Want, Parent, Mate}
use Rattle.certificate_laws.specs.Certificate.{reason_triangles, named_in, IsWhy, IsReason, AreReasons, IsFirstBad}
use Rattle.certificate_laws.proofs.VerdictLemmas.{parent-why, mate-why, no_mate-why, reason-same, reasons-splittable}
use Rattle.certificate_laws.proofs.SoundLemmas.{earlier_cases, earlier_old, earlier_new, reasons_next}

module _ (n : ℕ) (priority : ℕ → ℕ) (worst : ℕ) (earlier : ℕ → Bool) (t : ℕ) (splittable : IsSplittable n t) where
  -- a new triangle with a cause is a reason, and no other is
  pub reason-why : (kind : Kind) → earlier t ≡ false →
      IsWhy n priority worst earlier kind t ↔ IsReason n priority worst earlier (record { kind = kind; triangle = t })
  reason-why kind new = ((λ w. record { splittable = splittable; new = new; why = w }), (λ r. r.why))

  -- a listed triangle is none
  pub reason-old : (kind : Kind) → earlier t ≡ true →
      IsReason n priority worst earlier (record { kind = kind; triangle = t }) → ⊥
  reason-old kind old r = both_ways (earlier t) r.new old

  -- the three tests
  pub reason-want : (answer : Bool) → earlier t ≡ false → (IsTrue answer ↔ (worst ≤ priority t)) →
      IsTrue answer ↔ IsReason n priority worst earlier (record { kind = Want; triangle = t })
  reason-want answer new test = ((λ h. (reason-why Want new).0 (test.0 h)), (λ r. test.1 ((reason-why Want new).1 r)))

  pub reason-parent : (answer : Bool) → earlier t ≡ false →
      (IsTrue answer ↔ (IsTrue (earlier (2 * t)) ⊎ IsTrue (earlier (2 * t + 1)))) →
      IsTrue answer ↔ IsReason n priority worst earlier (record { kind = Parent; triangle = t })
  reason-parent answer new test = (
    (λ h. (reason-why Parent new).0 ((parent-why earlier t splittable.low).1 (test.0 h))),
    (λ r. test.1 ((parent-why earlier t splittable.low).0 ((reason-why Parent new).1 r))),
  )

  pub reason-mate : (m : ℕ) (answer : Bool) → ((b : ℕ) → IsTrue (earlier b) → IsSplittable n b) → IsMate n t m →
      earlier t ≡ false → answer ≡ earlier m →
      IsTrue answer ↔ IsReason n priority worst earlier (record { kind = Mate; triangle = t })
  reason-mate m answer members mate new same =
      let why = mate-why n earlier t m (IsAddress-splittable n t splittable)
      (λ b h. IsAddress-splittable n b (members b h)) mate in (
        (λ h. (reason-why Mate new).0 (why.1 (sym same ∙ h))),
        (λ r. same ∙ why.0 ((reason-why Mate new).1 r)),
      )

  pub reason-no_mate : ((b : ℕ) → IsTrue (earlier b) → IsSplittable n b) → ((m : ℕ) → IsMate n t m → ⊥) →
      IsReason n priority worst earlier (record { kind = Mate; triangle = t }) → ⊥
  reason-no_mate members none r = no_mate-why n earlier t (λ b h. IsAddress-splittable n b (members b h)) none r.why

-- going on by one reason

-- the set of the triangles, with one reason more
pub named-next : (before : List Reason) (r : Reason) (a : ℕ) →
    named_in (before ++ r ∷ []) a ≡ with_triangle (named_in before) r.triangle a
named-next before r a = same_tests (named_in (before ++ r ∷ []) a) (with_triangle (named_in before) r.triangle a)
    (λ h. ⊎_elim
    (λ old. with-old (named_in before) r.triangle a (among-in a (reason_triangles before) old))
    (λ same. subst (λ z. IsTrue (with_triangle (named_in before) r.triangle z)) same
    (with-new (named_in before) r.triangle))
    (earlier_cases before r a (IsIn-among a (reason_triangles (before ++ r ∷ [])) h)))
    (λ h. ⊎_elim
    (λ old. among-in a (reason_triangles (before ++ r ∷ []))
    (earlier_old before r a (IsIn-among a (reason_triangles before) old)))
    (λ same. subst (λ z. IsTrue (named_in (before ++ r ∷ []) z)) same
    (among-in r.triangle (reason_triangles (before ++ r ∷ [])) (earlier_new before r)))
    (with-cases (named_in before) r.triangle a h))

-- sets that agree still do with one triangle more
pub with-same : (some other : ℕ → Bool) (f a : ℕ) → some a ≡ other a → with_triangle some f a ≡ with_triangle other f a
with-same some other f a same = ap (λ b. b || eqb f a) same

-- one reason more of a list
pub take-next : (reasons : List Reason) (k : ℕ) (r : Reason) → k < length reasons → r ≡ get_or reasons k r →
    take (k + 1) reasons ≡ take k reasons ++ r ∷ []
take-next reasons k r within is = take_more reasons k r within ∙ ap (λ x. take k reasons ++ x ∷ []) (sym is)

-- the triangles of good reasons may be split
pub named-splittable : (n : ℕ) (priority : ℕ → ℕ) (worst : ℕ) (reasons : List Reason) (a : ℕ) →
    AreReasons n priority worst [] reasons →
    IsTrue (named_in reasons a) → IsSplittable n a
named-splittable n priority worst reasons a are h =
    reasons-splittable n priority worst [] reasons are a (IsIn-among a (reason_triangles reasons) h)

module _ (n : ℕ) (priority : ℕ → ℕ) (worst : ℕ) (reasons : List Reason) (k : ℕ) (r : Reason)
    (within : k < length reasons) (is : r ≡ get_or reasons k r)
    (earlier : ℕ → Bool) (same : (a : ℕ) → earlier a ≡ named_in (take k reasons) a)
    (good : AreReasons n priority worst [] (take k reasons)) where
  -- behind a good one the next
  pub good-next : IsReason n priority worst earlier r → AreReasons n priority worst [] (take (k + 1) reasons)
  good-next reason = subst (λ l. AreReasons n priority worst [] l) (sym (take-next reasons k r within is))
      (reasons_next n priority worst [] (take k reasons) r good
      (reason-same n priority worst earlier (named_in (take k reasons)) r same reason))

  -- its triangle is one more
  pub same-next : (next : ℕ → Bool) → ((a : ℕ) → next a ≡ with_triangle earlier r.triangle a) → (a : ℕ) →
      next a ≡ named_in (take (k + 1) reasons) a
  same-next next added a =
      added a ∙ with-same earlier (named_in (take k reasons)) r.triangle a (same a)
      ∙ sym (ap (λ l. named_in l a) (take-next reasons k r within is) ∙ named-next (take k reasons) r a)

  -- one that is none is the first
  pub bad-first : (IsReason n priority worst earlier r → ⊥) → IsFirstBad n priority worst reasons (k + 1)
  bad-first fails = record {
    good = take k reasons;
    bad = r;
    rest = drop (k + 1) reasons;
    parts =
        sym (take-append-drop (k + 1) reasons) ∙ ap (λ l. l ++ drop (k + 1) reasons) (take-next reasons k r within is)
        ∙ append_assoc (take k reasons) (r ∷ []) (drop (k + 1) reasons);
    place = ap (λ m. m + 1) (length-take-le k reasons (omega arith));
    reasoned = good;
    fails =
        λ reason. fails (reason-same n priority worst (named_in (take k reasons)) earlier r (λ a. sym (same a)) reason);
  }
