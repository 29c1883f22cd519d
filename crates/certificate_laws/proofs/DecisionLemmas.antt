-- Whether a reason is one is decided, so each certificate has a verdict; and it has one alone.
use Rattle.std.proofs.Common.{◌≡◌, ℕ, suc, ◌+◌, ◌-◌, ◌*◌, ◌^◌, ◌<◌, ◌≤◌, ◌⊎◌, inl, inr, Bool, false, List, [], ◌∷◌}
use Rattle.std.proofs.Common.{◌++◌, length, refl, sym, ◌∙◌, ap, ap₂, subst, arith, ⊎_elim}
use Rattle.std.proofs.lemmas.Bool.{cases_lt, cases_Bool, both_ways}
use Rattle.mesh_defs.specs.BoundingBox.{point, holds_point}
use Rattle.mesh_defs.specs.ClosedSet.{IsClosed, IsLeastClosed, among, leaves_of}
use Rattle.mesh_defs.specs.Greedy.{with_triangle}
use Rattle.mesh_defs.specs.Priority.{worst_of}
use Rattle.mesh_defs.proofs.ListLemmas.{IsIn-contains, Contains-in, IsIn-among, among-in}
use Rattle.mesh_laws.proofs.SweepLemmas.{splittable-lt, lt-splittable}
use Rattle.mesh_laws.proofs.ClosureLemmas.{leaves_of-same, IsLeastClosed-unique, closure_of, nothing_closed}
use Rattle.fit_laws.specs.PlaneHeight.{off_plane, deviation_of}
use Rattle.fit_laws.specs.Error.{error_of}
use Rattle.certificate_laws.specs.declared.fit_reason.Witness.{Witness}
use Rattle.certificate_laws.specs.declared.fit_reason.Target.{Target}
use Rattle.certificate_laws.specs.declared.fit_reason.Target.TheVariants.{Error, Budget}
use Rattle.certificate_laws.specs.declared.fit_reason.FitReject.{FitReject}
use Rattle.certificate_laws.specs.declared.fit_reason.FitReject.TheVariants.{OtherTolerance, BadReason, OverTolerance}
use Rattle.certificate_laws.specs.declared.fit_reason.FitReject.TheVariants.{OverBudget, TooFewReasons}
use Rattle.certificate_laws.specs.declared.fit_reason.FitVerdict.{FitVerdict}
use Rattle.certificate_laws.specs.declared.fit_reason.FitVerdict.TheVariants.{Certified, Rejected}
use Rattle.certificate_laws.specs.FitCertificate.{FitCertificate, IsOff, IsFitReason, LeadsTo, LeadsToFit, IsFor}
use Rattle.certificate_laws.specs.FitCertificate.{IsWithinTarget, IsEnough, IsFitSound, IsFirstBadFit, IsFitRejected}
use Rattle.certificate_laws.specs.FitCertificate.{IsFitVerdict, IsVerdictOf}
use Rattle.certificate_laws.proofs.LeadLemmas.{reason-same, closure-same, leads-unique, leads-no_bad}
use Rattle.certificate_laws.proofs.FitSoundLemmas.{fitted-closed}
use Rattle.certificate_laws.proofs.FitVerdictLemmas.{sound-certified}

-- one reason

-- whether its point is off is decided
off_or_not : (n : ℕ) (heights : List ℕ) (tolerance : ℕ) (r : Witness) →
    IsOff n heights tolerance r ⊎ (IsOff n heights tolerance r → ⊥)
off_or_not n heights tolerance r = ⊎_elim
    (λ (over : 2 ^ n < r.x). inr (λ (o : IsOff n heights tolerance r). let h = o.column in absurd (omega arith)))
    (λ (column : r.x ≤ 2 ^ n). ⊎_elim
    (λ (over : 2 ^ n < r.y). inr (λ (o : IsOff n heights tolerance r). let h = o.row in absurd (omega arith)))
    (λ (row : r.y ≤ 2 ^ n). ⊎_elim
    (λ held. ⊎_elim
    (λ above. inl record { column = column; row = row; held = held; above = above })
    (λ near. inr (λ (o : IsOff n heights tolerance r). let h = o.above in absurd (omega arith)))
    (cases_lt tolerance (off_plane n heights r.triangle (point r.x r.y))))
    (λ outside.
    inr (λ (o : IsOff n heights tolerance r). both_ways (holds_point n r.triangle (point r.x r.y)) outside o.held))
    (cases_Bool (holds_point n r.triangle (point r.x r.y))))
    (cases_lt (2 ^ n) r.y))
    (cases_lt (2 ^ n) r.x)

-- whether it is one is decided
reason_or_not : (n : ℕ) (heights : List ℕ) (tolerance : ℕ) (has : ℕ → Bool) (r : Witness) →
    IsFitReason n heights tolerance has r ⊎ (IsFitReason n heights tolerance has r → ⊥)
reason_or_not n heights tolerance has r = ⊎_elim
    (λ small. inr (λ (is : IsFitReason n heights tolerance has r). let low = is.splittable.low in absurd (omega arith)))
    (λ low. ⊎_elim
    (λ coarse. ⊎_elim
    (λ leaf. ⊎_elim
    (λ (off : IsOff n heights tolerance r). inl record {
      splittable = lt-splittable n r.triangle low coarse;
      leaf = Contains-in r.triangle (leaves_of n has) (IsIn-among r.triangle (leaves_of n has) leaf);
      off = off;
    })
    (λ (near : IsOff n heights tolerance r → ⊥). inr (λ (is : IsFitReason n heights tolerance has r). near is.off))
    (off_or_not n heights tolerance r))
    (λ other. inr (λ (is : IsFitReason n heights tolerance has r).
    both_ways (among (leaves_of n has) r.triangle) other
    (among-in r.triangle (leaves_of n has) (IsIn-contains r.triangle (leaves_of n has) is.leaf))))
    (cases_Bool (among (leaves_of n has) r.triangle)))
    (λ fine. inr (λ (is : IsFitReason n heights tolerance has r). let coarse =
    splittable-lt n r.triangle is.splittable in absurd (omega arith)))
    (cases_lt r.triangle (2 ^ (2 * n + 1))))
    (cases_lt r.triangle 2)

-- reasons

-- a bad reason behind a good one
bad-behind : (n : ℕ) (heights : List ℕ) (tolerance : ℕ) (has next : ℕ →
    Bool) (r : Witness) (reasons : List Witness) (index : ℕ) →
    IsFitReason n heights tolerance has r → IsLeastClosed n (with_triangle has r.triangle) next →
    IsFirstBadFit n heights tolerance next reasons index →
    IsFirstBadFit n heights tolerance has (r ∷ reasons) (index + 1)
bad-behind n heights tolerance has next r reasons index is least b = record {
  good = r ∷ b.good;
  bad = b.bad;
  rest = b.rest;
  after = b.after;
  parts = ap (λ (l : List Witness). r ∷ l) b.parts;
  place = (let place = b.place in omega arith);
  leads = (next, is, least, b.leads);
  fails = b.fails;
}

-- they lead to some set, or one is the first that is none
pub leads_or_bad : (n : ℕ) (heights : List ℕ) (tolerance : ℕ) (has : ℕ → Bool) (reasons : List Witness)
    → IsClosed n has →
    ((after : ℕ → Bool) × LeadsTo n heights tolerance has reasons after)
    ⊎ ((index : ℕ) × IsFirstBadFit n heights tolerance has reasons index)
leads_or_bad n heights tolerance has [] closed = inl (has, λ a. refl)
leads_or_bad n heights tolerance has (r ∷ reasons) closed = ⊎_elim
    (λ (is : IsFitReason n heights tolerance has r).
    let step = closure_of n has r.triangle closed is.splittable in
    ⊎_elim
    (λ (rest : (after : ℕ → Bool) × LeadsTo n heights tolerance step.0 reasons after).
    inl (rest.0, (step.0, is, step.1, rest.1)))
    (λ (b : (index : ℕ) × IsFirstBadFit n heights tolerance step.0 reasons index).
    inr (b.0 + 1, bad-behind n heights tolerance has step.0 r reasons b.0 is step.1 b.1))
    (leads_or_bad n heights tolerance step.0 reasons step.1.closed))
    (λ (fails : IsFitReason n heights tolerance has r → ⊥).
    inr (
      1,
      record {
        good = [];
        bad = r;
        rest = reasons;
        after = has;
        parts = refl;
        place = refl;
        leads = λ a. refl;
        fails = fails;
      },
    ))
    (reason_or_not n heights tolerance has r)

-- lists that are the same begin with the same entry
same_first : (x y : Witness) (xs ys : List Witness) → x ∷ xs ≡ y ∷ ys → x ≡ y
same_first x y xs ys e = cc

same_rest : (x y : Witness) (xs ys : List Witness) → x ∷ xs ≡ y ∷ ys → xs ≡ ys
same_rest x y xs ys e = cc

-- of sets that agree the first bad one is the same
bad-place : (n : ℕ) (heights : List ℕ) (tolerance : ℕ) (has other : ℕ → Bool) (good fine : List Witness)
    (bad worse : Witness) (rest more : List Witness)
    (mid late : ℕ → Bool) → ((a : ℕ) → has a ≡ other a) → good ++ bad ∷ rest ≡ fine ++ worse ∷ more →
    LeadsTo n heights tolerance has good mid → LeadsTo n heights tolerance other fine late →
    (IsFitReason n heights tolerance mid bad → ⊥) → (IsFitReason n heights tolerance late worse → ⊥) →
    length good ≡ length fine
bad-place n heights tolerance has other [] [] bad worse rest more mid late same parts p q fails falls = refl
bad-place n heights tolerance has other [] (s ∷ fine) bad worse rest more mid late same parts p q fails falls =
    absurd (fails (subst (λ (z : Witness). IsFitReason n heights tolerance mid z)
    (sym (same_first bad s rest (fine ++ worse ∷ more) parts))
    (reason-same n heights tolerance other mid s (λ a. sym (same a) ∙ p a) q.1)))
bad-place n heights tolerance has other (r ∷ good) [] bad worse rest more mid late same parts p q fails falls =
    absurd (falls (subst (λ (z : Witness). IsFitReason n heights tolerance late z)
    (same_first r worse (good ++ bad ∷ rest) more parts)
    (reason-same n heights tolerance has late r (λ a. same a ∙ q a) p.1)))
bad-place n heights tolerance has other (r ∷ good) (s ∷ fine) bad worse rest more mid late same parts p q fails falls =
    let first : r ≡ s = same_first r s (good ++ bad ∷ rest) (fine ++ worse ∷ more) parts in
    let least : IsLeastClosed n (with_triangle has r.triangle) q.0 =
    subst (λ (z : Witness). IsLeastClosed n (with_triangle has z.triangle) q.0) (sym first)
    (closure-same n other has q.0 s.triangle (λ a. sym (same a)) q.2) in
    ap (λ k. suc k) (bad-place n heights tolerance p.0 q.0 good fine bad worse rest more mid late
    (IsLeastClosed-unique n (with_triangle has r.triangle) p.0 q.0 p.2 least)
    (same_rest r s (good ++ bad ∷ rest) (fine ++ worse ∷ more) parts) p.3 q.3 fails falls)

pub bad-one : (n : ℕ) (heights : List ℕ) (tolerance : ℕ) (has other : ℕ → Bool) (reasons : List Witness) (i j : ℕ) →
    ((a : ℕ) → has a ≡ other a) → IsFirstBadFit n heights tolerance has reasons i →
    IsFirstBadFit n heights tolerance other reasons j → i ≡ j
bad-one n heights tolerance has other reasons i j same b d =
    let places = bad-place n heights tolerance has other b.good d.good b.bad d.bad b.rest d.rest b.after d.after same
    (sym b.parts ∙ d.parts) b.leads d.leads b.fails d.fails in
    sym b.place ∙ ap (λ k. k + 1) places ∙ d.place

-- the tests of numbers are decided

for_or_not : (target : Target) (own : ℕ) → IsFor target own ⊎ (IsFor target own → ⊥)
for_or_not (Error tolerance) own = ⊎_elim
    (λ less. inr (λ e. absurd (omega arith)))
    (λ high. ⊎_elim (λ more. inr (λ e. absurd (omega arith))) (λ low. inl (omega arith)) (cases_lt tolerance own))
    (cases_lt own tolerance)
for_or_not (Budget triangles) own = inl tt

within_or_not : (target : Target) (count : ℕ) → IsWithinTarget target count ⊎ (IsWithinTarget target count → ⊥)
within_or_not (Error tolerance) count = inl tt
within_or_not (Budget triangles) count =
    ⊎_elim (λ over. inr (λ few. absurd (omega arith))) (λ few. inl few) (cases_lt triangles count)

enough_or_not : (target : Target) (own over : ℕ) → IsEnough target own over ⊎ (IsEnough target own over → ⊥)
enough_or_not (Error tolerance) own over = inl tt
enough_or_not (Budget triangles) own over = ⊎_elim
    (λ many. inl (inr many))
    (λ few. ⊎_elim
    (λ some. inr (λ e. ⊎_elim (λ (none : own ≡ 0). absurd (omega arith))
    (λ (many : triangles < over). absurd (omega arith)) e))
    (λ none. inl (inl (omega arith)))
    (cases_lt 0 own))
    (cases_lt triangles over)

-- a verdict

module _ (n : ℕ) (heights : List ℕ) (target : Target) (cert : FitCertificate) where
  abbrev error : ℕ → ℕ
  error = error_of n heights

  abbrev HasVerdict : Type 0
  HasVerdict = (verdict : FitVerdict) × (mesh : List ℕ) × IsVerdictOf n heights target cert verdict mesh

  abbrev rejected : (why : FitReject) → IsFitRejected n heights target cert why → HasVerdict
  rejected why is = (Rejected why, [], is)

  -- of a mesh within its tolerance and the budget
  within-verdict : (has : ℕ → Bool) → IsFor target cert.tolerance → LeadsToFit n heights cert has →
      IsWithinTarget target (length (leaves_of n has)) → HasVerdict
  within-verdict has own fitted few = ⊎_elim
      (λ (over : (after : ℕ → Bool) × LeadsTo n heights (cert.tolerance - 1) has cert.beyond after). ⊎_elim
      (λ (enough : IsEnough target cert.tolerance (length (leaves_of n over.0))).
      let mesh : List ℕ = leaves_of n has in (
        Certified (length mesh) (deviation_of n heights mesh),
        mesh,
        (
          record {
            has = has;
            over = over.0;
            own = own;
            fitted = fitted;
            few = few;
            beyond = over.1;
            enough = enough;
            leaves = refl;
          },
          refl,
          refl,
        ),
      ))
      (λ (short : IsEnough target cert.tolerance (length (leaves_of n over.0)) → ⊥).
      rejected TooFewReasons (own, has, fitted, few, over.0, over.1, short))
      (enough_or_not target cert.tolerance (length (leaves_of n over.0))))
      (λ (b : (index : ℕ) × IsFirstBadFit n heights (cert.tolerance - 1) has cert.beyond index).
      rejected (BadReason (length cert.needed + b.0)) (own, inr (has, fitted, few, b.0, b.1, refl)))
      (leads_or_bad n heights (cert.tolerance - 1) has cert.beyond (fitted-closed n heights cert has fitted))

  -- of a mesh
  mesh-verdict : (has : ℕ → Bool) → IsFor target cert.tolerance →
      LeadsTo n heights cert.tolerance (λ a. false) cert.needed has → HasVerdict
  mesh-verdict has own needed = ⊎_elim
      (λ over. rejected OverTolerance (own, has, needed, over))
      (λ within.
      let fitted : LeadsToFit n heights cert has = record { needed = needed; within = within } in
      ⊎_elim
      (λ (few : IsWithinTarget target (length (leaves_of n has))). within-verdict has own fitted few)
      (λ (many : IsWithinTarget target (length (leaves_of n has)) → ⊥). rejected OverBudget (own, has, fitted, many))
      (within_or_not target (length (leaves_of n has))))
      (cases_lt cert.tolerance (worst_of error (leaves_of n has)))

  -- there is one
  pub verdict_found : HasVerdict
  verdict_found = ⊎_elim
      (λ (own : IsFor target cert.tolerance). ⊎_elim
      (λ (has : (after : ℕ → Bool) × LeadsTo n heights cert.tolerance (λ a. false) cert.needed after).
      mesh-verdict has.0 own has.1)
      (λ (b : (index : ℕ) × IsFirstBadFit n heights cert.tolerance (λ a. false) cert.needed index).
      rejected (BadReason b.0) (own, inl b.1))
      (leads_or_bad n heights cert.tolerance (λ a. false) cert.needed (nothing_closed n)))
      (λ (other : IsFor target cert.tolerance → ⊥). rejected OtherTolerance other)
      (for_or_not target cert.tolerance)

  -- there is one alone

  -- how far a certificate is good, as the tests go
  abbrev Leads : Type 0
  Leads = (has : ℕ → Bool) × LeadsTo n heights cert.tolerance (λ a. false) cert.needed has

  abbrev Fits : Type 0
  Fits = (has : ℕ → Bool) × LeadsToFit n heights cert has

  abbrev FitsWithin : Type 0
  FitsWithin = (has : ℕ → Bool) × LeadsToFit n heights cert has × IsWithinTarget target (length (leaves_of n has))

  -- the two ways to a bad reason
  abbrev BadBefore : ℕ → Type 0
  BadBefore index = IsFirstBadFit n heights cert.tolerance (λ a. false) cert.needed index

  abbrev BadBehind : ℕ → Type 0
  BadBehind index = (has : ℕ → Bool) × LeadsToFit n heights cert has × IsWithinTarget target (length (leaves_of n has))
      × (place : ℕ) × IsFirstBadFit n heights (cert.tolerance - 1) has cert.beyond place
      × (index ≡ length cert.needed + place)

  sets-one : (has other : ℕ → Bool) → LeadsTo n heights cert.tolerance (λ a. false) cert.needed has →
      LeadsTo n heights cert.tolerance (λ a. false) cert.needed other → (a : ℕ) → has a ≡ other a
  sets-one has other p q =
      leads-unique n heights cert.tolerance (λ a. false) (λ a. false) cert.needed has other (λ a. refl) p q

  leaves-one : (has other : ℕ → Bool) → LeadsTo n heights cert.tolerance (λ a. false) cert.needed has →
      LeadsTo n heights cert.tolerance (λ a. false) cert.needed other → leaves_of n has ≡ leaves_of n other
  leaves-one has other p q = leaves_of-same n has other (sets-one has other p q)

  not-before : (index : ℕ) → BadBefore index → Leads → ⊥
  not-before index b l =
      leads-no_bad n heights cert.tolerance (λ a. false) (λ a. false) cert.needed index l.0 (λ a. refl) b l.1

  not-over : (has : ℕ → Bool) → LeadsTo n heights cert.tolerance (λ a. false) cert.needed has →
      cert.tolerance < worst_of error (leaves_of n has) → Fits → ⊥
  not-over has leads over f =
      let more : cert.tolerance < worst_of error (leaves_of n f.0) =
      subst (λ (l : List ℕ). cert.tolerance < worst_of error l) (leaves-one has f.0 leads f.1.needed) over in
      let within = f.1.within in absurd (omega arith)

  not-many : (has : ℕ → Bool) → LeadsToFit n heights cert has →
      (IsWithinTarget target (length (leaves_of n has)) → ⊥) → FitsWithin → ⊥
  not-many has fitted many f =
      many (subst (λ (l : List ℕ). IsWithinTarget target (length l)) (leaves-one f.0 has f.1.needed fitted.needed) f.2)

  not-behind : (index : ℕ) → BadBehind index → (has : ℕ → Bool) → LeadsToFit n heights cert has → (over : ℕ → Bool) →
      LeadsTo n heights (cert.tolerance - 1) has cert.beyond over → ⊥
  not-behind index b has fitted over leads =
      leads-no_bad n heights (cert.tolerance - 1) b.0 has cert.beyond b.3 over
      (sets-one b.0 has b.1.needed fitted.needed) b.4 leads

  bad-alone : (i j : ℕ) → (BadBefore i ⊎ BadBehind i) → (BadBefore j ⊎ BadBehind j) → i ≡ j
  bad-alone i j (inl b) (inl d) =
      bad-one n heights cert.tolerance (λ a. false) (λ a. false) cert.needed i j (λ a. refl) b d
  bad-alone i j (inl b) (inr d) = absurd (not-before i b (d.0, d.1.needed))
  bad-alone i j (inr b) (inl d) = absurd (not-before j d (b.0, b.1.needed))
  bad-alone i j (inr b) (inr d) =
      let place = bad-one n heights (cert.tolerance - 1) b.0 d.0 cert.beyond b.3 d.3
      (sets-one b.0 d.0 b.1.needed d.1.needed) b.4 d.4 in
      b.5 ∙ ap (λ k. length cert.needed + k) place ∙ sym d.5

  -- a bad reason, and a test that comes later
  bad-over : (i : ℕ) → (BadBefore i ⊎ BadBehind i) → (has : ℕ → Bool) →
      LeadsTo n heights cert.tolerance (λ a. false) cert.needed has →
      cert.tolerance < worst_of error (leaves_of n has) → ⊥
  bad-over i (inl b) has leads over = not-before i b (has, leads)
  bad-over i (inr b) has leads over = not-over has leads over (b.0, b.1)

  bad-many : (i : ℕ) → (BadBefore i ⊎ BadBehind i) → (has : ℕ → Bool) → LeadsToFit n heights cert has →
      (IsWithinTarget target (length (leaves_of n has)) → ⊥) → ⊥
  bad-many i (inl b) has fitted many = not-before i b (has, fitted.needed)
  bad-many i (inr b) has fitted many = not-many has fitted many (b.0, b.1, b.2)

  bad-few : (i : ℕ) → (BadBefore i ⊎ BadBehind i) → (has : ℕ → Bool) →
      LeadsToFit n heights cert has → (over : ℕ → Bool) →
      LeadsTo n heights (cert.tolerance - 1) has cert.beyond over → ⊥
  bad-few i (inl b) has fitted over leads = not-before i b (has, fitted.needed)
  bad-few i (inr b) has fitted over leads = not-behind i b has fitted over leads

  rejected-one : (why other : FitReject) → IsFitRejected n heights target cert why →
      IsFitRejected n heights target cert other → why ≡ other
  rejected-one OtherTolerance OtherTolerance p q = refl
  rejected-one OtherTolerance (BadReason j) p q = absurd (p q.0)
  rejected-one OtherTolerance OverTolerance p q = absurd (p q.0)
  rejected-one OtherTolerance OverBudget p q = absurd (p q.0)
  rejected-one OtherTolerance TooFewReasons p q = absurd (p q.0)
  rejected-one (BadReason i) OtherTolerance p q = absurd (q p.0)
  rejected-one (BadReason i) (BadReason j) p q = ap BadReason (bad-alone i j p.1 q.1)
  rejected-one (BadReason i) OverTolerance p q = absurd (bad-over i p.1 q.1 q.2 q.3)
  rejected-one (BadReason i) OverBudget p q = absurd (bad-many i p.1 q.1 q.2 q.3)
  rejected-one (BadReason i) TooFewReasons p q = absurd (bad-few i p.1 q.1 q.2 q.4 q.5)
  rejected-one OverTolerance OtherTolerance p q = absurd (q p.0)
  rejected-one OverTolerance (BadReason j) p q = absurd (bad-over j q.1 p.1 p.2 p.3)
  rejected-one OverTolerance OverTolerance p q = refl
  rejected-one OverTolerance OverBudget p q = absurd (not-over p.1 p.2 p.3 (q.1, q.2))
  rejected-one OverTolerance TooFewReasons p q = absurd (not-over p.1 p.2 p.3 (q.1, q.2))
  rejected-one OverBudget OtherTolerance p q = absurd (q p.0)
  rejected-one OverBudget (BadReason j) p q = absurd (bad-many j q.1 p.1 p.2 p.3)
  rejected-one OverBudget OverTolerance p q = absurd (not-over q.1 q.2 q.3 (p.1, p.2))
  rejected-one OverBudget OverBudget p q = refl
  rejected-one OverBudget TooFewReasons p q = absurd (not-many p.1 p.2 p.3 (q.1, q.2, q.3))
  rejected-one TooFewReasons OtherTolerance p q = absurd (q p.0)
  rejected-one TooFewReasons (BadReason j) p q = absurd (bad-few j q.1 p.1 p.2 p.4 p.5)
  rejected-one TooFewReasons OverTolerance p q = absurd (not-over q.1 q.2 q.3 (p.1, p.2))
  rejected-one TooFewReasons OverBudget p q = absurd (not-many q.1 q.2 q.3 (p.1, p.2, p.3))
  rejected-one TooFewReasons TooFewReasons p q = refl

  -- a verdict on a mesh is one
  pub verdict-is : (verdict : FitVerdict) (mesh : List ℕ) → IsVerdictOf n heights target cert verdict mesh →
      IsFitVerdict n heights target cert verdict
  verdict-is (Certified triangles deviation) mesh v = (mesh, v.0, v.1, v.2)
  verdict-is (Rejected why) mesh v = v

  -- two verdicts are the same
  pub verdict_one : (verdict other : FitVerdict) → IsFitVerdict n heights target cert verdict →
      IsFitVerdict n heights target cert other → verdict ≡ other
  verdict_one (Certified triangles deviation) other v w =
      ap₂ (λ i j. Certified i j) v.2 v.3 ∙ sym (sound-certified n heights target cert v.0 v.1 other w)
  verdict_one (Rejected why) (Certified triangles deviation) v w =
      sound-certified n heights target cert w.0 w.1 (Rejected why) v ∙ sym (ap₂ (λ i j. Certified i j) w.2 w.3)
  verdict_one (Rejected why) (Rejected other) v w = ap Rejected (rejected-one why other v w)

  -- and so are two meshes of a sound certificate
  pub mesh_one : (mesh other : List ℕ) → IsFitSound n heights target cert mesh →
      IsFitSound n heights target cert other → mesh ≡ other
  mesh_one mesh other p q = p.leaves ∙ leaves-one p.has q.has p.fitted.needed q.fitted.needed ∙ sym q.leaves
