-- A sound certificate is of an optimal mesh: a better list would have each reason's triangle split.
use Rattle.std.proofs.Common.{◌≡◌, ℕ, ◌≤◌, ◌⊎◌, inl, inr, Bool, nat_eq, IsTrue, List, [], ◌∷◌, ◌++◌, length, refl, sym}
use Rattle.std.proofs.Common.{subst, arith, ⊎_elim, append_assoc}
use Rattle.std.proofs.lemmas.Bool.{cases_lt, both_ways}
use Rattle.std.proofs.lemmas.List.{append-nil}
use Rattle.mesh_defs.specs.Triangle.{IsAddress}
use Rattle.mesh_defs.specs.ClosedSet.{IsClosed}
use Rattle.mesh_defs.specs.Priority.{worst_of}
use Rattle.mesh_laws.specs.Ancestors.{ancestors_of}
use Rattle.mesh_laws.proofs.DescentLemmas.{IsAddress-splittable}
use Rattle.mesh_defs.proofs.ListLemmas.{IsIn, IsIn-among, among-in}
use Rattle.mesh_laws.proofs.ConverseLemmas.{IsClosed-ancestors_of}
use Rattle.mesh_defs.specs.Falling.{IsFalling}
use Rattle.std.specs.List.{IsDistinct}
use Rattle.mesh_laws.proofs.LeastLemmas.{length-ancestors, ancestor-worse}
use Rattle.certificate_laws.specs.declared.reason.Kind.{Kind}
use Rattle.certificate_laws.specs.declared.reason.Kind.TheVariants.{Want, Parent, Mate}
use Rattle.certificate_laws.specs.declared.reason.Reason.{Reason}
use Rattle.certificate_laws.specs.Certificate.{reason_triangles, named_in, IsWhy, IsReason, AreReasons, IsSound}
use Rattle.certificate_laws.specs.Certificate.{IsOptimal}
use Rattle.certificate_laws.proofs.DistinctLemmas.{distinct-none, distinct-cons, length-members_le}

-- one reason more

-- the triangles behind one more reason
pub earlier_cases : (before : List Reason) (r : Reason) (a : ℕ) → IsIn a (reason_triangles (before ++ r ∷ [])) →
    IsIn a (reason_triangles before) ⊎ (r.triangle ≡ a)
earlier_cases [] r a (inl e) = inr e
earlier_cases [] r a (inr h) = absurd h
earlier_cases (x ∷ xs) r a (inl e) = inl (inl e)
earlier_cases (x ∷ xs) r a (inr h) = ⊎_elim (λ i. inl (inr i)) (λ e. inr e) (earlier_cases xs r a h)

-- those before stay
pub earlier_old : (before : List Reason) (r : Reason) (a : ℕ) → IsIn a (reason_triangles before) →
    IsIn a (reason_triangles (before ++ r ∷ []))
earlier_old [] r a h = absurd h
earlier_old (x ∷ xs) r a (inl e) = inl e
earlier_old (x ∷ xs) r a (inr h) = inr (earlier_old xs r a h)

-- and its own is one
pub earlier_new : (before : List Reason) (r : Reason) → IsIn r.triangle (reason_triangles (before ++ r ∷ []))
earlier_new [] r = inl refl
earlier_new (x ∷ xs) r = inr (earlier_new xs r)

module _ (n : ℕ) (priority : ℕ → ℕ) (worst : ℕ) where
  -- a reason behind all of them makes one list
  pub reasons_next : (before reasons : List Reason) (r : Reason) → AreReasons n priority worst before reasons →
      IsReason n priority worst (named_in (before ++ reasons)) r →
      AreReasons n priority worst before (reasons ++ r ∷ [])
  reasons_next before [] r are is = (subst (λ l. IsReason n priority worst (named_in l) r) (append-nil before) is, tt)
  reasons_next before (x ∷ xs) r are is = (
    are.0,
    reasons_next (before ++ x ∷ []) xs r are.1
        (subst (λ l. IsReason n priority worst (named_in l) r) (sym (append_assoc before (x ∷ []) xs)) is),
  )

  -- the reasons before one of a list, and that one
  pub reasons_before : (before reasons : List Reason) (r : Reason) (rest : List Reason) →
      AreReasons n priority worst before (reasons ++ r ∷ rest) →
      AreReasons n priority worst before reasons × IsReason n priority worst (named_in (before ++ reasons)) r
  reasons_before before [] r rest are =
      (tt, subst (λ l. IsReason n priority worst (named_in l) r) (sym (append-nil before)) are.0)
  reasons_before before (x ∷ xs) r rest are =
      let q = reasons_before (before ++ x ∷ []) xs r rest are.1 in
      ((are.0, q.0), subst (λ l. IsReason n priority worst (named_in l) r) (append_assoc before (x ∷ []) xs) q.1)

  -- no triangle stands twice

  -- a reason's triangle is none of those before the list
  reasons_apart : (before reasons : List Reason) → AreReasons n priority worst before reasons → (a : ℕ) →
      IsIn a (reason_triangles before) →
      IsIn a (reason_triangles reasons) → ⊥
  reasons_apart before [] are a h i = absurd i
  reasons_apart before (x ∷ xs) are a h (inl e) = both_ways (named_in before x.triangle) are.0.new
      (subst (λ z. IsTrue (named_in before z)) (sym e) (among-in a (reason_triangles before) h))
  reasons_apart before (x ∷ xs) are a h (inr i) =
      reasons_apart (before ++ x ∷ []) xs are.1 a (earlier_old before x a h) i

  -- so the triangles differ
  pub reasons_distinct : (before reasons : List Reason) → AreReasons n priority worst before reasons →
      IsDistinct nat_eq (reason_triangles reasons)
  reasons_distinct before [] are = distinct-none
  reasons_distinct before (x ∷ xs) are = distinct-cons x.triangle (reason_triangles xs)
      (λ h. reasons_apart (before ++ x ∷ []) xs are.1 x.triangle (earlier_new before x)
      (IsIn-among x.triangle (reason_triangles xs) h))
      (reasons_distinct (before ++ x ∷ []) xs are.1)

  -- a closed set that holds what is wanted holds all

  module _ (other : ℕ → Bool) (closed : IsClosed n other)
      (holds : (a : ℕ) → IsAddress n a → worst ≤ priority a → IsTrue (other a)) where
    -- a reason's triangle is a member where the earlier ones are
    reason_inside : (before : List Reason) → ((a : ℕ) → IsIn a (reason_triangles before) → IsTrue (other a)) →
        (kind : Kind) (a : ℕ) → IsAddress n a →
        IsWhy n priority worst (named_in before) kind a → IsTrue (other a)
    reason_inside before inside Want a address why = holds a address why
    reason_inside before inside Parent a address why =
        subst (λ z. IsTrue (other z)) (sym why.3)
        (closed.parent why.0 (inside why.0 (IsIn-among why.0 (reason_triangles before) why.1)) why.2)
    reason_inside before inside Mate a address why =
        closed.mate why.0 a (inside why.0 (IsIn-among why.0 (reason_triangles before) why.1)) why.2

    -- each reason's triangle is a member
    pub reasons_inside : (before reasons : List Reason) →
        ((a : ℕ) → IsIn a (reason_triangles before) → IsTrue (other a)) →
        AreReasons n priority worst before reasons → (a : ℕ) → IsIn a (reason_triangles reasons) → IsTrue (other a)
    reasons_inside before [] inside are a h = absurd h
    reasons_inside before (x ∷ xs) inside are a h =
        let own : IsTrue (other x.triangle) = reason_inside before inside x.kind x.triangle
        (IsAddress-splittable n x.triangle are.0.splittable) are.0.why in
        ⊎_elim
        (λ (same : x.triangle ≡ a). subst (λ z. IsTrue (other z)) same own)
        (λ rest. reasons_inside (before ++ x ∷ []) xs (λ b i. ⊎_elim
        (inside b)
        (λ (same : x.triangle ≡ b). subst (λ z. IsTrue (other z)) same own)
        (earlier_cases before x b i)) are.1 a rest)
        h

-- as many triangles as reasons
pub length-triangles_of : (reasons : List Reason) → length (reason_triangles reasons) ≡ length reasons
length-triangles_of [] = refl
length-triangles_of (x ∷ xs) =
    let rest : length (reason_triangles xs) ≡ length xs = length-triangles_of xs in
    omega arith

-- a sound certificate is of an optimal mesh
pub optimal-sound : (n budget : ℕ) (priority : ℕ → ℕ) (leaves : List ℕ) (reasons : List Reason) → IsFalling n priority →
    IsSound n budget priority leaves reasons → IsOptimal n budget priority leaves
optimal-sound n budget priority leaves reasons falling sound = record {
  conforming = sound.conforming;
  within = sound.within;
  optimal = λ others conforming short. ⊎_elim
      (λ better.
      let closed = IsClosed-ancestors_of n others conforming in
      let inside = reasons_inside n priority (worst_of priority leaves) (ancestors_of others) closed
      (λ a address high. ancestor-worse n priority falling others conforming a address (omega arith))
      [] reasons (λ a h. absurd h) sound.reasoned in
      let size = length-members_le n (ancestors_of others) (reason_triangles reasons) closed
      (reasons_distinct n priority (worst_of priority leaves) [] reasons sound.reasoned) inside in
      let same = length-ancestors n others conforming in
      let count = length-triangles_of reasons in
      let many = sound.enough (omega arith) in
      absurd (omega arith))
      (λ no_better. no_better)
      (cases_lt (worst_of priority others) (worst_of priority leaves));
}
