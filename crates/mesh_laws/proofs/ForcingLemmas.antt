-- Forced splits: how the least closed set with a triangle comes from those with its parent and its mate's.
use Rattle.std.proofs.Common.{◌≡◌, ℕ, ◌/◌, ◌<◌, ◌≤◌, ◌⊎◌, inl, inr, Bool, true, eqb, IsTrue, refl, sym, ◌∙◌, subst}
use Rattle.std.proofs.Common.{arith, ⊎_elim, eq-eqb}
use Rattle.std.proofs.lemmas.Bool.{or_cases, or_left, or_right, eqb-true}
use Rattle.mesh_defs.specs.Triangle.{IsSplittable, IsMate}
use Rattle.mesh_defs.specs.ClosedSet.{IsClosed, IsSubset, IsLeastClosed}
use Rattle.mesh_defs.specs.Greedy.{with_triangle}
use Rattle.bintree_laws.proofs.CentreLemmas.{mate_unique, mate_symmetric}
use Rattle.mesh_laws.specs.Forcing.{IsPrepared}
use Rattle.mesh_laws.proofs.DescentLemmas.{IsAddress-splittable}

-- a set and one more

-- a member of the larger set is an old member or the new one
pub with-cases : (has : ℕ → Bool) (f a : ℕ) → IsTrue (with_triangle has f a) → IsTrue (has a) ⊎ (f ≡ a)
with-cases has f a h = ⊎_elim (λ old. inl old) (λ new. inr (eqb-true f a new)) (or_cases (has a) (eqb f a) h)

-- an old member is a member
pub with-old : (has : ℕ → Bool) (f a : ℕ) → IsTrue (has a) → IsTrue (with_triangle has f a)
with-old has f a h = or_left (has a) (eqb f a) h

-- and so is the new one
pub with-new : (has : ℕ → Bool) (f : ℕ) → IsTrue (with_triangle has f f)
with-new has f = or_right (has f) (eqb f f) (eq-eqb f f refl)

-- a member is forced by nothing
pub IsLeastClosed-member : (n : ℕ) (has : ℕ → Bool) (t : ℕ) → IsClosed n has → has t ≡ true →
    IsLeastClosed n (with_triangle has t) has
IsLeastClosed-member n has t closed is = record {
  closed = closed;
  holds = λ a h. ⊎_elim (λ old. old) (λ same. subst (λ z. IsTrue (has z)) same is) (with-cases has t a h);
  least = λ other c holds a h. holds a (with-old has t a h);
}

-- a triangle with no parent wants no preparation
pub IsPrepared-base : (n : ℕ) (has : ℕ → Bool) (t : ℕ) → IsClosed n has → t < 4 → IsPrepared n has has t
IsPrepared-base n has t closed small = record {
  closed = closed;
  holds = λ a h. h;
  parent = λ big. absurd (omega arith);
  least = λ other c holds parent. holds;
}

-- a triangle with a parent is prepared once the parent is forced
pub IsPrepared-parent : (n : ℕ) (before after : ℕ → Bool) (t p : ℕ) → p ≡ t / 2 → 4 ≤ t →
    IsLeastClosed n (with_triangle before p) after →
    IsPrepared n before after t
IsPrepared-parent n before after t p half big g = record {
  closed = g.closed;
  holds = λ a h. g.holds a (with-old before p a h);
  parent = λ _. subst (λ z. IsTrue (after z)) half (g.holds p (with-new before p));
  least = λ other c holds parent. g.least other c
      (λ a h. ⊎_elim (λ old. holds a old) (λ same. subst (λ z. IsTrue (other z)) (sym half ∙ same) (parent big))
      (with-cases before p a h));
}

-- a triangle with no mate

module _ (n : ℕ) (before prepared after : ℕ → Bool) (t : ℕ) (splittable : IsSplittable n t)
    (p : IsPrepared n before prepared t)
    (alone : (b : ℕ) → IsMate n t b → ⊥) (added : (a : ℕ) → after a ≡ with_triangle prepared t a) where
  -- a member afterwards was one before, or is t
  single_cases : (a : ℕ) → IsTrue (after a) → IsTrue (prepared a) ⊎ (t ≡ a)
  single_cases a h = with-cases prepared t a (sym (added a) ∙ h)

  -- what was a member is one afterwards
  single_old : (a : ℕ) → IsTrue (prepared a) → IsTrue (after a)
  single_old a h = added a ∙ with-old prepared t a h

  -- and so is t
  single_new : IsTrue (after t)
  single_new = added t ∙ with-new prepared t

  -- the set is closed
  IsClosed-single : IsClosed n after
  IsClosed-single = record {
    splittable = λ a h. ⊎_elim
        (λ old. p.closed.splittable a old)
        (λ same. subst (λ z. IsSplittable n z) same splittable)
        (single_cases a h);
    parent = λ a h big. ⊎_elim
        (λ old. single_old (a / 2) (p.closed.parent a old big))
        (λ same. single_old (a / 2) (subst (λ z. IsTrue (prepared (z / 2))) same
        (p.parent (let e : t ≡ a = same in omega arith))))
        (single_cases a h);
    mate = λ a b h m. ⊎_elim
        (λ old. single_old b (p.closed.mate a b old m))
        (λ same. absurd (alone b (subst (λ z. IsMate n z b) (sym same) m)))
        (single_cases a h);
  }

  -- it is the least closed one with t
  pub IsLeastClosed-single : IsLeastClosed n (with_triangle before t) after
  IsLeastClosed-single = record {
    closed = IsClosed-single;
    holds = λ a h. ⊎_elim
        (λ old. single_old a (p.holds a old))
        (λ same. subst (λ z. IsTrue (after z)) same single_new)
        (with-cases before t a h);
    least = λ other c holds a h.
        let member : IsTrue (other t) = holds t (with-new before t) in
        ⊎_elim
        (λ old. p.least other c (λ z k. holds z (with-old before t z k)) (λ big. c.parent t member big) a old)
        (λ same. subst (λ z. IsTrue (other z)) same member)
        (single_cases a h);
  }

-- a triangle and its mate

module _ (n : ℕ) (before first second half after : ℕ → Bool) (t u : ℕ)
    (splittable : IsSplittable n t) (mate : IsMate n t u)
    (p : IsPrepared n before first t) (q : IsPrepared n first second u)
    (added_mate : (a : ℕ) → half a ≡ with_triangle second u a)
    (added : (a : ℕ) → after a ≡ with_triangle half t a) where
  -- a member afterwards was one before, or is u or t
  pair_cases : (a : ℕ) → IsTrue (after a) → IsTrue (second a) ⊎ ((u ≡ a) ⊎ (t ≡ a))
  pair_cases a h = ⊎_elim
      (λ old. ⊎_elim (λ older. inl older) (λ same. inr (inl same)) (with-cases second u a (sym (added_mate a) ∙ old)))
      (λ same. inr (inr same))
      (with-cases half t a (sym (added a) ∙ h))

  -- what was a member is one afterwards
  pair_old : (a : ℕ) → IsTrue (second a) → IsTrue (after a)
  pair_old a h = added a ∙ with-old half t a (added_mate a ∙ with-old second u a h)

  -- and so is the mate
  pair_mate : IsTrue (after u)
  pair_mate = added u ∙ with-old half t u (added_mate u ∙ with-new second u)

  -- and so is t
  pair_new : IsTrue (after t)
  pair_new = added t ∙ with-new half t

  -- the mate is splittable
  splittable_mate : IsSplittable n u
  splittable_mate =
      let e = mate.level in
      let h = splittable.coarse in
      record { low = mate.address.low; coarse = omega arith }

  -- the set is closed
  IsClosed-pair : IsClosed n after
  IsClosed-pair = record {
    splittable = λ a h. ⊎_elim
        (λ old. q.closed.splittable a old)
        (λ new. ⊎_elim
        (λ same. subst (λ z. IsSplittable n z) same splittable_mate)
        (λ same. subst (λ z. IsSplittable n z) same splittable)
        new)
        (pair_cases a h);
    parent = λ a h big. ⊎_elim
        (λ old. pair_old (a / 2) (q.closed.parent a old big))
        (λ new. ⊎_elim
        (λ same. pair_old (a / 2) (subst (λ z. IsTrue (second (z / 2))) same
        (q.parent (let e : u ≡ a = same in omega arith))))
        (λ same. pair_old (a / 2) (subst (λ z. IsTrue (second (z / 2))) same
        (q.holds (t / 2) (p.parent (let e : t ≡ a = same in omega arith)))))
        new)
        (pair_cases a h);
    mate = λ a b h m. ⊎_elim
        (λ old. pair_old b (q.closed.mate a b old m))
        (λ new. ⊎_elim
        (λ same.
        let back : IsMate n u t = mate_symmetric n t u (IsAddress-splittable n t splittable) mate in
        let e : t ≡ b = mate_unique n u t b mate.address back (subst (λ z. IsMate n z b) (sym same) m) in
        subst (λ z. IsTrue (after z)) e pair_new)
        (λ same.
        let e : u ≡ b =
        mate_unique n t u b (IsAddress-splittable n t splittable) mate (subst (λ z. IsMate n z b) (sym same) m) in
        subst (λ z. IsTrue (after z)) e pair_mate)
        new)
        (pair_cases a h);
  }

  -- it is the least closed one with t
  pub IsLeastClosed-pair : IsLeastClosed n (with_triangle before t) after
  IsLeastClosed-pair = record {
    closed = IsClosed-pair;
    holds = λ a h. ⊎_elim
        (λ old. pair_old a (q.holds a (p.holds a old)))
        (λ same. subst (λ z. IsTrue (after z)) same pair_new)
        (with-cases before t a h);
    least = λ other c holds a h.
        let member : IsTrue (other t) = holds t (with-new before t) in
        let beside : IsTrue (other u) = c.mate t u member mate in
        let within : IsSubset first other =
        p.least other c (λ z k. holds z (with-old before t z k)) (λ big. c.parent t member big) in
        ⊎_elim
        (λ old. q.least other c within (λ big. c.parent u beside big) a old)
        (λ new. ⊎_elim
        (λ same. subst (λ z. IsTrue (other z)) same beside)
        (λ same. subst (λ z. IsTrue (other z)) same member)
        new)
        (pair_cases a h);
  }
