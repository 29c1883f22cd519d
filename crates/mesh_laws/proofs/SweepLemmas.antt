-- One pass over the flags, from the last address down, gives the least closed set.
use Rattle.std.proofs.Common.{◌≡◌, ℕ, ◌+◌, ◌*◌, ◌/◌, ◌^◌, ◌<◌, ◌≤◌, ◌⊎◌, inl, inr, Bool, false, IsTrue, refl, sym, ◌∙◌}
use Rattle.std.proofs.Common.{subst, arith, ⊎_elim}
use Rattle.std.proofs.lemmas.Bool.{cases_eq, both_ways}
use Rattle.mesh_defs.specs.Triangle.{level_of, IsAddress, IsSplittable, IsMate}
use Rattle.mesh_defs.specs.ClosedSet.{IsClosed, IsLeastClosed}
use Rattle.mesh_defs.specs.Greedy.{with_triangle}
use Rattle.bintree_laws.proofs.LevelLemmas.{IsAtLevel-level_of, pow_after, level_of-below}
use Rattle.bintree_laws.proofs.CentreLemmas.{mate_unique, mate_symmetric}
use Rattle.mesh_laws.proofs.DescentLemmas.{IsAddress-splittable}
use Rattle.mesh_laws.proofs.ClosureLemmas.{IsSplittable-half, IsSplittable-mate}
use Rattle.mesh_laws.proofs.ForcingLemmas.{with-cases, with-old, with-new}
use Rattle.mesh_laws.specs.Sweep.{IsSwept, NewMark, own_parent, own_mate, mate_parent, IsMarked, IsParentMarked}

-- levels and addresses

-- a splittable triangle has an address below the finest ones
pub splittable-lt : (n a : ℕ) → IsSplittable n a → a < 2 ^ (2 * n + 1)
splittable-lt n a s = (level_of-below a (2 * n) s.low).0 s.coarse

-- and what has such an address is splittable
pub lt-splittable : (n a : ℕ) → 2 ≤ a → a < 2 ^ (2 * n + 1) → IsSplittable n a
lt-splittable n a low below = record { low = low; coarse = (level_of-below a (2 * n) low).1 below }

-- its mate has one too
pub mate-lt : (n a b : ℕ) → IsSplittable n a → IsMate n a b → b < 2 ^ (2 * n + 1)
mate-lt n a b s mate = splittable-lt n b (IsSplittable-mate n a b s mate)

-- half of an address is less than each address of its level
half-lt : (a b : ℕ) → 2 ≤ a → 2 ≤ b → level_of b ≡ level_of a → b / 2 < a
half-lt a b low_a low_b same =
    let p = IsAtLevel-level_of a low_a in
    let q = subst (λ l. b < 2 ^ (l + 2)) same (IsAtLevel-level_of b low_b).high in
    let r = p.low in
    let e = pow_after (level_of a) in
    omega arith

-- beginning, a visit, end

-- at first no address was visited
pub swept_at_first : (n : ℕ) (wanted : ℕ → Bool) → ((a : ℕ) → IsTrue (wanted a) → IsSplittable n a) →
    IsSwept n wanted wanted (2 ^ (2 * n + 1))
swept_at_first n wanted splittable = record {
  holds = λ a h. h;
  forced = λ other c holds. holds;
  splittable = splittable;
  parent = λ a late h big. let b = splittable-lt n a (splittable a h) in absurd (omega arith);
  mate = λ a b late h m. let c = splittable-lt n a (splittable a h) in absurd (omega arith);
}

-- a visit of an address that has no flag changes nothing
pub swept_skip : (n : ℕ) (wanted has : ℕ → Bool) (k : ℕ) → IsSwept n wanted has (k + 1) →
    has k ≡ false → IsSwept n wanted has k
swept_skip n wanted has k s none = record {
  holds = s.holds;
  forced = s.forced;
  splittable = s.splittable;
  parent = λ a late h big. s.parent a (later a late h) h big;
  mate = λ a b late h m. s.mate a b (later a late h) h m;
}
  where
    later : (a : ℕ) → k ≤ a → IsTrue (has a) → k + 1 ≤ a
    later a late h = ⊎_elim
        (λ same. absurd (both_ways (has a) (subst (λ z. has z ≡ false) same none) h))
        (λ other. omega arith)
        (cases_eq k a)

-- a visit of an address that has a flag
module _ (n : ℕ) (wanted has next : ℕ → Bool) (k : ℕ) (s : IsSwept n wanted has (k + 1)) (is : IsTrue (has k))
    (m : IsMarked n k has next) where
  -- the address is splittable
  visited : IsSplittable n k
  visited = s.splittable k is

  -- what is marked is splittable
  new-splittable : (a : ℕ) → NewMark n k a → IsSplittable n a
  new-splittable a (own_parent big e) = subst (λ z. IsSplittable n z) (sym e) (IsSplittable-half n k visited big)
  new-splittable a (own_mate mate) = IsSplittable-mate n k a visited mate
  new-splittable a (mate_parent b mate big e) =
      subst (λ z. IsSplittable n z) (sym e) (IsSplittable-half n b (IsSplittable-mate n k b visited mate) big)

  -- and a member of each closed set that holds k
  new-forced : (other : ℕ → Bool) → IsClosed n other → IsTrue (other k) → (a : ℕ) → NewMark n k a → IsTrue (other a)
  new-forced other c h a (own_parent big e) = subst (λ z. IsTrue (other z)) (sym e) (c.parent k h big)
  new-forced other c h a (own_mate mate) = c.mate k a h mate
  new-forced other c h a (mate_parent b mate big e) =
      subst (λ z. IsTrue (other z)) (sym e) (c.parent b (c.mate k b h mate) big)

  -- what is marked from k up is the mate
  new-late : (a : ℕ) → k ≤ a → NewMark n k a → IsMate n k a
  new-late a late (own_parent big e) = absurd (omega arith)
  new-late a late (own_mate mate) = mate
  new-late a late (mate_parent b mate big e) =
      let less = half-lt k b visited.low mate.address.low mate.level in
      absurd (omega arith)

  -- a member from k up was one before and later, or is k, or the mate of k
  late_cases : (a : ℕ) → k ≤ a → IsTrue (next a) → ((k + 1 ≤ a) × IsTrue (has a)) ⊎ ((k ≡ a) ⊎ IsMate n k a)
  late_cases a late h = ⊎_elim
      (λ old. ⊎_elim
      (λ same. inr (inl same))
      (λ other. inl (omega arith, old))
      (cases_eq k a))
      (λ new. inr (inr (new-late a late new)))
      (m.only a h)

  -- the visit keeps what the pass keeps
  pub swept_mark : IsSwept n wanted next k
  swept_mark = record {
    holds = λ a h. m.keeps a (s.holds a h);
    forced = λ other c holds a h. ⊎_elim
        (λ old. s.forced other c holds a old)
        (λ new. new-forced other c (s.forced other c holds k is) a new)
        (m.only a h);
    splittable = λ a h. ⊎_elim (s.splittable a) (new-splittable a) (m.only a h);
    parent = λ a late h big. ⊎_elim
        (λ (old : (k + 1 ≤ a) × IsTrue (has a)). m.keeps (a / 2) (s.parent a old.0 old.1 big))
        (λ new. ⊎_elim
        (λ same. m.marks (a / 2) (subst (λ z. 4 ≤ z → NewMark n k (z / 2)) same (λ more. own_parent more refl) big))
        (λ mate. m.marks (a / 2) (mate_parent a mate big refl))
        new)
        (late_cases a late h);
    mate = λ a b late h pair. ⊎_elim
        (λ (old : (k + 1 ≤ a) × IsTrue (has a)). m.keeps b (s.mate a b old.0 old.1 pair))
        (λ new. ⊎_elim
        (λ same. m.marks b (own_mate (subst (λ z. IsMate n z b) (sym same) pair)))
        (λ mate.
        let back : IsMate n a k = mate_symmetric n k a (IsAddress-splittable n k visited) mate in
        let e : k ≡ b = mate_unique n a k b mate.address back pair in
        subst (λ z. IsTrue (next z)) e (m.keeps k is))
        new)
        (late_cases a late h);
  }

-- after the visit of 2 the flags are the least closed set
pub swept_at_last : (n : ℕ) (wanted has : ℕ → Bool) → IsSwept n wanted has 2 → IsLeastClosed n wanted has
swept_at_last n wanted has s = record {
  closed = record {
    splittable = s.splittable;
    parent = λ a h big. s.parent a (s.splittable a h).low h big;
    mate = λ a b h m. s.mate a b (s.splittable a h).low h m;
  };
  holds = s.holds;
  least = s.forced;
}

-- one visit, by what it marks

-- a visit of a triangle with a mate u: its parent, u, the parent of u
pub marked-pair : (n k u : ℕ) (has first half next : ℕ → Bool) → IsAddress n k → IsMate n k u →
    IsParentMarked k has first →
    ((a : ℕ) → half a ≡ with_triangle first u a) → IsParentMarked u half next → IsMarked n k has next
marked-pair n k u has first half next address is p added q = record {
  keeps = λ a h. later a (p.keeps a h);
  marks = marks;
  only = λ a h. ⊎_elim
      (λ old. ⊎_elim
      (λ older. ⊎_elim (λ oldest. inl oldest) (λ new. inr (own_parent new.0 new.1)) (p.only a older))
      (λ same. inr (subst (λ z. NewMark n k z) same (own_mate is)))
      (with-cases first u a (sym (added a) ∙ old)))
      (λ new. inr (mate_parent u is new.0 new.1))
      (q.only a h);
}
  where
    later : (a : ℕ) → IsTrue (first a) → IsTrue (next a)
    later a h = q.keeps a (added a ∙ with-old first u a h)

    marks : (a : ℕ) → NewMark n k a → IsTrue (next a)
    marks a (own_parent big e) = later a (subst (λ z. IsTrue (first z)) (sym e) (p.parent big))
    marks a (own_mate mate) =
        subst (λ z. IsTrue (next z)) (mate_unique n k u a address is mate) (q.keeps u (added u ∙ with-new first u))
    marks a (mate_parent b mate big e) =
        let same : u ≡ b = mate_unique n k u b address is mate in
        subst (λ z. IsTrue (next z)) (sym e) (subst (λ z. 4 ≤ z → IsTrue (next (z / 2))) same q.parent big)
