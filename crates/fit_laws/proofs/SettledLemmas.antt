-- Closed sets none of whose leaves exceeds a tolerance: what is in two of them is one, and how one is reached by
-- splits.
use Rattle.std.proofs.Common.{◌≡◌, ℕ, ◌/◌, ◌<◌, ◌≤◌, ◌⊎◌, inl, inr, Bool, true, false, eqb, IsTrue, List, refl, subst}
use Rattle.std.proofs.Common.{arith, ⊎_elim, eq-eqb}
use Rattle.std.proofs.lemmas.Bool.{cases_Bool, both_ways, false≢true, and_parts, and_from, eqb-true}
use Rattle.std.proofs.lemmas.List.Elements.{All-contains}
use Rattle.mesh_defs.specs.Tiling.{IsConforming}
use Rattle.mesh_defs.specs.ClosedSet.{IsClosed, IsLeastClosed, leaves_of}
use Rattle.mesh_defs.specs.Greedy.{with_triangle}
use Rattle.mesh_defs.specs.Priority.{worst_of}
use Rattle.mesh_defs.proofs.ListLemmas.{IsIn, Contains-in, count-some, some-count}
use Rattle.mesh_defs.proofs.WorstLemmas.{worst-le, le-worst}
use Rattle.mesh_laws.specs.Ancestors.{ancestors_of}
use Rattle.mesh_laws.proofs.ConverseLemmas.{IsClosed-ancestors_of, AreLeaves-ancestors_of}
use Rattle.mesh_laws.proofs.ForcingLemmas.{with-cases}
use Rattle.mesh_laws.proofs.ClosureLemmas.{IsOuter, IsOuter-leaves_of, leaf-outer}
use Rattle.fit_laws.specs.Settled.{both, IsFineEnough, IsNeeded}

-- leaves

-- what is known of a leaf
pub outer-leaf : (n : ℕ) (has : ℕ → Bool) (a : ℕ) → IsClosed n has → IsIn a (leaves_of n has) → IsOuter n has a
outer-leaf n has a closed leaf =
    All-contains (IsOuter n has) (leaves_of n has) a (IsOuter-leaves_of n has closed)
    (Contains-in a (leaves_of n has) leaf)

-- a leaf of a settled set has no error above the tolerance
pub settled-outer : (n tolerance : ℕ) (error : ℕ → ℕ) (has : ℕ → Bool) (a : ℕ) → IsFineEnough n tolerance error has →
    IsOuter n has a → error a ≤ tolerance
settled-outer n tolerance error has a settled outer =
    let low = le-worst error a (leaves_of n has) (leaf-outer n has a settled.closed outer) in
    let most = settled.within in omega arith

-- a closed set whose outer triangles are within the tolerance is settled
pub outer-settled : (n tolerance : ℕ) (error : ℕ → ℕ) (has : ℕ → Bool) → IsClosed n has →
    ((a : ℕ) → IsOuter n has a → error a ≤ tolerance) → IsFineEnough n tolerance error has
outer-settled n tolerance error has closed fits = record {
  closed = closed;
  within = worst-le error tolerance (leaves_of n has) (λ a leaf. fits a (outer-leaf n has a closed leaf));
}

-- what is in two sets

module _ (n : ℕ) (some other : ℕ → Bool) where
  -- of two closed sets it is closed
  pub closed-both : IsClosed n some → IsClosed n other → IsClosed n (both some other)
  closed-both c d = record {
    splittable = λ a h. c.splittable a (and_parts (some a) (other a) h).0;
    parent = λ a h big.
        let p = and_parts (some a) (other a) h in
        and_from (some (a / 2)) (other (a / 2)) (c.parent a p.0 big) (d.parent a p.1 big);
    mate = λ a b h m.
        let p = and_parts (some a) (other a) h in
        and_from (some b) (other b) (c.mate a b p.0 m) (d.mate a b p.1 m);
  }

  -- its leaves are leaves of the one or of the other
  pub outer-both : (a : ℕ) → IsOuter n (both some other) a → IsOuter n some a ⊎ IsOuter n other a
  outer-both a o = ⊎_elim
      (λ (is : some a ≡ true). inr record {
        address = o.address;
        outside = λ also. o.outside (and_from (some a) (other a) is also);
        parent = λ big. (and_parts (some (a / 2)) (other (a / 2)) (o.parent big)).1;
      })
      (λ (no : some a ≡ false). inl record {
        address = o.address;
        outside = λ is. both_ways (some a) no is;
        parent = λ big. (and_parts (some (a / 2)) (other (a / 2)) (o.parent big)).0;
      })
      (cases_Bool (some a))

-- of two settled sets it is settled
pub settled-both : (n tolerance : ℕ) (error : ℕ → ℕ) (some other : ℕ → Bool) → IsFineEnough n tolerance error some →
    IsFineEnough n tolerance error other →
    IsFineEnough n tolerance error (both some other)
settled-both n tolerance error some other s t =
    outer-settled n tolerance error (both some other) (closed-both n some other s.closed t.closed) (λ a o. ⊎_elim
    (λ one. settled-outer n tolerance error some a s one)
    (λ two. settled-outer n tolerance error other a t two)
    (outer-both n some other a o))

-- conforming lists

-- a leaf of the ancestors of a conforming list is an entry
pub leaf-entry : (n : ℕ) (others : List ℕ) (a : ℕ) → IsConforming n others →
    IsIn a (leaves_of n (ancestors_of others)) → IsIn a others
leaf-entry n others a conforming leaf =
    let counts = (AreLeaves-ancestors_of n others conforming).counts a in
    let some = count-some (λ t. eqb t a) a (leaves_of n (ancestors_of others)) leaf (eq-eqb a a refl) in
    let found = some-count (λ t. eqb t a) others (omega arith) in
    subst (λ z. IsIn z others) (eqb-true found.0 a found.2) found.1

-- the ancestors of a conforming list within the tolerance are settled
pub settled-ancestors : (n tolerance : ℕ) (error : ℕ → ℕ) (others : List ℕ) → IsConforming n others →
    worst_of error others ≤ tolerance →
    IsFineEnough n tolerance error (ancestors_of others)
settled-ancestors n tolerance error others conforming within = record {
  closed = IsClosed-ancestors_of n others conforming;
  within = worst-le error tolerance (leaves_of n (ancestors_of others)) (λ a leaf.
      let most = le-worst error a others (leaf-entry n others a conforming leaf) in omega arith);
}

-- what is needed

-- nothing is
pub nothing_needed : (n tolerance : ℕ) (error : ℕ → ℕ) → IsNeeded n tolerance error (λ a. false)
nothing_needed n tolerance error other settled a h = absurd (false≢true h)

-- at a lower tolerance the same and more
pub needed-lower : (n tolerance : ℕ) (error : ℕ → ℕ) (has : ℕ → Bool) (less : ℕ) → less ≤ tolerance →
    IsNeeded n tolerance error has →
    IsNeeded n less error has
needed-lower n tolerance error has less le needed other settled =
    needed other record { closed = settled.closed; within = (let w = settled.within in omega arith) }

-- a leaf above the tolerance of what is needed, too
pub needed-leaf : (n tolerance : ℕ) (error : ℕ → ℕ) (has : ℕ → Bool) (t : ℕ) → IsNeeded n tolerance error has →
    IsOuter n has t → tolerance < error t →
    (other : ℕ → Bool) → IsFineEnough n tolerance error other → IsTrue (other t)
needed-leaf n tolerance error has t needed outer above other settled = ⊎_elim
    (λ is. is)
    (λ no.
    let fits = settled-outer n tolerance error other t settled record {
      address = outer.address;
      outside = λ is. both_ways (other t) no is;
      parent = λ big. needed other settled (t / 2) (outer.parent big);
    } in absurd (omega arith))
    (cases_Bool (other t))

-- and what its split forces
pub needed-step : (n tolerance : ℕ) (error : ℕ → ℕ) (has next : ℕ → Bool) (t : ℕ) → IsNeeded n tolerance error has →
    IsOuter n has t → tolerance < error t →
    IsLeastClosed n (with_triangle has t) next → IsNeeded n tolerance error next
needed-step n tolerance error has next t needed outer above least other settled =
    least.least other settled.closed (λ a h. ⊎_elim
    (λ old. needed other settled a old)
    (λ same. subst (λ z. IsTrue (other z)) same (needed-leaf n tolerance error has t needed outer above other settled))
    (with-cases has t a h))
