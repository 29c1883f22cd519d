-- What a turn of refinement leaves, and what its end is.
use Rattle.std.proofs.Common.{◌≡◌, ℕ, ◌+◌, ◌-◌, ◌*◌, ◌/◌, ◌^◌, ◌<◌, ◌≤◌, ◌⊎◌, Bool, false, max, List, [], ◌∷◌, ◌++◌}
use Rattle.std.proofs.Common.{length, take, drop, Contains, inl, inr, refl, sym, ◌∙◌, ap, ap₂, subst, arith, ⊎_elim, length-append}
use Rattle.std.proofs.Math.Seq.{take-length}
use Rattle.std.proofs.Math.Pow.{pow_mono}
use Rattle.std.proofs.lemmas.List.{take-append-le}
use Rattle.std.proofs.lemmas.List.Elements.{All-contains}
use Rattle.std.proofs.lemmas.Bool.{cases_lt, both_ways}
use Rattle.std.specs.BinaryHeap.{IsHeap}
use Rattle.mesh_defs.specs.Triangle.{IsAddress, IsSplittable}
use Rattle.mesh_defs.specs.ClosedSet.{IsClosed, IsLeastClosed, leaves_of, among}
use Rattle.mesh_defs.specs.Greedy.{with_triangle}
use Rattle.mesh_defs.specs.Priority.{worst_of}
use Rattle.mesh_defs.proofs.ListLemmas.{among-in, Contains-in}
use Rattle.mesh_defs.proofs.WorstLemmas.{worst-le, le-worst}
use Rattle.mesh_laws.proofs.ClosureLemmas.{IsOuter, leaf-outer, leaves_of-same, nothing_closed}
use Rattle.mesh_laws.proofs.SizeLemmas.{length-leaves_once}
use Rattle.mesh_laws.proofs.LeafLemmas.{leaves_under-whole}
use Rattle.mesh_laws.specs.Sweep.{is_flagged}
use Rattle.fit_laws.specs.Settled.{IsNeeded, IsLeastSettled}
use Rattle.fit_laws.specs.Budget.{IsBudgetMesh}
use Rattle.fit_laws.proofs.SettledLemmas.{outer-leaf, needed-step, needed-lower}
use Rattle.fit_laws.specs.Error.{IsExactAtFinest}
use Rattle.fit_laws.proofs.FitLemmas.{closed-same, splittable-error}
use Rattle.fit_laws.proofs.BudgetLemmas.{budget_end}
use Rattle.fit_mesh.specs.Log.{Extends, HasLog}
use Rattle.fit_mesh.specs.Waiting.{pair_cmp, IsWaitingEntry, AreKept, AreLeft, IsFirst, IsPending, IsWaiting, IsWorstLeaf}
use Rattle.fit_mesh.specs.Grown.{IsNeededBelow, IsBest}
use Rattle.fit_mesh.specs.Found.{IsFound}
use Rattle.fit_mesh.proofs.LogLemmas.{log-none}
use Rattle.fit_mesh.proofs.PendingLemmas.{outer-of, unsplit}

-- there are two leaves more than entries of the log
pub counted : (n : ℕ) (flags : List Bool) (log : List ℕ) → HasLog n flags log →
    length (leaves_of n (is_flagged flags)) ≡ length log + 2
counted n flags log g =
    ap (λ (l : List ℕ). length l) (leaves_of-same n (is_flagged flags) (among log) g.logged.same)
    ∙ length-leaves_once n log (λ a h. g.logged.once a (among-in a log h))
    (closed-same n (is_flagged flags) (among log) g.logged.same g.closed)

-- the first waiting leaf

module _ (n : ℕ) (p : ℕ → ℕ) (flags : List Bool) (log : List ℕ) (items : List (ℕ × ℕ)) (g : HasLog n flags log)
    (w : IsWaiting n p (is_flagged flags) items) where
  -- it is a leaf
  pub first-outer : (r : ℕ × ℕ) → IsFirst (is_flagged flags) items r → IsOuter n (is_flagged flags) r.1
  first-outer r f =
      let e = w.entries r f.entry in
      record { address = e.address; outside = λ is. both_ways (is_flagged flags r.1) f.leaf is; parent = e.parent }

  -- and the worst of them
  pub first-worst : (r : ℕ × ℕ) → IsFirst (is_flagged flags) items r → worst_of p (leaves_of n (is_flagged flags)) ≡ r.0
  first-worst r f =
      let most : worst_of p (leaves_of n (is_flagged flags)) ≤ r.0 =
      worst-le p r.0 (leaves_of n (is_flagged flags)) (λ a leaf. ⊎_elim
      (λ some. All-contains (λ (s : ℕ × ℕ). s.0 ≤ r.0) items (p a, a) f.greatest
      (w.leaves a (Contains-in a (leaves_of n (is_flagged flags)) leaf) some))
      (λ none. omega arith)
      (cases_lt 0 (p a))) in
      let least = le-worst p r.1 (leaves_of n (is_flagged flags))
      (leaf-outer n (is_flagged flags) r.1 g.closed (first-outer r f)) in
      let same = (w.entries r f.entry).value in
      omega arith

  -- where none waits there is no error
  pub none-worst : items ≡ [] → worst_of p (leaves_of n (is_flagged flags)) ≡ 0
  none-worst empty =
      let most : worst_of p (leaves_of n (is_flagged flags)) ≤ 0 =
      worst-le p 0 (leaves_of n (is_flagged flags)) (λ a leaf. ⊎_elim
      (λ some.
      let there : Contains [] (p a, a) = subst (λ (l : List (ℕ × ℕ)). Contains l (p a, a)) empty
      (w.leaves a (Contains-in a (leaves_of n (is_flagged flags)) leaf) some) in
      absurd (let none : there.0 < 0 = there.1 in omega arith))
      (λ none. omega arith)
      (cases_lt 0 (p a))) in
      omega arith

  -- what is left waits
  pub waiting-left : (new : List (ℕ × ℕ)) → IsHeap pair_cmp new →
      AreLeft (is_flagged flags) items new → AreKept new items →
      IsWaiting n p (is_flagged flags) new
  waiting-left new ordered left only = record {
    ordered = ordered;
    entries = λ r h. w.entries r (only r h);
    leaves = λ a leaf some. left (p a, a) (w.leaves a leaf some) (unsplit n (is_flagged flags) a g.closed leaf);
  }

-- the first leaf has an error, so it can be split
module _ (n : ℕ) (p : ℕ → ℕ) (exact : IsExactAtFinest n p) (flags : List Bool) (items : List (ℕ × ℕ))
    (w : IsWaiting n p (is_flagged flags) items) where
  pub first-splittable : (r : ℕ × ℕ) → IsFirst (is_flagged flags) items r → IsSplittable n r.1
  first-splittable r f =
      let e = w.entries r f.entry in
      let some : 0 < r.0 = e.some in
      let same : r.0 ≡ p r.1 = e.value in splittable-error n p exact r.1 e.address (omega arith)

-- so it is the worst leaf
pub worst-leaf : (n : ℕ) (p : ℕ → ℕ) (exact : IsExactAtFinest n p) (flags : List Bool) (log : List ℕ)
    (items : List (ℕ × ℕ)) (r : ℕ × ℕ) → HasLog n flags log → IsWaiting n p (is_flagged flags) items →
    IsFirst (is_flagged flags) items r → IsWorstLeaf n p (is_flagged flags) r
worst-leaf n p exact flags log items r g w first = record {
  worst = first-worst n p flags log items g w r first;
  value = (w.entries r first.entry).value;
  leaf = Contains-in r.1 (leaves_of n (is_flagged flags))
      (leaf-outer n (is_flagged flags) r.1 g.closed (first-outer n p flags log items g w r first));
  splittable = first-splittable n p exact flags items w r first;
}

-- marks

-- of all that is split
best-at : (n : ℕ) (p : ℕ → ℕ) (tolerance budget least : ℕ) (flags : List Bool) (log : List ℕ) (mark : ℕ) →
    mark ≡ length log → HasLog n flags log →
    IsNeeded n (max least tolerance) p (is_flagged flags) →
    worst_of p (leaves_of n (is_flagged flags)) ≡ least →
    length log + 2 ≤ budget → IsBest n p tolerance budget least log mark
best-at n p tolerance budget least flags log mark at g needed worst few =
    let all : take mark log ≡ log = ap (λ k. take k log) at ∙ take-length log in
    let same : (a : ℕ) → is_flagged flags a ≡ among (take mark log) a =
    λ a. g.logged.same a ∙ ap (λ (l : List ℕ). among l a) (sym all) in
    let leaves : leaves_of n (is_flagged flags) ≡ leaves_of n (among (take mark log)) =
    leaves_of-same n (is_flagged flags) (among (take mark log)) same in
    let count = counted n flags log g in
    let longer : length (leaves_of n (is_flagged flags)) ≤ budget = omega arith in
    record {
      place = omega arith;
      closed = closed-same n (is_flagged flags) (among (take mark log)) same g.closed;
      worst = sym (ap (λ (l : List ℕ). worst_of p l) leaves) ∙ worst;
      needed = λ other s a h. needed other s a (same a ∙ h);
      within = subst (λ (l : List ℕ). length l ≤ budget) leaves longer;
    }

-- a new one
pub best-mark : (n : ℕ) (p : ℕ → ℕ) (tolerance budget low least : ℕ) (flags : List Bool) (log : List ℕ) (mark : ℕ) →
    mark ≡ length log → HasLog n flags log →
    IsNeededBelow n p low (is_flagged flags) → least < low → tolerance < low →
    worst_of p (leaves_of n (is_flagged flags)) ≡ least →
    length log + 2 ≤ budget → IsBest n p tolerance budget least log mark
best-mark n p tolerance budget low least flags log mark at g needed less above worst few =
    best-at n p tolerance budget least flags log mark at g (needed (max least tolerance) (omega arith)) worst few

-- an old one in a longer log
pub best-kept : (n : ℕ) (p : ℕ → ℕ) (tolerance budget low : ℕ) (log next : List ℕ) (mark : ℕ) → Extends log next →
    IsBest n p tolerance budget low log mark →
    IsBest n p tolerance budget low next mark
best-kept n p tolerance budget low log next mark extends b =
    let same : take mark log ≡ take mark next =
    sym (ap (take mark) extends.1 ∙ take-append-le mark log extends.0 b.place) in
    let longer : length next ≡ length (log ++ extends.0) = ap (λ (l : List ℕ). length l) extends.1 in
    record {
      place = (let place = b.place in let sum = length-append log extends.0 in omega arith);
      closed = subst (λ (l : List ℕ). IsClosed n (among l)) same b.closed;
      worst = subst (λ (l : List ℕ). worst_of p (leaves_of n (among l)) ≡ low) same b.worst;
      needed = subst (λ (l : List ℕ). IsNeeded n (max low tolerance) p (among l)) same b.needed;
      within = subst (λ (l : List ℕ). length (leaves_of n (among l)) ≤ budget) same b.within;
    }

-- the split of the first leaf

pub below-step : (n : ℕ) (p : ℕ → ℕ) (low : ℕ) (has next : ℕ → Bool) (t : ℕ) → IsNeededBelow n p low has →
    IsOuter n has t → low ≤ p t →
    IsLeastClosed n (with_triangle has t) next → IsNeededBelow n p low next
below-step n p low has next t needed outer above least k less =
    needed-step n k p has next t (needed k less) outer (omega arith) least

-- the beginning

-- addresses are small
pub address-small : (n a : ℕ) → n ≤ 14 → IsAddress n a → (2 ≤ a) × (a < 2 ^ 30)
address-small n a high address =
    let few : 2 * n + 2 ≤ 30 = omega arith in
    let most : 2 ^ (2 * n + 2) ≤ 2 ^ 30 = pow_mono few in
    (address.low, (let h = address.high in omega arith))

-- the empty set has the two halves of the square as leaves
pub base_leaves : (n : ℕ) → leaves_of n (among []) ≡ 2 ∷ (3 ∷ [])
unfolding leaves_of
base_leaves n =
    ap₂ (λ (x y : List ℕ). x ++ y) (leaves_under-whole (2 * n) (among []) 2 refl)
    (leaves_under-whole (2 * n) (among []) 3 refl)

-- no triangle is split
pub start-grown : (n : ℕ) (flags : List Bool) → ((a : ℕ) → is_flagged flags a ≡ false) → length flags ≡ 2 ^ (2 * n + 1) →
    HasLog n flags []
start-grown n flags empty room = record {
  room = room;
  logged = log-none flags empty;
  closed = closed-same n (λ a. false) (is_flagged flags) (λ a. sym (empty a)) (nothing_closed n);
}

-- which is the least settled set where no error is above the tolerance
pub start-settled : (n tolerance : ℕ) (p : ℕ → ℕ) (flags : List Bool) → ((a : ℕ) → is_flagged flags a ≡ false) →
    ((a : ℕ) → IsAddress n a → p a ≤ tolerance) → IsLeastSettled n tolerance p (is_flagged flags)
start-settled n tolerance p flags empty small =
    let closed : IsClosed n (is_flagged flags) =
    closed-same n (λ a. false) (is_flagged flags) (λ a. sym (empty a)) (nothing_closed n) in
    record {
      settled = record {
        closed = closed;
        within = worst-le p tolerance (leaves_of n (is_flagged flags)) (λ a leaf.
            small a (outer-leaf n (is_flagged flags) a closed leaf).address);
      };
      needed = λ other s a h. absurd (both_ways (is_flagged flags a) (empty a) h);
    }

-- the least settled set of another test
pub settled-same : (n tolerance : ℕ) (p : ℕ → ℕ) (has other : ℕ → Bool) → ((a : ℕ) → has a ≡ other a) →
    IsLeastSettled n tolerance p has → IsLeastSettled n tolerance p other
settled-same n tolerance p has other same least = record {
  settled = record {
    closed = closed-same n has other same least.settled.closed;
    within = subst (λ (l : List ℕ). worst_of p l ≤ tolerance) (leaves_of-same n has other same) least.settled.within;
  };
  needed = λ others fine a is. least.needed others fine a (same a ∙ is);
}

-- the log of another table
pub log-same : (n : ℕ) (flags next : List Bool) (log : List ℕ) → length next ≡ length flags →
    ((a : ℕ) → is_flagged flags a ≡ is_flagged next a) → HasLog n flags log → HasLog n next log
log-same n flags next log long same g = record {
  room = long ∙ g.room;
  logged = record { same = λ a. sym (same a) ∙ g.logged.same a; new = g.logged.new; once = g.logged.once };
  closed = closed-same n (is_flagged flags) (is_flagged next) same g.closed;
}

-- a least settled set is needed below its greatest error, and the best so far
module _ (n : ℕ) (p : ℕ → ℕ) (from : ℕ) (flags : List Bool) (log : List ℕ) (g : HasLog n flags log)
    (fit : IsLeastSettled n from p (is_flagged flags)) where
  pub start-needed : (low : ℕ) → low ≡ worst_of p (leaves_of n (is_flagged flags)) →
      IsNeededBelow n p low (is_flagged flags)
  start-needed low is k less =
      let within = fit.settled.within in needed-lower n from p (is_flagged flags) k (omega arith) fit.needed

  pub start-best : (tolerance budget low : ℕ) → tolerance ≤ from → low ≡ worst_of p (leaves_of n (is_flagged flags)) →
      length log + 2 ≤ budget → IsBest n p tolerance budget low log (length log)
  start-best tolerance budget low wide is few =
      let within = fit.settled.within in
      best-at n p tolerance budget low flags log (length log) refl g
      (needed-lower n from p (is_flagged flags) (max low tolerance) (omega arith) fit.needed) (sym is) few

-- and its leaves wait
pub start-pending : (n : ℕ) (p : ℕ → ℕ) (flags : List Bool) (log : List ℕ) → HasLog n flags log →
    (none one two : List (ℕ × ℕ)) → none ≡ [] → IsAddress n 2 → IsAddress n 3 →
    IsHeap pair_cmp two → AreKept one two →
    (is_flagged flags 2 ≡ false → 0 < p 2 → Contains one (p 2, 2)) →
    (is_flagged flags 3 ≡ false → 0 < p 3 → Contains two (p 3, 3)) →
    ((r : ℕ × ℕ) → Contains one r → Contains none r ⊎ ((r ≡ (p 2, 2)) × (0 < p 2))) →
    ((r : ℕ × ℕ) → Contains two r → Contains one r ⊎ ((r ≡ (p 3, 3)) × (0 < p 3))) →
    IsPending n p (is_flagged flags) (drop 0 log) two
start-pending n p flags log g none one two nothing lower upper ordered kept first second only_one only_two = record {
  ordered = ordered;
  entries = λ r h. ⊎_elim
      (λ early. ⊎_elim
      (λ (older : Contains none r). absurd (no_entry r (subst (λ (l : List (ℕ × ℕ)). Contains l r) nothing older)))
      (λ new. subst (λ (z : ℕ × ℕ). IsWaitingEntry n p (is_flagged flags) z) (sym new.0)
      record { address = lower; parent = λ big. absurd (omega arith); value = refl; some = new.1 })
      (only_one r early))
      (λ new. subst (λ (z : ℕ × ℕ). IsWaitingEntry n p (is_flagged flags) z) (sym new.0)
      record { address = upper; parent = λ big. absurd (omega arith); value = refl; some = new.1 })
      (only_two r h);
  leaves = λ a leaf some.
      let outer : IsOuter n (is_flagged flags) a = outer-of n (is_flagged flags) a g.closed leaf in
      let lacks : is_flagged flags a ≡ false = unsplit n (is_flagged flags) a g.closed leaf in
      ⊎_elim
      (λ (small : a < 4). inl (⊎_elim
      (λ (less : a < 3).
      let same : 2 ≡ a = (let l = outer.address.low in omega arith) in
      subst (λ z. is_flagged flags z ≡ false → 0 < p z → Contains two (p z, z)) same
      (λ free some. kept (p 2, 2) (first free some)) lacks some)
      (λ (more : 3 ≤ a).
      let same : 3 ≡ a = omega arith in
      subst (λ z. is_flagged flags z ≡ false → 0 < p z → Contains two (p z, z)) same second lacks some)
      (cases_lt a 3)))
      (λ big. inr (big, sym (g.logged.same (a / 2)) ∙ outer.parent big))
      (cases_lt a 4);
}
  where
    no_entry : (r : ℕ × ℕ) → Contains [] r → ⊥
    no_entry r (k, below, is) = omega arith

-- the end

module _ (n : ℕ) (p : ℕ → ℕ) (tolerance budget low : ℕ) (log : List ℕ) (mark : ℕ) (flags : List Bool)
    (b : IsBest n p tolerance budget low log mark)
    (same : (a : ℕ) → is_flagged flags a ≡ among (take mark log) a) where
  back : (a : ℕ) → among (take mark log) a ≡ is_flagged flags a
  back a = sym (same a)

  end-leaves : leaves_of n (is_flagged flags) ≡ leaves_of n (among (take mark log))
  end-leaves = leaves_of-same n (is_flagged flags) (among (take mark log)) same

  pub end-worst : low ≡ worst_of p (leaves_of n (is_flagged flags))
  end-worst = sym (ap (λ (l : List ℕ). worst_of p l) end-leaves ∙ b.worst)

  pub end-within : length (leaves_of n (is_flagged flags)) ≤ budget
  end-within = subst (λ (l : List ℕ). length l ≤ budget) (sym end-leaves) b.within

  -- the set fits each tolerance between its own greatest error and what it is needed at
  pub end-fit : (k : ℕ) → low ≤ k → k ≤ max low tolerance → IsLeastSettled n k p (is_flagged flags)
  end-fit k above below = record {
    settled = record {
      closed = closed-same n (among (take mark log)) (is_flagged flags) back b.closed;
      within = (let w = end-worst in omega arith);
    };
    needed = λ other s a h.
        needed-lower n (max low tolerance) p (among (take mark log)) k below b.needed other s a (back a ∙ h);
  }

  -- where the budget was exceeded, it is a mesh of the budget
  pub end-best : (over : ℕ → Bool) → tolerance < low → IsNeededBelow n p low over → budget < length (leaves_of n over) →
      IsBudgetMesh n budget p (leaves_of n (is_flagged flags))
  end-best over above needed many =
      budget_end n budget p (is_flagged flags) over
      (subst (λ k. IsLeastSettled n k p (is_flagged flags)) end-worst (end-fit low (omega arith) (omega arith)))
      end-within (low - 1)
      (let w = end-worst in omega arith) (needed (low - 1) (omega arith)) many

-- what refinement finds
pub end-found : (n : ℕ) (p : ℕ →
    ℕ) (tolerance budget low : ℕ) (log : List ℕ) (mark : ℕ) (flags : List Bool) (over : ℕ → Bool) →
    IsBest n p tolerance budget low log mark → ((a : ℕ) → is_flagged flags a ≡ among (take mark log) a) →
    (low ≤ tolerance) ⊎ (IsNeededBelow n p low over × (budget < length (leaves_of n over))) →
    IsFound n tolerance budget p (is_flagged flags)
end-found n p tolerance budget low log mark flags over b same end =
    let worst : low ≡ worst_of p (leaves_of n (is_flagged flags)) =
    end-worst n p tolerance budget low log mark flags b same in
    record {
      fit = subst (λ k. IsLeastSettled n k p (is_flagged flags)) worst
          (end-fit n p tolerance budget low log mark flags b same low (omega arith) (omega arith));
      within = end-within n p tolerance budget low log mark flags b same;
      fewest = λ le. end-fit n p tolerance budget low log mark flags b same tolerance (omega arith) (omega arith);
      best = λ above. ⊎_elim
          (λ fits. absurd (omega arith))
          (λ many. end-best n p tolerance budget low log mark flags b same over (omega arith) many.0 many.1)
          end;
    }
