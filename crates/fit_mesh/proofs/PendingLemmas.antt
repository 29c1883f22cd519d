-- The new leaves of a split: children of new members.
use Rattle.std.proofs.Common.{◌≡◌, ℕ, suc, ◌%◌, ◌+◌, ◌*◌, ◌/◌, ◌^◌, ◌<◌, ◌≤◌, ◌⊎◌, inl, inr, Bool, true, false, IsTrue}
use Rattle.std.proofs.Common.{List, ◌∷◌, ◌++◌, length, drop, get_or, Contains, refl, sym, ◌∙◌, ap, subst, arith, ⊎_elim}
use Rattle.std.proofs.Math.Seq.{drop-append_seam, drop-cons}
use Rattle.std.proofs.lemmas.Bool.{cases_lt, cases_Bool, both_ways}
use Rattle.std.specs.BinaryHeap.{IsHeap}
use Rattle.mesh_defs.specs.Triangle.{IsAddress, IsSplittable}
use Rattle.mesh_defs.specs.ClosedSet.{IsClosed, IsLeastClosed, leaves_of, among}
use Rattle.mesh_defs.specs.Greedy.{with_triangle}
use Rattle.std.proofs.Math.Nat.{pow-succ'}
use Rattle.mesh_laws.proofs.SweepLemmas.{splittable-lt}
use Rattle.mesh_defs.proofs.ListLemmas.{IsIn-contains, Contains-in, IsIn, IsIn-among, among-in, IsIn-append}
use Rattle.mesh_laws.proofs.ForcingLemmas.{with-old}
use Rattle.mesh_laws.proofs.ClosureLemmas.{IsOuter, leaf-outer}
use Rattle.mesh_laws.specs.Sweep.{is_flagged}
use Rattle.fit_mesh.specs.Log.{IsLog, Extends}
use Rattle.fit_mesh.specs.Waiting.{pair_cmp, AreKept, IsPending, IsWaiting}
use Rattle.fit_laws.proofs.SettledLemmas.{outer-leaf}

-- leaves of a closed set

-- what is known of one
pub outer-of : (n : ℕ) (has : ℕ → Bool) (a : ℕ) → IsClosed n has → Contains (leaves_of n has) a → IsOuter n has a
outer-of n has a closed leaf = outer-leaf n has a closed (IsIn-contains a (leaves_of n has) leaf)

-- and that makes one
pub leaf-of : (n : ℕ) (has : ℕ → Bool) (a : ℕ) → IsClosed n has → IsOuter n has a → Contains (leaves_of n has) a
leaf-of n has a closed outer = Contains-in a (leaves_of n has) (leaf-outer n has a closed outer)

-- it is not split
pub unsplit : (n : ℕ) (has : ℕ → Bool) (a : ℕ) → IsClosed n has → Contains (leaves_of n has) a → has a ≡ false
unsplit n has a closed leaf = ⊎_elim
    (λ is. absurd ((outer-of n has a closed leaf).outside is))
    (λ lacks. lacks)
    (cases_Bool (has a))

-- new members

-- after a forced split
pub pending-init : (n : ℕ) (p : ℕ → ℕ) (old new : List Bool) (log next : List ℕ) (t : ℕ) (items : List (ℕ × ℕ)) →
    IsClosed n (is_flagged old) → IsLog old log → IsLog new next → Extends log next →
    IsLeastClosed n (with_triangle (is_flagged old) t) (is_flagged new) →
    IsWaiting n p (is_flagged old) items → IsPending n p (is_flagged new) (drop (length log) next) items
pending-init n p old new log next t items closed before after extends least waiting = record {
  ordered = waiting.ordered;
  entries = λ r h.
      let e = waiting.entries r h in
      record { address = e.address; parent = λ big. grows (r.1 / 2) (e.parent big); value = e.value; some = e.some };
  leaves = λ a leaf some.
      let outer : IsOuter n (is_flagged new) a = outer-of n (is_flagged new) a least.closed leaf in
      ⊎_elim
      (λ small. inl (waiting.leaves a (old_leaf a outer (λ big. absurd (omega arith))) some))
      (λ big. ⊎_elim
      (λ (is : is_flagged old (a / 2) ≡ true). inl (waiting.leaves a (old_leaf a outer (λ _. is)) some))
      (λ (lacks : is_flagged old (a / 2) ≡ false). inr (big, fresh (a / 2) (outer.parent big) lacks))
      (cases_Bool (is_flagged old (a / 2))))
      (cases_lt a 4);
}
  where
    grows : (a : ℕ) → IsTrue (is_flagged old a) → IsTrue (is_flagged new a)
    grows a h = least.holds a (with-old (is_flagged old) t a h)

    old_leaf : (a : ℕ) → IsOuter n (is_flagged new) a → (4 ≤ a → IsTrue (is_flagged old (a / 2))) →
        Contains (leaves_of n (is_flagged old)) a
    old_leaf a outer parent = leaf-of n (is_flagged old) a closed
        record { address = outer.address; outside = λ is. outer.outside (grows a is); parent = parent }

    fresh : (b : ℕ) → IsTrue (is_flagged new b) → is_flagged old b ≡ false → IsTrue (among (drop (length log) next) b)
    fresh b is lacks =
        let listed : IsIn b (log ++ extends.0) =
        subst (λ l. IsIn b l) extends.1 (IsIn-among b next (sym (after.same b) ∙ is)) in
        ⊎_elim
        (λ early. absurd (both_ways (is_flagged old b) lacks (before.same b ∙ among-in b log early)))
        (λ late. subst (λ (l : List ℕ). IsTrue (among l b))
        (sym (ap (drop (length log)) extends.1 ∙ drop-append_seam log extends.0))
        (among-in b extends.0 late))
        (IsIn-append b log extends.0 listed)

-- the children of one member
pub pending-step : (n : ℕ) (p : ℕ → ℕ) (has : ℕ → Bool) (log : List ℕ) (place t : ℕ) (old new : List (ℕ × ℕ)) →
    place < length log → t ≡ get_or log place t → IsTrue (has t) → IsClosed n has → IsHeap pair_cmp new →
    AreKept old new →
    ((a : ℕ) → 2 ≤ a → a / 2 ≡ t → has a ≡ false → 0 < p a → Contains new (p a, a)) →
    ((r : ℕ × ℕ) → Contains new r →
    Contains old r ⊎ ((r.1 / 2 ≡ t) × (4 ≤ r.1) × (r.0 ≡ p r.1) × (0 < r.0) × IsAddress n r.1)) →
    IsPending n p has (drop place log) old → IsPending n p has (drop (place + 1) log) new
pending-step n p has log place t old new below at member closed ordered kept added only pending = record {
  ordered = ordered;
  entries = λ r h. ⊎_elim
      (λ there. pending.entries r there)
      (λ late. record {
        address = late.4;
        parent = λ big. subst (λ z. IsTrue (has z)) (sym late.0) member;
        value = late.2;
        some = late.3;
      })
      (only r h);
  leaves = λ a leaf some. ⊎_elim
      (λ there. inl (kept (p a, a) there))
      (λ late.
      let after : suc place ≡ place + 1 = omega arith in
      let split : drop place log ≡ get_or log place t ∷ drop (place + 1) log =
      drop-cons log place t below ∙ ap (λ k. get_or log place t ∷ drop k log) after in
      ⊎_elim
      (λ (first : get_or log place t ≡ a / 2).
      inl (added a (omega (arith, late.0)) (sym first ∙ sym at) (unsplit n has a closed leaf) some))
      (λ rest. inr (late.0, among-in (a / 2) (drop (place + 1) log) rest))
      (IsIn-among (a / 2) (get_or log place t ∷ drop (place + 1) log)
      (subst (λ (l : List ℕ). IsTrue (among l (a / 2))) split late.1)))
      (pending.leaves a leaf some);
}

-- the entry at a place of a log is a member
pub listed-member : (flags : List Bool) (log : List ℕ) (place t : ℕ) → IsLog flags log → place < length log →
    t ≡ get_or log place t → IsTrue (is_flagged flags t)
listed-member flags log place t logged below at =
    logged.same t ∙ among-in t log (IsIn-contains t log (place, below, sym at))

-- a child is a triangle of the grid
pub child-address : (n t a : ℕ) → IsSplittable n t → 2 ≤ a → a / 2 ≡ t → IsAddress n a
child-address n t a s low half =
    let lt = splittable-lt n t s in
    let double : 2 ^ suc (2 * n + 1) ≡ 2 * 2 ^ (2 * n + 1) = pow-succ' 2 (2 * n + 1) in
    let exponent : suc (2 * n + 1) ≡ 2 * n + 2 = omega arith in
    let power : 2 ^ (2 * n + 2) ≡ 2 * 2 ^ (2 * n + 1) = sym (ap (λ k. 2 ^ k) exponent) ∙ double in
    record { low = low; high = omega arith }

-- both children
pub pair-added : (p : ℕ → ℕ) (has : ℕ → Bool) (t left right : ℕ) (first second : List (ℕ × ℕ)) → left ≡ 2 * t →
    right ≡ 2 * t + 1 →
    (has left ≡ false → 0 < p left → Contains first (p left, left)) → AreKept first second →
    (has right ≡ false → 0 < p right → Contains second (p right, right)) →
    (a : ℕ) → 2 ≤ a → a / 2 ≡ t → has a ≡ false → 0 < p a → Contains second (p a, a)
pair-added p has t left right first second is_left is_right one kept two a low half lacks some = ⊎_elim
    (λ even.
    let same : left ≡ a = omega arith in
    kept (p a, a) (subst (λ z. has z ≡ false → 0 < p z → Contains first (p z, z)) same one lacks some))
    (λ odd.
    let same : right ≡ a = omega arith in
    subst (λ z. has z ≡ false → 0 < p z → Contains second (p z, z)) same two lacks some)
    (cases_lt (a % 2) 1)

pub pair-only : (n : ℕ) (p : ℕ → ℕ) (t left right : ℕ) (old first second : List (ℕ × ℕ)) → IsSplittable n t →
    left ≡ 2 * t → right ≡ 2 * t + 1 →
    ((r : ℕ × ℕ) → Contains first r → Contains old r ⊎ ((r ≡ (p left, left)) × (0 < p left))) →
    ((r : ℕ × ℕ) → Contains second r → Contains first r ⊎ ((r ≡ (p right, right)) × (0 < p right))) →
    (r : ℕ × ℕ) → Contains second r →
    Contains old r ⊎ ((r.1 / 2 ≡ t) × (4 ≤ r.1) × (r.0 ≡ p r.1) × (0 < r.0) × IsAddress n r.1)
pair-only n p t left right old first second s is_left is_right one two r h = ⊎_elim
    (λ early. ⊎_elim
    (λ older. inl older)
    (λ (new : (r ≡ (p left, left)) × (0 < p left)).
    inr (subst (λ (z : ℕ × ℕ). (z.1 / 2 ≡ t) × (4 ≤ z.1) × (z.0 ≡ p z.1) × (0 < z.0) × IsAddress n z.1) (sym new.0)
    (child left (let e : left ≡ 2 * t = is_left in omega arith)
    (let e : left ≡ 2 * t = is_left in let l = s.low in omega arith) new.1)))
    (one r early))
    (λ (new : (r ≡ (p right, right)) × (0 < p right)).
    inr (subst (λ (z : ℕ × ℕ). (z.1 / 2 ≡ t) × (4 ≤ z.1) × (z.0 ≡ p z.1) × (0 < z.0) × IsAddress n z.1) (sym new.0)
    (child right (let e : right ≡ 2 * t + 1 = is_right in omega arith)
    (let e : right ≡ 2 * t + 1 = is_right in let l = s.low in omega arith) new.1)))
    (two r h)
  where
    child : (a : ℕ) → a / 2 ≡ t → 4 ≤ a → 0 < p a → (a / 2 ≡ t) × (4 ≤ a) × (p a ≡ p a) × (0 < p a) × IsAddress n a
    child a half big some = (half, big, refl, some, child-address n t a s (omega arith) half)
