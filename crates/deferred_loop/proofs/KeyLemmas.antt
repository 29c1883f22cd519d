-- The keys of the queues are those of the frame.
use Rattle.std.proofs.Common.{◌≡◌, ℕ, ◌≤◌, inl, inr, Bool, true, false, cond, eqb, leb, sym, ◌∙◌, arith, ⊎_elim}
use Rattle.std.proofs.lemmas.Bool.{cases_Bool, both_ways, or_cases, or_parts, eqb-true, cond_both, cond-true}
use Rattle.std.proofs.lemmas.Bool.{cond-false, leb-true, le-leb}
use Rattle.mesh_defs.specs.ClosedSet.{IsClosed}
use Rattle.mesh_laws.proofs.DescentLemmas.{IsAddress-splittable}
use Rattle.mesh_laws.specs.Diamond.{IsInDiamond, CanMerge}
use Rattle.mesh_defs.specs.Ranking.{IsBefore}
use Rattle.mesh_laws.specs.Order.{IsNoLater}
use Rattle.mesh_laws.specs.Deferred.{DeferredFrame, IsDeferredFrame}
use Rattle.mesh_laws.specs.Keys.{upper_key, lower_key}
use Rattle.mesh_laws.proofs.DiamondLemmas.{diamond_trans, diamond_closed}
use Rattle.deferred_loop.specs.Seen.{SeenMesh, best_key, worst_key, sure, lower_of, upper_of}
use Rattle.deferred_loop.specs.Kept.{IsTrueKey}

-- the frame with the bounds that the mesh has now
abbrev pub present : DeferredFrame → SeenMesh → DeferredFrame
present w s = record w {
  upper = λ a. cond (leb (w.priority a) (upper_of (s.stamps a))) (upper_of (s.stamps a)) (w.priority a);
  lower = λ a. cond (leb (lower_of (s.stamps a)) (w.priority a)) (lower_of (s.stamps a)) (w.priority a);
}

-- it is one
pub present_is : (w : DeferredFrame) (s : SeenMesh) → IsDeferredFrame w → IsDeferredFrame (present w s)
present_is w s is = record {
  ranked = is.ranked;
  falling = is.falling;
  closure = is.closure;
  low = is.low;
  set = is.set;
  above = λ a _. cond_both (leb (w.priority a) (upper_of (s.stamps a))) (upper_of (s.stamps a)) (w.priority a)
      (λ z. w.priority a ≤ z) (λ more. leb-true (w.priority a) (upper_of (s.stamps a)) more) (λ none. omega arith);
  below = λ a _. cond_both (leb (lower_of (s.stamps a)) (w.priority a)) (lower_of (s.stamps a)) (w.priority a)
      (λ z. z ≤ w.priority a) (λ more. leb-true (lower_of (s.stamps a)) (w.priority a) more) (λ none. omega arith);
}

-- where the priority is known the keys are it
pub sure_key : (w : DeferredFrame) (s : SeenMesh) (a : ℕ) → IsTrueKey w s a → sure s a ≡ true →
    (best_key s a ≡ w.priority a) × (worst_key s a ≡ w.priority a)
unfolding best_key worst_key sure
sure_key w s a k told = ⊎_elim
    (λ (asked : s.known a ≡ true). (
      cond-true (s.known a) (s.exact a) (upper_of (s.stamps a)) asked ∙ k.exact asked,
      cond-true (s.known a) (s.exact a) (lower_of (s.stamps a)) asked ∙ k.exact asked,
    ))
    (λ (new : s.known a ≡ false).
    let one : (upper_of (s.stamps a)) ≡ (lower_of (s.stamps a)) = ⊎_elim
    (λ asked. absurd (both_ways (s.known a) new asked))
    (λ same. eqb-true (upper_of (s.stamps a)) (lower_of (s.stamps a)) same)
    (or_cases (s.known a) (eqb (upper_of (s.stamps a)) (lower_of (s.stamps a))) told) in
    let high = k.upper new in let low = k.lower new in
    let top : (upper_of (s.stamps a)) ≡ w.priority a = omega arith in
    let bottom : (lower_of (s.stamps a)) ≡ w.priority a = omega arith in (
      cond-false (s.known a) (s.exact a) (upper_of (s.stamps a)) new ∙ top,
      cond-false (s.known a) (s.exact a) (lower_of (s.stamps a)) new ∙ bottom,
    ))
    (cases_Bool (s.known a))

-- where it is not, it was not asked
pub unsure : (s : SeenMesh) (a : ℕ) → sure s a ≡ false → s.known a ≡ false
unfolding sure
unsure s a none = (or_parts (s.known a) (eqb (upper_of (s.stamps a)) (lower_of (s.stamps a))) none).0

-- the key of a leaf
pub best_key-upper : (w : DeferredFrame) (s : SeenMesh) (a : ℕ) → IsTrueKey w s a →
    best_key s a ≡ upper_key (present w s) (sure s) a
unfolding best_key upper_key
best_key-upper w s a k = ⊎_elim
    (λ (told : sure s a ≡ true). (sure_key w s a k told).0
    ∙ sym (cond-true (sure s a) (w.priority a) ((present w s).upper a) told))
    (λ (none : sure s a ≡ false).
    let new = unsure s a none in
    cond-false (s.known a) (s.exact a) (upper_of (s.stamps a)) new
    ∙ sym (cond-true (leb (w.priority a) (upper_of (s.stamps a))) (upper_of (s.stamps a)) (w.priority a)
    (le-leb (w.priority a) (upper_of (s.stamps a)) (k.upper new)))
    ∙ sym (cond-false (sure s a) (w.priority a) ((present w s).upper a) none))
    (cases_Bool (sure s a))

-- the key of a triangle that can be merged
pub worst_key-lower : (w : DeferredFrame) (s : SeenMesh) (a : ℕ) → IsTrueKey w s a →
    worst_key s a ≡ lower_key (present w s) (sure s) a
unfolding worst_key lower_key
worst_key-lower w s a k = ⊎_elim
    (λ (told : sure s a ≡ true). (sure_key w s a k told).1
    ∙ sym (cond-true (sure s a) (w.priority a) ((present w s).lower a) told))
    (λ (none : sure s a ≡ false).
    let new = unsure s a none in
    cond-false (s.known a) (s.exact a) (lower_of (s.stamps a)) new
    ∙ sym (cond-true (leb (lower_of (s.stamps a)) (w.priority a)) (lower_of (s.stamps a)) (w.priority a)
    (le-leb (lower_of (s.stamps a)) (w.priority a) (k.lower new)))
    ∙ sym (cond-false (sure s a) (w.priority a) ((present w s).lower a) none))
    (cases_Bool (sure s a))

-- a key that is not known is that of the stamp
pub best_key-stamp : (s : SeenMesh) (a : ℕ) → s.known a ≡ false → best_key s a ≡ (upper_of (s.stamps a))
unfolding best_key
best_key-stamp s a new = cond-false (s.known a) (s.exact a) (upper_of (s.stamps a)) new

-- the priority lies between the keys
pub best_key-above : (w : DeferredFrame) (s : SeenMesh) (a : ℕ) → IsTrueKey w s a → w.priority a ≤ best_key s a
unfolding best_key
best_key-above w s a k =
    cond_both (s.known a) (s.exact a) (upper_of (s.stamps a)) (λ z. w.priority a ≤ z)
    (λ told. let e = k.exact told in omega arith) (λ new. k.upper new)

-- and the key is no less than the bound of the stamp
pub worst_key-above : (w : DeferredFrame) (s : SeenMesh) (a x : ℕ) → IsTrueKey w s a → x ≤ w.priority a →
    (lower_of (s.stamps a)) ≡ x → x ≤ worst_key s a
unfolding worst_key
worst_key-above w s a x k below same =
    cond_both (s.known a) (s.exact a) (lower_of (s.stamps a)) (λ z. x ≤ z)
    (λ told. let e = k.exact told in omega arith) (λ new. omega arith)

-- the same order by equal keys
pub no_later_by : (x y : ℕ → ℕ) (a b : ℕ) → x a ≡ y a → x b ≡ y b → IsNoLater (x a) a (x b) b →
    IsNoLater (y a) a (y b) b
no_later_by x y a b one two (inl more) = inl (omega arith)
no_later_by x y a b one two (inr tie) = inr (sym one ∙ tie.0 ∙ two, tie.1)

-- before one that is no later than another
pub before_then : {p a q b r c : ℕ} → IsBefore p a q b → IsNoLater q b r c → IsBefore p a r c
before_then (inl h) (inl k) = inl (omega arith)
before_then (inl h) (inr k) = inl (omega arith)
before_then (inr h) (inl k) = inl (omega arith)
before_then (inr h) (inr k) = inr (omega arith, omega arith)

-- all triangles of a diamond can be merged where one can
pub can_merge_with : (n : ℕ) (has : ℕ → Bool) (a b : ℕ) → IsClosed n has → CanMerge n has a →
    IsInDiamond n a b → CanMerge n has b
can_merge_with n has a b closed can i = record {
  member = diamond_closed n has a b closed can.member i;
  childless =
      λ c j. can.childless c (diamond_trans n a b c (IsAddress-splittable n a (closed.splittable a can.member)) i j);
}
