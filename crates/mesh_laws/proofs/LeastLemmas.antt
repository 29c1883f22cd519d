-- The least mesh: it is within the tolerance, and each conforming list within the tolerance refines it.
use Rattle.std.proofs.Common.{◌≡◌, ℕ, zero, suc, ◌*◌, ◌/◌, ◌<◌, ◌≤◌, ◌⊎◌, ◌↔◌, inl, inr, Bool, false, eqb, ltb, IsTrue, max, List}
use Rattle.std.proofs.Common.{[], ◌∷◌, ◌++◌, length, take, Option, Contains, refl, sym, ◌∙◌, subst, arith, ⊎_elim, eq-eqb}
use Rattle.std.proofs.lemmas.Bool.{cases_lt, both_ways, false≢true, and_parts, and_from, leb-true, le-leb, ltb-true}
use Rattle.std.proofs.lemmas.Bool.{lt-ltb, eqb-true}
use Rattle.std.proofs.lemmas.List.Elements.{All-contains}
use Rattle.mesh_defs.specs.Triangle.{level_of, IsAddress, IsSplittable}
use Rattle.mesh_defs.specs.Tiling.{IsConforming}
use Rattle.mesh_defs.specs.ClosedSet.{IsClosed, IsSubset, IsLeastClosed, leaves_of}
use Rattle.mesh_defs.specs.Priority.{worst_of}
use Rattle.bintree_laws.proofs.LevelLemmas.{level_of-parent}
use Rattle.mesh_laws.specs.Ancestors.{is_above, ancestors_of}
use Rattle.mesh_laws.proofs.DescentLemmas.{IsAddress-splittable}
use Rattle.mesh_laws.proofs.ConformityLemmas.{IsUnder, self, below, member_above, IsConforming-leaves_of}
use Rattle.mesh_defs.proofs.ListLemmas.{IsIn, IsIn-among, IsIn-contains, Contains-in, Any-in, count-some, some-count, length-counts}
use Rattle.mesh_laws.proofs.ConverseLemmas.{IsCovered, member_or_covered, above-under, under-above}
use Rattle.mesh_laws.proofs.ConverseLemmas.{IsClosed-ancestors_of, AreLeaves-ancestors_of}
use Rattle.mesh_defs.specs.Falling.{IsFalling}
use Rattle.mesh_defs.proofs.WorstLemmas.{worst-le, le-worst}
use Rattle.mesh_defs.proofs.TestLemmas.{same_tests}
use Rattle.mesh_laws.proofs.ClosureLemmas.{leaves_of-more, leaves_of-same, IsLeastClosed-unique, IsOuter}
use Rattle.mesh_laws.proofs.ClosureLemmas.{IsOuter-leaves_of}
use Rattle.mesh_laws.proofs.ExistenceLemmas.{least_closed_of}
use Rattle.mesh_laws.specs.Least.{is_worse, IsLeastList, IsLyingIn, IsLeastMesh}
use Rattle.bintree_addr.specs.declared.blocked.Blocked.{Blocked}
use Rattle.mesh_laws.specs.Frame.{IsFrame}
use Rattle.mesh_laws.proofs.RankLemmas.{priority-under, splittable-positive}

-- the worst of a list

-- with one more at the end
pub worst_of-next : (priority : ℕ → ℕ) (xs : List ℕ) (x : ℕ) →
    worst_of priority (xs ++ x ∷ []) ≡ max (worst_of priority xs) (priority x)
worst_of-next priority [] x = omega arith
worst_of-next priority (y ∷ ys) x =
    let rest : worst_of priority (ys ++ x ∷ []) ≡ max (worst_of priority ys) (priority x) =
    worst_of-next priority ys x in
    omega arith

-- members and entries of a conforming list

-- an entry is no ancestor of an entry
pub entry_outside : (n : ℕ) (others : List ℕ) → IsConforming n others → (a : ℕ) → IsIn a others →
    IsTrue (ancestors_of others a) → ⊥
entry_outside n others conforming a listed =
    let counts = (AreLeaves-ancestors_of n others conforming).counts a in
    let some = count-some (λ t. eqb t a) a others listed (eq-eqb a a refl) in
    let found = some-count (λ t. eqb t a) (leaves_of n (ancestors_of others)) (omega arith) in
    let outer = All-contains (IsOuter n (ancestors_of others)) (leaves_of n (ancestors_of others)) found.0
    (IsOuter-leaves_of n (ancestors_of others) (IsClosed-ancestors_of n others conforming))
    (Contains-in found.0 (leaves_of n (ancestors_of others)) found.1) in
    subst (λ z. IsTrue (ancestors_of others z) → ⊥) (eqb-true found.0 a found.2) outer.outside

-- a conforming list has as many entries as its ancestors have leaves
pub length-ancestors : (n : ℕ) (others : List ℕ) → IsConforming n others →
    length (leaves_of n (ancestors_of others)) ≡ length others
length-ancestors n others conforming =
    length-counts (leaves_of n (ancestors_of others)) others (AreLeaves-ancestors_of n others conforming).counts

-- what lies above a leaf of a closed set is a member
pub above_leaf-member : (n : ℕ) (has : ℕ → Bool) → IsClosed n has → IsSubset (ancestors_of (leaves_of n has)) has
above_leaf-member n has closed a above =
    let e = Any-in (λ e. is_above a e) (leaves_of n has) above in
    let parts = under-above a e.0 e.2 in
    let outer = All-contains (IsOuter n has) (leaves_of n has) e.0 (IsOuter-leaves_of n has closed)
    (Contains-in e.0 (leaves_of n has) e.1) in
    member_above has closed.parent a (e.0 / 2) parts.2 (outer.parent parts.1)

-- what lies at and below v is v or has v above it
pub under_cases : (v a : ℕ) → 2 ≤ v → IsUnder v a → (v ≡ a) ⊎ IsTrue (is_above v a)
under_cases v a low self = inl refl
under_cases v a low (below b big u) = inr (above-under v b low big u)

-- falling priorities

module _ (n : ℕ) (priority : ℕ → ℕ) (falling : IsFalling n priority) where
  -- what is worse than each entry of a conforming list is an ancestor of one
  pub ancestor-worse : (others : List ℕ) → IsConforming n others → (a : ℕ) → IsAddress n a →
      worst_of priority others < priority a →
      IsTrue (ancestors_of others a)
  ancestor-worse others conforming a address worse = ⊎_elim
      (λ member. member)
      (λ (c : IsCovered n others conforming a).
      let over = priority-under n priority falling c.entry a address c.under in
      let worst = le-worst priority c.entry others c.listed in absurd (omega arith))
      (member_or_covered n others conforming a address)

-- what is worse than the tolerance

-- the test, in words
pub worse-iff : (n tolerance : ℕ) (priority : ℕ → ℕ) (a : ℕ) →
    IsTrue (is_worse n tolerance priority a) ↔ (IsSplittable n a × (tolerance < priority a))
worse-iff n tolerance priority a = (
  (λ h.
      let p = and_parts _ _ h in
      let q = and_parts _ _ p.0 in (
        record { low = leb-true 2 a q.0; coarse = ltb-true (level_of a) (2 * n) q.1 },
        ltb-true tolerance (priority a) p.1,
      )),
  (λ r. and_from _ _ (and_from _ _ (le-leb 2 a r.0.low) (lt-ltb (level_of a) (2 * n) r.0.coarse))
      (lt-ltb tolerance (priority a) r.1)),
)

-- its closure exists
pub least_found : (n tolerance : ℕ) (priority : ℕ → ℕ) →
    (has : ℕ → Bool) × IsLeastClosed n (is_worse n tolerance priority) has
least_found n tolerance priority =
    least_closed_of n (is_worse n tolerance priority) (λ a h. ((worse-iff n tolerance priority a).0 h).0)

module _ (n tolerance : ℕ) (priority : ℕ → ℕ) (has : ℕ → Bool) (falling : IsFalling n priority)
    (closure : IsLeastClosed n (is_worse n tolerance priority) has) where
  -- no leaf is worse than the tolerance
  pub least_within : worst_of priority (leaves_of n has) ≤ tolerance
  least_within = worst-le priority tolerance (leaves_of n has) (λ a leaf.
      let outer = All-contains (IsOuter n has) (leaves_of n has) a (IsOuter-leaves_of n has closure.closed)
      (Contains-in a (leaves_of n has) leaf) in
      ⊎_elim
      (λ worse. absurd (outer.outside (closure.holds a ((worse-iff n tolerance priority a).1
      (splittable-positive n priority falling a outer.address (omega arith), worse)))))
      (λ fits. fits)
      (cases_lt tolerance (priority a)))

  module _ (others : List ℕ) (conforming : IsConforming n others) (within : worst_of priority others ≤ tolerance) where
    -- each conforming list within the tolerance has all of it split
    pub least_inside : IsSubset has (ancestors_of others)
    least_inside = closure.least (ancestors_of others) (IsClosed-ancestors_of n others conforming) (λ a h.
        let w = (worse-iff n tolerance priority a).0 h in
        ancestor-worse n priority falling others conforming a (IsAddress-splittable n a w.0)
        (let more = w.1 in omega arith))

    -- so it has as many triangles at least
    pub least_fewest : length (leaves_of n has) ≤ length others
    least_fewest =
        let more = leaves_of-more n has (ancestors_of others) least_inside in
        let same = length-ancestors n others conforming in omega arith

    -- and each of them lies in a leaf
    pub least_refined : (a : ℕ) → Contains others a → IsLyingIn (leaves_of n has) a
    least_refined a listed =
        let address : IsAddress n a = All-contains (IsAddress n) others a conforming.addresses listed in
        ⊎_elim
        (λ above. absurd (entry_outside n others conforming a (IsIn-contains a others listed)
        (least_inside a (above_leaf-member n has closure.closed a above))))
        (λ (c : IsCovered n (leaves_of n has) (IsConforming-leaves_of n has closure.closed) a). (
          c.entry,
          Contains-in c.entry (leaves_of n has) c.listed,
          under_cases c.entry a
              (All-contains (IsOuter n has) (leaves_of n has) c.entry (IsOuter-leaves_of n has closure.closed)
              (Contains-in c.entry (leaves_of n has) c.listed)).address.low c.under,
        ))
        (member_or_covered n (leaves_of n has) (IsConforming-leaves_of n has closure.closed) a address)

  -- so its leaves are a least mesh
  pub least_mesh : IsLeastMesh n tolerance priority (leaves_of n has)
  least_mesh = record {
    conforming = IsConforming-leaves_of n has closure.closed;
    within = least_within;
    inside = λ others conforming within a above.
        least_inside others conforming within a (above_leaf-member n has closure.closed a above);
    fewest = least_fewest;
    refined = least_refined;
  }

-- the list of a tolerance

-- there is only one
pub least_unique : (n tolerance : ℕ) (priority : ℕ → ℕ) (xs ys : List ℕ) → IsLeastList n tolerance priority xs →
    IsLeastList n tolerance priority ys → xs ≡ ys
least_unique n tolerance priority xs ys p q =
    p.leaves
    ∙ leaves_of-same n p.has q.has (IsLeastClosed-unique n
    (is_worse n tolerance priority) p.has q.has p.closure q.closure)
    ∙ sym q.leaves

-- it is a least mesh
pub least_list-mesh : (n tolerance : ℕ) (priority : ℕ → ℕ) (xs : List ℕ) → IsFalling n priority →
    IsLeastList n tolerance priority xs →
    IsLeastMesh n tolerance priority xs
least_list-mesh n tolerance priority xs falling p =
    subst (λ (l : List ℕ). IsLeastMesh n tolerance priority l) (sym p.leaves)
    (least_mesh n tolerance priority p.has falling p.closure)

-- a frame of worst 0

-- what is in a prefix is in the list
prefix-in : (k a : ℕ) (xs : List ℕ) → IsIn a (take k xs) → IsIn a xs
prefix-in zero a xs h = absurd h
prefix-in (suc k) a [] h = absurd h
prefix-in (suc k) a (x ∷ xs) (inl e) = inl e
prefix-in (suc k) a (x ∷ xs) (inr h) = inr (prefix-in k a xs h)

-- split is what has a priority above 0, with what that forces, and no more
pub least_closed-frame : (n budget : ℕ) (priority : ℕ → ℕ) (has : ℕ → Bool) (blocked : Option Blocked) →
    IsFrame n budget priority has 0 blocked → IsFalling n priority → IsLeastClosed n (is_worse n 0 priority) has
least_closed-frame n budget priority has blocked frame falling =
    let closed = frame.closure.closure.closed in
    record {
      closed = closed;
      holds = λ a h.
          let w = (worse-iff n 0 priority a).0 h in
          let some = w.1 in
          let greatest = frame.greatest in
          above_leaf-member n has closed a
          (ancestor-worse n priority falling (leaves_of n has) (IsConforming-leaves_of n has closed) a
          (IsAddress-splittable n a w.0) (omega arith));
      least = λ other other_closed holds. frame.closure.closure.least other other_closed (λ a h.
          let ranked = prefix-in frame.chosen a frame.ranking (IsIn-among a (take frame.chosen frame.ranking) h) in
          holds a ((worse-iff n 0 priority a).1 ((frame.ranked.members a).0 (Contains-in a frame.ranking ranked))));
    }

-- asking from the top down

-- of a splittable triangle its priority decides
pub worse-splittable : (n tolerance : ℕ) (priority : ℕ → ℕ) (a : ℕ) → IsSplittable n a →
    is_worse n tolerance priority a ≡ ltb tolerance (priority a)
worse-splittable n tolerance priority a s = same_tests (is_worse n tolerance priority a) (ltb tolerance (priority a))
    (λ h. lt-ltb tolerance (priority a) ((worse-iff n tolerance priority a).0 h).1)
    (λ h. (worse-iff n tolerance priority a).1 (s, ltb-true tolerance (priority a) h))

-- what is not splittable is not worse than a tolerance
pub not_worse : (n tolerance : ℕ) (priority : ℕ → ℕ) (a : ℕ) → (IsSplittable n a → ⊥) →
    is_worse n tolerance priority a ≡ false
not_worse n tolerance priority a fine = same_tests (is_worse n tolerance priority a) false
    (λ h. absurd (fine ((worse-iff n tolerance priority a).0 h).0))
    (λ h. absurd (false≢true h))

-- below a triangle that is not worse than the tolerance none is
pub worse-parent : (n tolerance : ℕ) (priority : ℕ → ℕ) (a : ℕ) → IsFalling n priority → 4 ≤ a →
    is_worse n tolerance priority (a / 2) ≡ false →
    is_worse n tolerance priority a ≡ false
worse-parent n tolerance priority a falling big fits = same_tests (is_worse n tolerance priority a) false
    (λ h.
    let w = (worse-iff n tolerance priority a).0 h in
    let falls = falling.child a (IsAddress-splittable n a w.0) big in
    let up = level_of-parent a big in
    let coarse = w.0.coarse in
    let above : IsSplittable n (a / 2) = record { low = omega arith; coarse = omega arith } in
    let more = w.1 in
    let is = (worse-iff n tolerance priority (a / 2)).1 (above, omega arith) in
    absurd (both_ways (is_worse n tolerance priority (a / 2)) fits is))
    (λ h. absurd (false≢true h))
