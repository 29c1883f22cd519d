-- Splitting what is off, one leaf after the other: what is known, what one split leaves, what a pass leaves, and the end.
use Rattle.std.proofs.Common.{◌≡◌, ℕ, ◌+◌, ◌-◌, ◌*◌, ◌/◌, ◌^◌, ◌<◌, ◌≤◌, ◌||◌, Bool, true, false, IsTrue, cond}
use Rattle.std.proofs.Common.{List, [], ◌∷◌, ◌++◌, All, length, Contains, refl, sym, ◌∙◌, subst, arith, ⊎_elim}
use Rattle.std.proofs.Common.{pow-add, pow_mono}
use Rattle.std.proofs.lemmas.Bool.{cases_lt, both_ways, false≢true}
use Rattle.std.proofs.lemmas.List.Elements.{All-cons, All-nil, All-append, All-contains}
use Rattle.mesh_defs.specs.declared.point.Point.{Point}
use Rattle.mesh_defs.specs.Triangle.{level_of, IsAddress, IsSplittable}
use Rattle.mesh_defs.specs.BoundingBox.{greatest}
use Rattle.mesh_defs.specs.ClosedSet.{IsClosed, IsLeastClosed, leaves_under, leaves_of}
use Rattle.mesh_defs.specs.Greedy.{with_triangle}
use Rattle.mesh_defs.specs.Priority.{worst_of}
use Rattle.mesh_defs.proofs.ListLemmas.{IsIn-contains, Contains-in}
use Rattle.mesh_defs.proofs.WorstLemmas.{worst-le}
use Rattle.bintree_laws.proofs.LevelLemmas.{level-le, level_of-left, level_of-right}
use Rattle.mesh_laws.proofs.LeafLemmas.{leaves_under-split, leaves_under-whole, leaves-most, four-power}
use Rattle.mesh_laws.proofs.ClosureLemmas.{leaf-outer}
use Rattle.mesh_laws.proofs.DescentLemmas.{IsAddress-splittable, IsAddress-level, IsDown-2, IsDown-3}
use Rattle.mesh_laws.proofs.ForcingLemmas.{with-cases, with-old}
use Rattle.mesh_laws.specs.Sweep.{is_flagged}
use Rattle.fit_laws.specs.PlaneHeight.{offs_in}
use Rattle.mesh_measure.specs.Above.{IsAbove}
use Rattle.fit_laws.specs.Error.{error_of}
use Rattle.fit_laws.proofs.SettledLemmas.{outer-leaf}
use Rattle.fit_laws.proofs.FitLemmas.{step-grown}
use Rattle.fit_laws.proofs.ErrorLemmas.{error-finest}
use Rattle.certificate_laws.specs.declared.fit_reason.Witness.{Witness}
use Rattle.certificate_laws.specs.FitCertificate.{LeadsTo}
use Rattle.certificate_laws.proofs.LeadLemmas.{leads-next, leads-grown}
use Rattle.fit_certify.specs.declared.settle.Bounds.{Bounds}
use Rattle.fit_certify.specs.declared.settle.Settling.{Settling}
use Rattle.fit_certify.specs.Settling.{AreKnown, leaf_count, IsPass}

-- the error is the greatest way off the plane
pub error-most : (n : ℕ) (heights : List ℕ) (a tolerance : ℕ) → greatest (offs_in n heights a) ≤ tolerance
    → error_of n heights a ≤ tolerance
unfolding error_of
error-most n heights a tolerance le = le

-- where its error is not above a tolerance
pub error-within : (n : ℕ) (heights : List ℕ) (a lower : ℕ) (is_over : Bool) →
    (lower < greatest (offs_in n heights a) → IsTrue is_over) → is_over ≡ false → error_of n heights a ≤ lower
error-within n heights a lower is_over told not = error-most n heights a lower (⊎_elim
    (λ (above : lower < greatest (offs_in n heights a)). absurd (both_ways is_over not (told above)))
    (λ fits. fits)
    (cases_lt lower (greatest (offs_in n heights a))))

-- a triangle

-- with no mark, and below a split one, it is a leaf
unset-leaf : (n : ℕ) (flags : List Bool) (t : ℕ) → IsClosed n (is_flagged flags) → IsSplittable n t →
    is_flagged flags t ≡ false → (4 ≤ t → IsTrue (is_flagged flags (t / 2))) →
    Contains (leaves_of n (is_flagged flags)) t
unset-leaf n flags t closed splittable unset parent =
    let has : ℕ → Bool = is_flagged flags in
    Contains-in t (leaves_of n has) (leaf-outer n has t closed record {
      address = IsAddress-splittable n t splittable;
      outside = λ is. both_ways (has t) unset is;
      parent = parent;
    })

-- where no triangle is marked, each that is has any error
pub known-none : (n : ℕ) (heights : List ℕ) (lower : ℕ) (known : List Bool) → ((a : ℕ) → is_flagged known a ≡ false) →
    AreKnown n heights lower known
known-none n heights lower known none = record { within = λ a is. absurd (both_ways (is_flagged known a) (none a) is) }

-- one more is known
pub known-more : (n : ℕ) (heights : List ℕ) (lower : ℕ) (known next : List Bool) (t : ℕ) →
    AreKnown n heights lower known → error_of n heights t ≤ lower →
    ((a : ℕ) → is_flagged next a ≡ with_triangle (is_flagged known) t a) → AreKnown n heights lower next
known-more n heights lower known next t before here added = record {
  within = λ a is. ⊎_elim
      (λ old. before.within a old)
      (λ (same : t ≡ a). subst (λ z. error_of n heights z ≤ lower) same here)
      (with-cases (is_flagged known) t a (sym (added a) ∙ is));
}

-- one split

-- a leaf that is off is a reason, and there are more leaves
pub split-pass : (b : Bounds) (old new : Settling) (t : ℕ) (p : Point) → IsClosed b.grid.now.n (is_flagged old.flags.now) →
    IsSplittable b.grid.now.n t → is_flagged old.flags.now t ≡ false →
    (4 ≤ t → IsTrue (is_flagged old.flags.now (t / 2))) → IsAbove b.grid.now.n b.grid.now.heights t b.tolerance p →
    new.reasons.now.items ≡ old.reasons.now.items ++ record { triangle = t; x = p.x; y = p.y } ∷ [] →
    IsLeastClosed b.grid.now.n (with_triangle (is_flagged old.flags.now) t) (is_flagged new.flags.now) →
    IsPass b old new true
split-pass b old new t p closed splittable unset parent above more least =
    let n : ℕ = b.grid.now.n in
    let has : ℕ → Bool = is_flagged old.flags.now in
    let after : ℕ → Bool = is_flagged new.flags.now in
    let leaf : Contains (leaves_of n has) t = unset-leaf n old.flags.now t closed splittable unset parent in
    let grown : leaf_count b old < leaf_count b new =
    step-grown n has after t closed (outer-leaf n has t closed (IsIn-contains t (leaves_of n has) leaf)) least in
    record {
      kept = λ a is. least.holds a (with-old has t a is);
      leads = λ from leads.
          let r : Witness = record { triangle = t; x = p.x; y = p.y } in
          subst (λ (l : List Witness). LeadsTo n b.grid.now.heights b.tolerance from l after) (sym more)
          (leads-next n b.grid.now.heights b.tolerance from old.reasons.now.items has after r leads
          record {
            splittable = splittable;
            leaf = leaf;
            off = record { column = above.column; row = above.row; held = above.held; above = above.above };
          } least);
      more = omega arith;
      same = λ not. absurd (false≢true (sym not));
    }

-- a pass

-- neither is true
pub neither : (one other next : Bool) → next ≡ (one || other) → next ≡ false → (one ≡ false) × (other ≡ false)
neither true other next either not = absurd (false≢true (sym not ∙ either))
neither false other next either not = (refl, sym either ∙ not)

-- one for either is no more than one for each
either-le : (one other : Bool) → cond (one || other) 1 0 ≤ cond one 1 0 + cond other 1 0
either-le true true = omega arith
either-le true false = omega arith
either-le false true = omega arith
either-le false false = omega arith

-- one part after the other
pub pass-through : (b : Bounds) (one two three : Settling) (did other next : Bool) → next ≡ (did || other) →
    IsPass b one two did → IsPass b two three other → IsPass b one three next
pass-through b one two three did other next either p q = record {
  kept = λ a is. q.kept a (p.kept a is);
  leads = λ has leads. q.leads has (p.leads has leads);
  more =
      let first = p.more in
      let second = q.more in
      let most = either-le did other in
      subst (λ z. leaf_count b one + cond z 1 0 ≤ leaf_count b three) (sym either) (omega arith);
  same = λ not. let both = neither did other next either not in q.same both.1 ∙ p.same both.0;
}

-- each pass but the last has more leaves
pub settle-falls : (b : Bounds) (old new : Settling) (was again : Bool) → was ≡ true → IsPass b old new again →
    cond again 1 0 + 2 * (2 * 4 ^ b.grid.now.n - leaf_count b new)
    < cond was 1 0 + 2 * (2 * 4 ^ b.grid.now.n - leaf_count b old)
settle-falls b old new false again is pass = absurd (false≢true is)
settle-falls b old new true again is pass =
    let more = pass.more in let most = leaves-most b.grid.now.n (is_flagged new.flags.now) in omega arith

-- a half of a triangle that is split is one of the grid, and its parent is split
pub half-ready : (n : ℕ) (flags : List Bool) (t half : ℕ) → 2 ≤ t → level_of t < 2 * n → t ≡ half / 2 →
    level_of half ≡ level_of t + 1 → is_flagged flags t ≡ true →
    IsAddress n half × (4 ≤ half → IsTrue (is_flagged flags (half / 2)))
half-ready n flags t half low coarse is more member = (
  IsAddress-level n half (omega arith) (omega arith),
  λ _. subst (λ z. IsTrue (is_flagged flags z)) is member,
)

-- what lies below

module _ (n : ℕ) (has : ℕ → Bool) (P : ℕ → Type 0) (t : ℕ) where
  -- what holds of the leaves in both children holds of those in a triangle that is split
  pub under-both : 2 ≤ t → level_of t < 2 * n → has t ≡ true →
      All P (leaves_under (2 * n - level_of (2 * t)) has (2 * t)) →
      All P (leaves_under (2 * n - level_of (2 * t + 1)) has (2 * t + 1)) →
      All P (leaves_under (2 * n - level_of t) has t)
  under-both low coarse member left right =
      let levels : ℕ = 2 * n - level_of t in
      let l = level_of-left t low in
      let r = level_of-right t low in
      let one : 2 * n - level_of (2 * t) ≡ levels - 1 = omega arith in
      let two : 2 * n - level_of (2 * t + 1) ≡ levels - 1 = omega arith in
      subst (All P) (sym (leaves_under-split levels has t (omega arith) member))
      (All-append P (leaves_under (levels - 1) has (2 * t)) (leaves_under (levels - 1) has (2 * t + 1))
      (subst (λ k. All P (leaves_under k has (2 * t))) one left)
      (subst (λ k. All P (leaves_under k has (2 * t + 1))) two right))

  -- one that is not split is the leaf
  pub under-whole : (levels : ℕ) → has t ≡ false → P t → All P (leaves_under levels has t)
  under-whole levels whole holds =
      subst (All P) (sym (leaves_under-whole levels has t whole)) (All-cons P t [] holds (All-nil P))

  -- and a finest one
  pub under-finest : (levels : ℕ) → levels ≡ 0 → P t → All P (leaves_under levels has t)
  under-finest levels none holds =
      subst (λ k. All P (leaves_under k has t)) (sym none) (All-cons P t [] holds (All-nil P))

-- a finest triangle has no error
pub finest-none : (n : ℕ) (heights : List ℕ) (tolerance a : ℕ) → IsAddress n a → 2 * n ≤ level_of a →
    error_of n heights a ≤ tolerance
finest-none n heights tolerance a address fine =
    let most = level-le n a address in
    let none = error-finest n heights a address (omega arith) in omega arith

-- so no leaf is above the tolerance where none in the two halves is
pub halves-worst : (n : ℕ) (e : ℕ → ℕ) (tolerance : ℕ) (has : ℕ → Bool) →
    All (λ a. e a ≤ tolerance) (leaves_under (2 * n - level_of 2) has 2) →
    All (λ a. e a ≤ tolerance) (leaves_under (2 * n - level_of 3) has 3) →
    worst_of e (leaves_of n has) ≤ tolerance
unfolding leaves_of
halves-worst n e tolerance has lower upper =
    let P : ℕ → Type 0 = λ a. e a ≤ tolerance in
    let l = (IsDown-2 n).height in
    let u = (IsDown-3 n).height in
    let one : 2 * n - level_of 2 ≡ 2 * n = omega arith in
    let two : 2 * n - level_of 3 ≡ 2 * n = omega arith in
    let all : All P (leaves_under (2 * n) has 2 ++ leaves_under (2 * n) has 3) =
    All-append P (leaves_under (2 * n) has 2) (leaves_under (2 * n) has 3)
    (subst (λ k. All P (leaves_under k has 2)) one lower) (subst (λ k. All P (leaves_under k has 3)) two upper) in
    worst-le e tolerance (leaves_under (2 * n) has 2 ++ leaves_under (2 * n) has 3) (λ a leaf.
    All-contains P (leaves_under (2 * n) has 2 ++ leaves_under (2 * n) has 3) a all
    (Contains-in a (leaves_under (2 * n) has 2 ++ leaves_under (2 * n) has 3) leaf))

-- how many reasons

-- there are fewer than triangles that may be split
pub reasons-few : (n : ℕ) (heights : List ℕ) (tolerance : ℕ) (has : ℕ → Bool) (reasons : List Witness)
    (after : ℕ → Bool)
    → n ≤ 11 → IsClosed n has →
    LeadsTo n heights tolerance has reasons after → length reasons ≤ 8388608
reasons-few n heights tolerance has reasons after small closed leads =
    let grown = leads-grown n heights tolerance has reasons after closed leads in
    let most = leaves-most n after in
    let four = four-power n in
    let double = pow-add 2 (2 * n) 1 in
    let few : 2 * n + 1 ≤ 23 = omega arith in
    let high : 2 ^ (2 * n + 1) ≤ 2 ^ 23 = pow_mono few in
    omega arith
