-- Marks at the slots of triangles and of all above them.
use Rattle.std.proofs.Common.{◌≡◌, ℕ, zero, suc, ◌-◌, ◌/◌, ◌<◌, ◌≤◌, ◌⊎◌, inl, inr, Bool, true, false, List, [], ◌∷◌}
use Rattle.std.proofs.Common.{get_or, set, replicate, Contains, IsNone, Option, Some, None, IfSome, refl, sym, ◌∙◌, ap}
use Rattle.std.proofs.Common.{subst, arith, ⊎_elim}
use Rattle.std.proofs.lemmas.Bool.{both_ways, cases_lt, true≢false}
use Rattle.mesh_laws.specs.Slots.{address_at, split_set, IsLive, IsPool, has_children}
use Rattle.mesh_laws.proofs.SlotLemmas.{parent_has_children, slot_of, member_parent}
use Rattle.bintree_addr.specs.declared.slot.Slot.{Slot}
use Rattle.mesh_laws.proofs.ConformityLemmas.{IsUnder, self, below}
use Rattle.mesh_laws.proofs.SizeLemmas.{under-true, true-under}
use Rattle.mesh_arrays.specs.Below.{is_at_or_below}
use Rattle.mesh_arrays.specs.List.{IsCovered}
use Rattle.mesh_arrays.specs.Walk.{WalkState, AreUntouched, IsPathMarked}

-- a mark is set, and others stay
pub set_here : (xs : List Bool) (s : ℕ) → get_or (set xs s true) s true ≡ true
set_here [] s = refl
set_here (x ∷ xs) zero = refl
set_here (x ∷ xs) (suc s) = set_here xs s

-- a mark that was set before stays
pub set_stays : (xs : List Bool) (s r : ℕ) → get_or xs r true ≡ true → get_or (set xs s true) r true ≡ true
set_stays [] s r is = refl
set_stays (x ∷ xs) zero zero is = refl
set_stays (x ∷ xs) zero (suc r) is = is
set_stays (x ∷ xs) (suc s) zero is = is
set_stays (x ∷ xs) (suc s) (suc r) is = set_stays xs s r is

-- what lies at or above a triangle is it, or lies at or above its parent
above_cases : (v t : ℕ) → IsUnder v t → (v ≡ t) ⊎ ((4 ≤ t) × IsUnder v (t / 2))
above_cases v t self = inl refl
above_cases v t (below x deep under) = inr (deep, under)

-- a mark at a half of the square
pub marked_half : (n : ℕ) (pairs : List ℕ) (t s : ℕ) (before : List Bool) → IsPool n pairs → t < 4 → IsLive pairs s →
    address_at pairs s ≡ t →
    IsPathMarked pairs t before (set before s true)
marked_half n pairs t s before pool half live is = record {
  grows = λ r marked. set_stays before s r marked;
  above = λ r other under. ⊎_elim
      (λ same.
      let e : s ≡ r = pool.once s r live (is ∙ sym same) in
      subst (λ k. get_or (set before s true) k true ≡ true) e (set_here before s))
      (λ (deep, more). absurd (omega arith))
      (above_cases (address_at pairs r) t (under-true (address_at pairs r) t under));
}

-- a mark at a child, after those of its parent
pub marked_child : (n : ℕ) (pairs : List ℕ) (t s : ℕ) (before middle : List Bool) → IsPool n pairs → 4 ≤ t →
    address_at pairs s ≡ t →
    IsPathMarked pairs (t / 2) before middle → IsPathMarked pairs t before (set middle s true)
marked_child n pairs t s before middle pool deep is parent = record {
  grows = λ r marked. set_stays middle s r (parent.grows r marked);
  above = λ r other under. ⊎_elim
      (λ same.
      let e : s ≡ r = pool.once s r (omega arith) (is ∙ sym same) in
      subst (λ k. get_or (set middle s true) k true ≡ true) e (set_here middle s))
      (λ (low, more). set_stays middle s r (parent.above r other (true-under (address_at pairs r) (t / 2) other more)))
      (above_cases (address_at pairs r) t (under-true (address_at pairs r) t under));
}

-- the marks of the parent, where the triangle is not live
pub marked_absent : (pairs : List ℕ) (t : ℕ) (before after : List Bool) → ((r : ℕ) → address_at pairs r ≡ t → ⊥) →
    IsPathMarked pairs (t / 2) before after → IsPathMarked pairs t before after
marked_absent pairs t before after absent parent = record {
  grows = parent.grows;
  above = λ r other under. ⊎_elim
      (λ same. absurd (absent r same))
      (λ (low, more). parent.above r other (true-under (address_at pairs r) (t / 2) other more))
      (above_cases (address_at pairs r) t (under-true (address_at pairs r) t under));
}

-- a triangle whose parent is at no slot is at none
pub not_live : (n : ℕ) (pairs : List ℕ) (t : ℕ) → IsPool n pairs → 4 ≤ t → ((r : ℕ) → address_at pairs r ≡ t / 2 → ⊥) →
    (r : ℕ) → address_at pairs r ≡ t → ⊥
not_live n pairs t pool deep none r is =
    let has : has_children pairs (t / 2) ≡ true =
    subst (λ k. has_children pairs (k / 2) ≡ true) is (parent_has_children pairs r (omega arith)) in
    let found = slot_of pairs (t / 2) (omega arith) (member_parent n pairs (t / 2) pool (omega arith) has) in
    none found.0 found.1

-- what is not below 4
pub deep_by : (t : ℕ) → (t < 4 → true ≡ false) → 4 ≤ t
deep_by t half = ⊎_elim (λ low. absurd (true≢false (half low))) (λ deep. deep) (cases_lt t 4)

-- the marks after the child's step
pub marked_by : (n : ℕ) (pairs : List ℕ) (t : ℕ) (w middle after : WalkState) (found : Option Slot) →
    IsPool n pairs → 4 ≤ t →
    IsPathMarked pairs (t / 2) w.touched middle.touched →
    IfSome found (λ r. (address_at pairs r.0 ≡ t) × (after ≡ record middle { touched = set middle.touched r.0 true })) →
    (IsNone found → (r : ℕ) → address_at pairs r ≡ t → ⊥) → (IsNone found → after ≡ middle) →
    IsPathMarked pairs t w.touched after.touched
marked_by n pairs t w middle after None pool deep parent there absent same =
    subst (λ (z : WalkState). IsPathMarked pairs t w.touched z.touched) (sym (same refl))
    (marked_absent pairs t w.touched middle.touched (absent refl) parent)
marked_by n pairs t w middle after (Some r) pool deep parent there absent same =
    subst (λ (z : WalkState). IsPathMarked pairs t w.touched z.touched) (sym there.1)
    (marked_child n pairs t r.0 w.touched middle.touched pool deep there.0 parent)
