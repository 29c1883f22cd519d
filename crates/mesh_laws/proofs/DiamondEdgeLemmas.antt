-- What stands across the edges after the diamond of a triangle is split, and after it is merged.
use Rattle.std.proofs.Common.{◌≡◌, ◌≢◌, ap, sym, ◌∙◌, ◌⊎◌, Bool, true, false, ℕ, zero, suc, ◌+◌, ◌*◌, ◌/◌, ◌%◌, ◌≤◌}
use Rattle.std.proofs.Common.{arith, inl, inr, ⊎_elim}
use Rattle.std.proofs.lemmas.Bool.{cases_lt, cases_Bool}
use Rattle.mesh_defs.specs.Triangle.{level_of}
use Rattle.mesh_defs.specs.ClosedSet.{IsClosed}
use Rattle.bintree_laws.proofs.LevelLemmas.{level_of-parent}
use Rattle.mesh_laws.specs.Edge.{mate_of, owner, with_square}
use Rattle.mesh_laws.specs.LeafAcross.{IsLeafOf, IsGrown, AreAcrossChildren, AreAcrossMerged}
use Rattle.mesh_laws.proofs.MateLemmas.{IsStep-mate_of, mate_of-root, mate_of-first, mate_of-low, mate_of-level}
use Rattle.mesh_laws.proofs.MateLemmas.{no_sibling, mate_of-0, mate_of-1, mate_of-2, mate_of-3}
use Rattle.mesh_laws.proofs.OwnerLemmas.{owner-split, owner-whole, owner-same, never}
use Rattle.mesh_laws.proofs.LeafAcrossLemmas.{with_square-root, with_square-deep}

-- ---- no triangle has its mate across a leg

-- the mates of the left and of the right leg are no legs of the mate
pub record AreApart (a : ℕ) : Type 0 where
  pub left : mate_of (2 * a) / 2 ≢ mate_of a
  pub right : mate_of (2 * a + 1) / 2 ≢ mate_of a

-- of a triangle 2c + 1, whose left leg's mate is a child of the mate of c, or nothing
left_of_right : (c : ℕ) → 2 ≤ c → (2 ≤ c / 2 → 1 ≤ mate_of (c / 2) → AreApart (c / 2)) → 1 ≤ mate_of (2 * c + 1) →
    mate_of (2 * (2 * c + 1)) / 2 ≢ mate_of (2 * c + 1)
left_of_right c low above some same =
    let leg : mate_of (2 * (2 * c + 1)) ≡ mate_of (4 * c + 2) =
    ap mate_of (let is : 2 * (2 * c + 1) ≡ 4 * c + 2 = omega arith in is) in
    let far = mate_of-2 c low in
    let step = IsStep-mate_of (4 * c + 2) (omega arith) in
    ⊎_elim (λ none. let z = far.0 (omega arith) in omega arith)
    (λ mate. let y : mate_of (4 * c + 2) ≡ 4 * mate_of c + 1 = far.1 mate in
    let two : mate_of (2 * c + 1) ≡ 2 * mate_of c = omega arith in
    ⊎_elim (λ top. let root = mate_of-root c low top in
    let none = mate_of-first (2 * c + 1) (omega arith) (omega arith) in omega arith)
    (λ past.
    let deep : 8 ≤ 2 * c + 1 = omega arith in
    let s = IsStep-mate_of (2 * c + 1) deep in
    let quarter : (2 * c + 1) / 4 ≡ c / 2 = omega arith in
    ⊎_elim
    (λ even.
    let z : (2 * c + 1) % 4 ≡ 1 = omega arith in
    let up : mate_of ((2 * c + 1) / 4) ≡ mate_of (c / 2) = ap mate_of quarter in
    ⊎_elim (λ lone. let y = s.second_none z (omega arith) in omega arith)
    (λ more. let y : mate_of (2 * c + 1) ≡ 4 * mate_of ((2 * c + 1) / 4) + 2 = s.second z more in
    let double : mate_of (2 * (c / 2)) ≡ mate_of c = ap mate_of (let is : 2 * (c / 2) ≡ c = omega arith in is) in
    (above (omega arith) (omega arith)).left (omega arith)) (cases_lt (mate_of ((2 * c + 1) / 4)) 1))
    (λ odd.
    let z : (2 * c + 1) % 4 ≡ 3 = omega arith in
    let y = s.last z in
    no_sibling c past mate (omega arith))
    (cases_lt (c % 2) 1))
    (cases_lt c 4))
    (cases_lt (mate_of c) 1)

-- of a triangle 2c, whose right leg's mate is a child of the mate of c, or nothing
right_of_left : (c : ℕ) → 2 ≤ c → (2 ≤ c / 2 → 1 ≤ mate_of (c / 2) → AreApart (c / 2)) → 1 ≤ mate_of (2 * c) →
    mate_of (2 * (2 * c) + 1) / 2 ≢ mate_of (2 * c)
right_of_left c low above some same =
    let leg : mate_of (2 * (2 * c) + 1) ≡ mate_of (4 * c + 1) =
    ap mate_of (let is : 2 * (2 * c) + 1 ≡ 4 * c + 1 = omega arith in is) in
    let far = mate_of-1 c low in
    ⊎_elim (λ none. let z = far.0 (omega arith) in omega arith)
    (λ mate. let y : mate_of (4 * c + 1) ≡ 4 * mate_of c + 2 = far.1 mate in
    let two : mate_of (2 * c) ≡ 2 * mate_of c + 1 = omega arith in
    ⊎_elim (λ top. let root = mate_of-root c low top in
    let none = mate_of-first (2 * c) (omega arith) (omega arith) in omega arith)
    (λ past.
    let deep : 8 ≤ 2 * c = omega arith in
    let s = IsStep-mate_of (2 * c) deep in
    let quarter : 2 * c / 4 ≡ c / 2 = omega arith in
    ⊎_elim
    (λ even.
    let z : 2 * c % 4 ≡ 0 = omega arith in
    let y = s.first z in
    no_sibling c past mate (omega arith))
    (λ odd.
    let z : 2 * c % 4 ≡ 2 = omega arith in
    let up : mate_of (2 * c / 4) ≡ mate_of (c / 2) = ap mate_of quarter in
    ⊎_elim (λ lone. let y = s.third_none z (omega arith) in omega arith)
    (λ more. let y : mate_of (2 * c) ≡ 4 * mate_of (2 * c / 4) + 1 = s.third z more in
    let double : mate_of (2 * (c / 2) + 1) ≡ mate_of c =
    ap mate_of (let is : 2 * (c / 2) + 1 ≡ c = omega arith in is) in
    (above (omega arith) (omega arith)).right (omega arith)) (cases_lt (mate_of (2 * c / 4)) 1))
    (cases_lt (c % 2) 1))
    (cases_lt c 4))
    (cases_lt (mate_of c) 1)

apart_by : (steps a : ℕ) → a ≤ steps → 2 ≤ a → 1 ≤ mate_of a → AreApart a
apart_by zero a bound low some = absurd (omega arith)
apart_by (suc steps) a bound low some = ⊎_elim
    (λ root. record {
      left = λ same. let none = mate_of-first (2 * a) (omega arith) (omega arith) in omega arith;
      right = λ same. let none = mate_of-first (2 * a + 1) (omega arith) (omega arith) in omega arith;
    })
    (λ past. ⊎_elim
    (λ even. let c : ℕ = a / 2 in let is : a ≡ 2 * (a / 2) = omega arith in record {
      left = λ same.
          let y : mate_of (2 * a) ≡ mate_of (4 * (a / 2)) =
          ap mate_of (let z : 2 * a ≡ 4 * (a / 2) = omega arith in z) in
          let z = mate_of-0 (a / 2) (omega arith) in no_sibling a past some (omega arith);
      right = λ same.
          let y : mate_of (2 * a + 1) ≡ mate_of (2 * (2 * (a / 2)) + 1) = ap (λ t. mate_of (2 * t + 1)) is in
          let w : mate_of a ≡ mate_of (2 * (a / 2)) = ap mate_of is in
          right_of_left (a / 2) (omega arith) (λ two more. apart_by steps (a / 2 / 2) (omega arith) two more)
          (omega arith) (omega arith);
    })
    (λ odd. let is : a ≡ 2 * (a / 2) + 1 = omega arith in record {
      left = λ same.
          let y : mate_of (2 * a) ≡ mate_of (2 * (2 * (a / 2) + 1)) = ap (λ t. mate_of (2 * t)) is in
          let w : mate_of a ≡ mate_of (2 * (a / 2) + 1) = ap mate_of is in
          left_of_right (a / 2) (omega arith) (λ two more. apart_by steps (a / 2 / 2) (omega arith) two more)
          (omega arith) (omega arith);
      right = λ same.
          let y : mate_of (2 * a + 1) ≡ mate_of (4 * (a / 2) + 3) =
          ap mate_of (let z : 2 * a + 1 ≡ 4 * (a / 2) + 3 = omega arith in z) in
          let z = mate_of-3 (a / 2) (omega arith) in no_sibling a past some (omega arith);
    })
    (cases_lt (a % 2) 1))
    (cases_lt a 4)

-- A triangle meets its mate along their bases alone.
pub apart : (a : ℕ) → 2 ≤ a → 1 ≤ mate_of a → AreApart a
apart a low some = apart_by a a (omega arith) low some

-- ---- one diamond more

-- across the legs of a the same leaves stand before and after a and its mate are split
pub leg-same : (before after : ℕ → Bool) (a e : ℕ) → 2 ≤ a → e / 2 ≡ a → IsGrown before after a → 1 ≤ mate_of e →
    owner (with_square after) (mate_of e) ≡ owner (with_square before) (mate_of e)
leg-same before after a e low leg grown some =
    let two : 2 ≤ e = omega arith in
    let deep = mate_of-low e two some in
    let other = no_sibling e (omega arith) some in
    let mate_apart : 1 ≤ mate_of a → mate_of e / 2 ≢ mate_of a = λ mate. ⊎_elim
    (λ even.
    let is : e ≡ 2 * a = omega arith in
    let y : mate_of e ≡ mate_of (2 * a) = ap mate_of is in
    let no = (apart a low mate).left in
    λ same. no (sym (ap (λ t. t / 2) y) ∙ same))
    (λ odd.
    let is : e ≡ 2 * a + 1 = omega arith in
    let y : mate_of e ≡ mate_of (2 * a + 1) = ap mate_of is in
    let no = (apart a low mate).right in
    λ same. no (sym (ap (λ t. t / 2) y) ∙ same))
    (cases_lt (e % 2) 1) in
    owner-same (with_square after) (with_square before) (mate_of e) (⊎_elim
    (λ top.
    let half : mate_of e / 2 ≡ 1 = omega arith in
    ap (with_square after) half ∙ with_square-root after ∙ sym (with_square-root before)
    ∙ sym (ap (with_square before) half))
    (λ past.
    let p_low : 2 ≤ mate_of e / 2 = omega arith in
    with_square-deep after (mate_of e / 2) p_low ∙ ⊎_elim
    (λ is_old. grown.kept (mate_of e / 2) is_old ∙ sym is_old)
    (λ not_old. ⊎_elim
    (λ is_new. absurd (elim (grown.only (mate_of e / 2) is_new) [
      | inl old ↦ never before (mate_of e / 2) old not_old
      | inr (inl v) ↦ other (v ∙ sym leg)
      | inr (inr v) ↦ mate_apart v.0 v.1
    ]))
    (λ not_new. not_new ∙ sym not_old) (cases_Bool (after (mate_of e / 2)))) (cases_Bool (before (mate_of e / 2)))
    ∙ sym (with_square-deep before (mate_of e / 2) p_low))
    (cases_lt (mate_of e) 4))

-- a child of a leaf is not in the set, nor is one of its mate
child-shut : (n : ℕ) (before after : ℕ → Bool) (a c : ℕ) → IsClosed n before → 2 ≤ a → before a ≡ false →
    IsGrown before after a → (1 ≤ mate_of a → before (mate_of a) ≡ false) →
    (c / 2 ≡ a) ⊎ ((1 ≤ mate_of a) × (c / 2 ≡ mate_of a)) → with_square after c ≡ false
child-shut n before after a c closed low whole grown mate_whole child =
    let c_deep : 4 ≤ c = ⊎_elim (λ v. omega arith)
    (λ v. let some = v.0 in let b = mate_of-low a low some in let half = v.1 in omega arith) child in
    with_square-deep after c (omega arith) ∙ ⊎_elim
    (λ is_new. absurd (elim (grown.only c is_new) [
      | inl old ↦ let up : before (c / 2) ≡ true = closed.parent c old c_deep in
          ⊎_elim (λ v. never before a (ap before (sym v) ∙ up) whole)
          (λ v. never before (mate_of a) (ap before (sym v.1) ∙ up) (mate_whole v.0)) child
      | inr (inl v) ↦ ⊎_elim (λ w. omega arith)
          (λ w.
          let some = w.0 in
          let half = w.1 in
          let level = mate_of-level a low some in
          let b = mate_of-low a low some in
          let z : level_of (a / 2) ≡ level_of (mate_of a) = ap level_of (ap (λ t. t / 2) (sym v) ∙ half) in
          let y = level_of-parent a (omega arith) in omega arith) child
      | inr (inr v) ↦
          let some = v.0 in
          let at = v.1 in
          let level = mate_of-level a low some in
          let b = mate_of-low a low some in
          ⊎_elim
          (λ w.
          let z : level_of (mate_of a / 2) ≡ level_of a = ap level_of (ap (λ t. t / 2) (sym at) ∙ w) in
          let y = level_of-parent (mate_of a) (omega arith) in
          omega arith)
          (λ w. let half = w.1 in omega arith) child
    ]))
    (λ not_new. not_new) (cases_Bool (after c))

-- what stands across the edges of the children after a diamond is split
pub across_children : (n : ℕ) (before after : ℕ → Bool) (a : ℕ) → IsClosed n before → IsLeafOf before a →
    (1 ≤ mate_of a → IsLeafOf before (mate_of a)) → IsGrown before after a →
    AreAcrossChildren before after a
across_children n before after a closed leaf mate grown =
    let low = leaf.low in
    let shut : (c : ℕ) → (c / 2 ≡ a) ⊎ ((1 ≤ mate_of a) × (c / 2 ≡ mate_of a)) → with_square after c ≡ false =
    λ c child. child-shut n before after a c closed low leaf.whole grown (λ some. (mate some).whole) child in
    let whole : (f c : ℕ) → f / 2 ≡ c → (c / 2 ≡ a) ⊎ ((1 ≤ mate_of a) × (c / 2 ≡ mate_of a)) →
    owner (with_square after) f ≡ c =
    λ f c half child. owner-whole (with_square after) f (ap (with_square after) half ∙ shut c child) ∙ half in
    let first = mate_of-0 a low in
    let second = mate_of-1 a low in
    let third = mate_of-2 a low in
    let last = mate_of-3 a low in
    record {
      left_base = λ some. leg-same before after a (2 * a) low (omega arith) grown some;
      right_base = λ some. leg-same before after a (2 * a + 1) low (omega arith) grown some;
      left_leg = whole (mate_of (4 * a)) (2 * a + 1) (omega arith) (inl (omega arith));
      right_leg = whole (mate_of (4 * a + 3)) (2 * a) (omega arith) (inl (omega arith));
      left_mate = λ some.
          let y = second.1 some in
          whole (mate_of (4 * a + 1)) (2 * mate_of a + 1) (omega arith) (inr (some, omega arith));
      right_mate = λ some.
          let y = third.1 some in
          whole (mate_of (4 * a + 2)) (2 * mate_of a) (omega arith) (inr (some, omega arith));
      border = λ none. (second.0 none, third.0 none);
    }

-- what stands across the edges of a after its diamond is merged
pub across_merged : (n : ℕ) (before after : ℕ → Bool) (a : ℕ) → IsClosed n before → 2 ≤ a → IsGrown after before a →
    AreAcrossMerged before after a
across_merged n before after a closed low grown = record {
  base = λ some.
      let b = mate_of-low a low some in
      let level = mate_of-level a low some in
      owner-split (with_square after) (mate_of a) (⊎_elim
      (λ top. let half : mate_of a / 2 ≡ 1 = omega arith in ap (with_square after) half ∙ with_square-root after)
      (λ deep.
      let up = level_of-parent (mate_of a) deep in
      with_square-deep after (mate_of a / 2) (omega arith)
      ∙ elim (grown.only (mate_of a / 2) (closed.parent (mate_of a) (grown.mate some) deep)) [
        | inl old ↦ old
        | inr (inl v) ↦ absurd (let z : level_of (mate_of a / 2) ≡ level_of a = ap level_of v in omega arith)
        | inr (inr v) ↦ absurd (let w = v.1 in omega arith)
      ])
      (cases_lt (mate_of a) 4));
  left_leg = λ some. sym (leg-same after before a (2 * a) low (omega arith) grown some);
  right_leg = λ some. sym (leg-same after before a (2 * a + 1) low (omega arith) grown some);
}
