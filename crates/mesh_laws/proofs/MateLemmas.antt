use Rattle.std.proofs.Common.{◌≡◌, ◌≢◌, ◌-◌, ap, sym, ◌∙◌, ◌⊎◌, ℕ, zero, suc, ◌+◌, ◌*◌, ◌/◌, ◌%◌, ◌<◌, ◌≤◌, refl, arith}
use Rattle.std.proofs.Common.{inl, inr, ⊎_elim}
use Rattle.std.proofs.lemmas.Bool.{cases_eq, cases_lt}
use Rattle.mesh_defs.specs.Triangle.{level_of}
use Rattle.bintree_laws.proofs.LevelLemmas.{level_of-root, level_of-first, level_of-deep, level_of-left, level_of-right}
use Rattle.mesh_laws.specs.Edge.{grandchild_mate, mate_of}

-- ---- the laws by which the pool knows `mate_of`

-- the two base triangles, 2 and 3, are each other's mates
pub mate_of-root : (e : ℕ) → 2 ≤ e → e < 4 → mate_of e ≡ 5 - e
unfolding mate_of
mate_of-root e low high = rw (level_of-root e low high) refl

-- the triangles of level 1 have no mate
pub mate_of-first : (e : ℕ) → 4 ≤ e → e < 8 → mate_of e ≡ 0
unfolding mate_of
mate_of-first e low high = rw (level_of-first e low high) refl

-- from level 2 on the mate is told by the remainder by 4 and the mate of the grandparent
pub mate_of-deep : (e : ℕ) → 8 ≤ e → mate_of e ≡ grandchild_mate (e % 4) e (mate_of (e / 4))
unfolding mate_of
mate_of-deep e low = rw (level_of-deep e low) refl

-- f is the mate of e or 0, where above is that of e / 4; each part is one that `omega` applies
pub record IsStep (e f above : ℕ) : Type 0 where
  pub first : e % 4 ≡ 0 → f ≡ e + 3
  pub second_none : e % 4 ≡ 1 → above ≡ 0 → f ≡ 0
  pub second : e % 4 ≡ 1 → 1 ≤ above → f ≡ 4 * above + 2
  pub third_none : e % 4 ≡ 2 → above ≡ 0 → f ≡ 0
  pub third : e % 4 ≡ 2 → 1 ≤ above → f ≡ 4 * above + 1
  pub last : e % 4 ≡ 3 → f + 3 ≡ e

-- grandchild_mate, by the remainder of e by 4, is such a step
pub IsStep-grandchild : (r e above : ℕ) → r ≡ e % 4 → IsStep e (grandchild_mate r e above) above
IsStep-grandchild zero e above is = record {
  first = λ h. refl;
  second_none = λ h k. absurd (omega arith);
  second = λ h k. absurd (omega arith);
  third_none = λ h k. absurd (omega arith);
  third = λ h k. absurd (omega arith);
  last = λ h. absurd (omega arith);
}
IsStep-grandchild (suc zero) e zero is = record {
  first = λ h. absurd (omega arith);
  second_none = λ h k. refl;
  second = λ h k. absurd (omega arith);
  third_none = λ h k. absurd (omega arith);
  third = λ h k. absurd (omega arith);
  last = λ h. absurd (omega arith);
}
IsStep-grandchild (suc zero) e (suc b) is = record {
  first = λ h. absurd (omega arith);
  second_none = λ h k. absurd (omega arith);
  second = λ h k. refl;
  third_none = λ h k. absurd (omega arith);
  third = λ h k. absurd (omega arith);
  last = λ h. absurd (omega arith);
}
IsStep-grandchild (suc (suc zero)) e zero is = record {
  first = λ h. absurd (omega arith);
  second_none = λ h k. absurd (omega arith);
  second = λ h k. absurd (omega arith);
  third_none = λ h k. refl;
  third = λ h k. absurd (omega arith);
  last = λ h. absurd (omega arith);
}
IsStep-grandchild (suc (suc zero)) e (suc b) is = record {
  first = λ h. absurd (omega arith);
  second_none = λ h k. absurd (omega arith);
  second = λ h k. absurd (omega arith);
  third_none = λ h k. absurd (omega arith);
  third = λ h k. refl;
  last = λ h. absurd (omega arith);
}
IsStep-grandchild (suc (suc (suc _))) e above is = record {
  first = λ h. absurd (omega arith);
  second_none = λ h k. absurd (omega arith);
  second = λ h k. absurd (omega arith);
  third_none = λ h k. absurd (omega arith);
  third = λ h k. absurd (omega arith);
  last = λ h. omega arith;
}

-- from level 2 on the mate is such a step from that of the grandparent
pub IsStep-mate_of : (e : ℕ) → 8 ≤ e → IsStep e (mate_of e) (mate_of (e / 4))
IsStep-mate_of e low = rw (mate_of-deep e low) (IsStep-grandchild (e % 4) e (mate_of (e / 4)) refl)

-- ---- what follows by induction; steps bounds e

-- a triangle and its mate: of one level, apart, and each the other's
pub record IsMatched (e f : ℕ) : Type 0 where
  pub low : 2 ≤ f
  pub other : f ≢ e
  pub back : mate_of f ≡ e
  pub level : level_of f ≡ level_of e

same_quarter_level : (e f : ℕ) → 8 ≤ e → 8 ≤ f → level_of (f / 4) ≡ level_of (e / 4) → level_of f ≡ level_of e
same_quarter_level e f low deep above =
    let p : level_of e ≡ suc (suc (level_of (e / 4))) = level_of-deep e low in
    let q : level_of f ≡ suc (suc (level_of (f / 4))) = level_of-deep f deep in
    omega arith

matched_inner : (e f : ℕ) → 8 ≤ e → 8 ≤ f → f / 4 ≡ e / 4 → e % 4 + f % 4 ≡ 3 → IsStep f (mate_of f) (mate_of (f / 4)) →
    (e % 4 ≡ 0) ⊎ (e % 4 ≡ 3) → IsMatched e f
matched_inner e f low deep above sum step inner = record {
  low = omega arith;
  other = omega arith;
  back = ⊎_elim (λ h. let k : f % 4 ≡ 3 = omega arith in let l = step.last k in omega arith)
      (λ h. let k : f % 4 ≡ 0 = omega arith in let l = step.first k in omega arith) inner;
  level = same_quarter_level e f low deep (ap level_of above);
}

matched_outer : (e f : ℕ) → 8 ≤ e → 8 ≤ f → IsMatched (e / 4) (f / 4) → e % 4 + f % 4 ≡ 3 →
    IsStep f (mate_of f) (mate_of (f / 4)) → (e % 4 ≡ 1) ⊎ (e % 4 ≡ 2) → IsMatched e f
matched_outer e f low deep above sum step outer =
    let back : mate_of (f / 4) ≡ e / 4 = above.back in
    let other : f / 4 ≢ e / 4 = above.other in record {
      low = omega arith;
      other = λ same. other (ap (λ k. k / 4) same);
      back = ⊎_elim (λ h. let k : f % 4 ≡ 2 = omega arith in let l = step.third k (omega arith) in omega arith)
          (λ h. let k : f % 4 ≡ 1 = omega arith in let l = step.second k (omega arith) in omega arith) outer;
      level = same_quarter_level e f low deep above.level;
    }

-- a number divided by 4 leaves 0, 1, 2 or 3
pub four_cases : (e : ℕ) → (e % 4 ≡ 0) ⊎ ((e % 4 ≡ 1) ⊎ ((e % 4 ≡ 2) ⊎ (e % 4 ≡ 3)))
four_cases e = elim (cases_eq (e % 4) 0) [
  | inl h ↦ inl h
  | inr n ↦ elim (cases_eq (e % 4) 1) [
    | inl h ↦ inr (inl h)
    | inr m ↦ elim (cases_eq (e % 4) 2) [ inl h ↦ inr (inr (inl h)) | inr k ↦ inr (inr (inr (omega arith))) ]
  ]
]

matched_by : (steps e : ℕ) → e ≤ steps → 2 ≤ e → (mate_of e ≡ 0) ⊎ IsMatched e (mate_of e)
matched_by zero e bound low = absurd (omega arith)
matched_by (suc steps) e bound low = ⊎_elim
    (λ root. let f : mate_of e ≡ 5 - e = mate_of-root e low root in inr (rw f (record {
      low = omega arith;
      other = omega arith;
      back = let g : mate_of (5 - e) ≡ 5 - (5 - e) = mate_of-root (5 - e) (omega arith) (omega arith) in omega arith;
      level = level_of-root (5 - e) (omega arith) (omega arith) ∙ sym (level_of-root e low root);
    })))
    (λ past. ⊎_elim (λ first. inl (mate_of-first e past first))
    (λ deep.
    let step = IsStep-mate_of e deep in
    let above : (mate_of (e / 4) ≡ 0) ⊎ IsMatched (e / 4) (mate_of (e / 4)) =
    matched_by steps (e / 4) (omega arith) (omega arith) in
    elim (four_cases e) [
      | inl h ↦ let f : mate_of e ≡ e + 3 = step.first h in
          inr (matched_inner e (mate_of e) deep (omega arith) (omega arith) (omega arith)
          (IsStep-mate_of (mate_of e) (omega arith)) (inl h))
      | inr (inl h) ↦ ⊎_elim (λ none. inl (step.second_none h none))
          (λ mate. let two = mate.low in let f : mate_of e ≡ 4 * mate_of (e / 4) + 2 = step.second h (omega arith) in
          let quarter : mate_of e / 4 ≡ mate_of (e / 4) = omega arith in
          inr (matched_outer e (mate_of e) deep (omega arith) (rw quarter mate) (omega arith)
          (IsStep-mate_of (mate_of e) (omega arith)) (inl h))) above
      | inr (inr (inl h)) ↦ ⊎_elim (λ none. inl (step.third_none h none))
          (λ mate. let two = mate.low in let f : mate_of e ≡ 4 * mate_of (e / 4) + 1 = step.third h (omega arith) in
          let quarter : mate_of e / 4 ≡ mate_of (e / 4) = omega arith in
          inr (matched_outer e (mate_of e) deep (omega arith) (rw quarter mate) (omega arith)
          (IsStep-mate_of (mate_of e) (omega arith)) (inr h))) above
      | inr (inr (inr h)) ↦ let f : mate_of e + 3 ≡ e = step.last h in
          inr (matched_inner e (mate_of e) deep (omega arith) (omega arith) (omega arith)
          (IsStep-mate_of (mate_of e) (omega arith)) (inr h))
    ]) (cases_lt e 8))
    (cases_lt e 4)

-- a triangle has no mate, or it and its mate are matched
pub matched : (e : ℕ) → 2 ≤ e → (mate_of e ≡ 0) ⊎ IsMatched e (mate_of e)
matched e low = matched_by e e (omega arith) low

-- ---- laws that callers use

-- the mate of a triangle's mate is the triangle
pub mate_of-back : (e : ℕ) → 2 ≤ e → 1 ≤ mate_of e → mate_of (mate_of e) ≡ e
mate_of-back e low some = ⊎_elim (λ none. absurd (omega arith)) (λ m. m.back) (matched e low)

-- the address of a mate is at least 2, as that of each triangle
pub mate_of-low : (e : ℕ) → 2 ≤ e → 1 ≤ mate_of e → 2 ≤ mate_of e
mate_of-low e low some = ⊎_elim (λ none. absurd (omega arith)) (λ m. m.low) (matched e low)

-- a mate has the level of its triangle
pub mate_of-level : (e : ℕ) → 2 ≤ e → 1 ≤ mate_of e → level_of (mate_of e) ≡ level_of e
mate_of-level e low some = ⊎_elim (λ none. absurd (omega arith)) (λ m. m.level) (matched e low)

-- the two children of a triangle are no mates
pub no_sibling : (e : ℕ) → 4 ≤ e → 1 ≤ mate_of e → mate_of e / 2 ≢ e / 2
no_sibling e low some = ⊎_elim (λ first. let none = mate_of-first e low first in absurd (omega arith))
    (λ deep. let s = IsStep-mate_of e deep in
    elim (four_cases e) [
      | inl h ↦ let f = s.first h in λ same. omega arith
      | inr (inl h) ↦ ⊎_elim (λ none. absurd (let f = s.second_none h (omega arith) in omega arith))
          (λ g. let f = s.second h g in λ same. omega arith) (cases_lt (mate_of (e / 4)) 1)
      | inr (inr (inl h)) ↦ ⊎_elim (λ none. absurd (let f = s.third_none h (omega arith) in omega arith))
          (λ g. let f = s.third h g in λ same. omega arith) (cases_lt (mate_of (e / 4)) 1)
      | inr (inr (inr h)) ↦ let f = s.last h in λ same. omega arith
    ]) (cases_lt e 8)

-- a left child's mate is a right child, and a right child's a left one
pub mate_of-parity : (e : ℕ) → 2 ≤ e → 1 ≤ mate_of e → mate_of e % 2 + e % 2 ≡ 1
mate_of-parity e low some = ⊎_elim (λ root. let f = mate_of-root e low root in omega arith)
    (λ past. ⊎_elim (λ first. let none = mate_of-first e past first in absurd (omega arith))
    (λ deep. let s = IsStep-mate_of e deep in
    elim (four_cases e) [
      | inl h ↦ let f = s.first h in omega arith
      | inr (inl h) ↦ ⊎_elim (λ none. absurd (let f = s.second_none h (omega arith) in omega arith))
          (λ g. let f = s.second h g in omega arith) (cases_lt (mate_of (e / 4)) 1)
      | inr (inr (inl h)) ↦ ⊎_elim (λ none. absurd (let f = s.third_none h (omega arith) in omega arith))
          (λ g. let f = s.third h g in omega arith) (cases_lt (mate_of (e / 4)) 1)
      | inr (inr (inr h)) ↦ let f = s.last h in omega arith
    ]) (cases_lt e 8)) (cases_lt e 4)

-- the mates of the four grandchildren
pub mate_of-0 : (a : ℕ) → 2 ≤ a → mate_of (4 * a) ≡ 4 * a + 3
mate_of-0 a low = let s = IsStep-mate_of (4 * a) (omega arith) in s.first (omega arith)

-- the right child of the right child has the left child of the left child as its mate
pub mate_of-3 : (a : ℕ) → 2 ≤ a → mate_of (4 * a + 3) ≡ 4 * a
mate_of-3 a low = let s = IsStep-mate_of (4 * a + 3) (omega arith) in
    let l = s.last (omega arith) in omega arith

-- the left child's right child has as its mate the left child of the mate's right child, or none where a has none
pub mate_of-1 : (a : ℕ) → 2 ≤ a →
    (mate_of a ≡ 0 → mate_of (4 * a + 1) ≡ 0) × (1 ≤ mate_of a → mate_of (4 * a + 1) ≡ 4 * mate_of a + 2)
mate_of-1 a low =
    let q : (4 * a + 1) / 4 ≡ a = omega arith in
    let s : IsStep (4 * a + 1) (mate_of (4 * a + 1)) (mate_of a) = rw q at (IsStep-mate_of (4 * a + 1) (omega arith)) in
    (s.second_none (omega arith), s.second (omega arith))

-- the right child's left child has as its mate the right child of the mate's left child, or none where a has none
pub mate_of-2 : (a : ℕ) → 2 ≤ a →
    (mate_of a ≡ 0 → mate_of (4 * a + 2) ≡ 0) × (1 ≤ mate_of a → mate_of (4 * a + 2) ≡ 4 * mate_of a + 1)
mate_of-2 a low =
    let q : (4 * a + 2) / 4 ≡ a = omega arith in
    let s : IsStep (4 * a + 2) (mate_of (4 * a + 2)) (mate_of a) = rw q at (IsStep-mate_of (4 * a + 2) (omega arith)) in
    (s.third_none (omega arith), s.third (omega arith))

-- no triangle is its own mate
pub mate_of-other : (e : ℕ) → 2 ≤ e → 1 ≤ mate_of e → mate_of e ≢ e
mate_of-other e low some = ⊎_elim (λ none. absurd (omega arith)) (λ m. m.other) (matched e low)

-- no triangle is a child of its mate
pub mate_of-no_child : (a : ℕ) → 2 ≤ a → 1 ≤ mate_of a → (2 * mate_of a ≢ a) × (2 * mate_of a + 1 ≢ a)
mate_of-no_child a low some =
    let b : 2 ≤ mate_of a = mate_of-low a low some in
    let same : level_of (mate_of a) ≡ level_of a = mate_of-level a low some in (
      (λ e. let up : level_of (2 * mate_of a) ≡ level_of (mate_of a) + 1 = level_of-left (mate_of a) b in
          let f : level_of (2 * mate_of a) ≡ level_of a = ap level_of e in omega arith),
      (λ e. let up : level_of (2 * mate_of a + 1) ≡ level_of (mate_of a) + 1 = level_of-right (mate_of a) b in
          let f : level_of (2 * mate_of a + 1) ≡ level_of a = ap level_of e in omega arith),
    )
