-- The leaves at and below a triangle: where they stand, and that they are above none of it.
use Rattle.std.proofs.Common.{◌≡◌, ℕ, zero, suc, ◌+◌, ◌-◌, ◌*◌, ◌^◌, ◌<◌, ◌≤◌, inl, inr, Bool, true, false, List, []}
use Rattle.std.proofs.Common.{◌∷◌, ◌++◌, length, refl, sym, ◌∙◌, ap, subst, arith, ⊎_elim, length-append}
use Rattle.std.proofs.lemmas.Bool.{cases_Bool}
use Rattle.mesh_defs.specs.Triangle.{level_of}
use Rattle.mesh_defs.specs.ClosedSet.{leaves_under}
use Rattle.mesh_defs.proofs.ListLemmas.{IsIn, IsIn-append}
use Rattle.bintree_laws.proofs.LevelLemmas.{level_of-left, level_of-right, level_of-root}
use Rattle.mesh_laws.proofs.ConformityLemmas.{IsUnder, self, IsUnder-left, IsUnder-right}
use Rattle.mesh_laws.proofs.LeafLemmas.{leaves_under-split, leaves_under-whole}
use Rattle.mesh_arrays.specs.Order.{first_of, end_of}
use Rattle.mesh_arrays.proofs.ListOrderLemmas.{AreHalved, halved, first-end}
use Rattle.mesh_arrays.proofs.ListChangeLemmas.{shared, shared-apart, shared-both}

-- a member has the leaves of its children
pub split_next : (levels : ℕ) (has : ℕ → Bool) (a : ℕ) → has a ≡ true →
    leaves_under (suc levels) has a ≡ leaves_under levels has (2 * a) ++ leaves_under levels has (2 * a + 1)
split_next levels has a split =
    leaves_under-split (suc levels) has a (omega arith) split
    ∙ ap (λ l. leaves_under l has (2 * a) ++ leaves_under l has (2 * a + 1))
    (let e : suc levels - 1 ≡ levels = omega arith in e)

-- what holds of both forms holds of the leaves
pub forked : (P : List ℕ → Type 0) (levels : ℕ) (has : ℕ → Bool) (a : ℕ) →
    (has a ≡ true → P (leaves_under levels has (2 * a) ++ leaves_under levels has (2 * a + 1))) →
    (has a ≡ false → P (a ∷ [])) →
    P (leaves_under (suc levels) has a)
forked P levels has a both alone = ⊎_elim
    (λ split. subst P (sym (split_next levels has a split)) (both split))
    (λ whole. subst P (sym (leaves_under-whole (suc levels) has a whole)) (alone whole))
    (cases_Bool (has a))

-- there is one
pub leaves-some : (levels : ℕ) (has : ℕ → Bool) (a : ℕ) → 1 ≤ length (leaves_under levels has a)
leaves-some zero has a = omega arith
leaves-some (suc levels) has a = forked (λ xs. 1 ≤ length xs) levels has a
    (λ split. let some = leaves-some levels has (2 * a) in
    let both = length-append (leaves_under levels has (2 * a)) (leaves_under levels has (2 * a + 1)) in omega arith)
    (λ whole. omega arith)

-- they begin where the triangle begins, or behind, and before its end
abbrev Lies : ℕ → ℕ → Type 0
Lies a b = (first_of a ≤ first_of b) × (first_of b < end_of a)

lies-self : (a b : ℕ) → a ≡ b → Lies a b
lies-self a b same = subst (Lies a) same (let e = first-end a in (omega arith, e))

-- each leaf at or below a begins where a begins, or behind, and before the end of a
pub leaves-within : (levels : ℕ) (has : ℕ → Bool) (a : ℕ) → 2 ≤ a → level_of a + levels ≤ 28 →
    (b : ℕ) → IsIn b (leaves_under levels has a) → (first_of a ≤ first_of b) × (first_of b < end_of a)
leaves-within zero has a low deep b (inl same) = lies-self a b same
leaves-within zero has a low deep b (inr none) = absurd none
leaves-within (suc levels) has a low deep b within = forked (λ xs. IsIn b xs → Lies a b) levels has a
    (λ split is.
    let h : AreHalved a = halved a low (omega arith) in
    let left = level_of-left a low in
    let right = level_of-right a low in
    let e1 = h.some in
    let e2 = h.first in
    let e3 = h.left_first in
    let e4 = h.left_end in
    let e5 = h.right_first in
    let e6 = h.right_end in
    let e7 = h.end in
    ⊎_elim
    (λ in_left. let lies : Lies (2 * a) b = leaves-within levels has (2 * a) (omega arith) (omega arith) b in_left in
    let x = lies.0 in let y = lies.1 in (omega arith, omega arith))
    (λ in_right. let lies : Lies (2 * a + 1) b =
    leaves-within levels has (2 * a + 1) (omega arith) (omega arith) b in_right in
    let x = lies.0 in let y = lies.1 in (omega arith, omega arith))
    (IsIn-append b (leaves_under levels has (2 * a)) (leaves_under levels has (2 * a + 1)) is))
    (λ whole is. ⊎_elim (λ same. lies-self a b same) (λ none. absurd none) is)
    within

-- none has a lower address
pub leaves-low : (levels : ℕ) (has : ℕ → Bool) (a b : ℕ) → IsIn b (leaves_under levels has a) → a ≤ b
leaves-low zero has a b (inl same) = omega arith
leaves-low zero has a b (inr none) = absurd none
leaves-low (suc levels) has a b within = forked (λ xs. IsIn b xs → a ≤ b) levels has a
    (λ split is. ⊎_elim
    (λ in_left. let low = leaves-low levels has (2 * a) b in_left in omega arith)
    (λ in_right. let low = leaves-low levels has (2 * a + 1) b in_right in omega arith)
    (IsIn-append b (leaves_under levels has (2 * a)) (leaves_under levels has (2 * a + 1)) is))
    (λ whole is. ⊎_elim (λ (same : a ≡ b). let e : a ≤ b = omega arith in e) (λ none. absurd none) is)
    within

-- those of a member have a greater one
pub leaves-above : (levels : ℕ) (has : ℕ → Bool) (a b : ℕ) → 1 ≤ a → 1 ≤ levels → has a ≡ true →
    IsIn b (leaves_under levels has a) → a < b
leaves-above zero has a b low some split is = absurd (omega arith)
leaves-above (suc levels) has a b low some split is = ⊎_elim
    (λ in_left. let e = leaves-low levels has (2 * a) b in_left in omega arith)
    (λ in_right. let e = leaves-low levels has (2 * a + 1) b in_right in omega arith)
    (IsIn-append b (leaves_under levels has (2 * a)) (leaves_under levels has (2 * a + 1))
    (subst (IsIn b) (split_next levels has a split) is))

-- two sets that agree at and below a triangle have the same leaves there
pub leaves-same : (levels : ℕ) (one two : ℕ → Bool) (a : ℕ) → 2 ≤ a → ((b : ℕ) → IsUnder a b → one b ≡ two b) →
    leaves_under levels one a ≡ leaves_under levels two a
leaves-same zero one two a low same = refl
leaves-same (suc levels) one two a low same = ⊎_elim
    (λ (split : two a ≡ true).
    let left = leaves-same levels one two (2 * a) (omega arith) (λ b under. same b (IsUnder-left a b low under)) in
    let right =
    leaves-same levels one two (2 * a + 1) (omega arith) (λ b under. same b (IsUnder-right a b low under)) in
    split_next levels one a (same a self ∙ split)
    ∙ ap (λ xs. xs ++ leaves_under levels one (2 * a + 1)) left ∙ ap (λ xs. leaves_under levels two (2 * a) ++ xs) right
    ∙ sym (split_next levels two a split))
    (λ (whole : two a ≡ false). leaves_under-whole (suc levels) one a (same a self ∙ whole)
    ∙ sym (leaves_under-whole (suc levels) two a whole))
    (cases_Bool (two a))

-- none lies below the left and below the right child of a triangle, whatever the sets
pub leaves-apart : (levels : ℕ) (one two : ℕ → Bool) (a : ℕ) → 2 ≤ a → level_of a + suc levels ≤ 28 →
    (b : ℕ) → IsIn b (leaves_under levels one (2 * a)) → IsIn b (leaves_under levels two (2 * a + 1)) → ⊥
leaves-apart levels one two a low deep b left right =
    let h : AreHalved a = halved a low (omega arith) in
    let e1 = h.left_end in let e2 = h.right_first in
    let left_level = level_of-left a low in
    let right_level = level_of-right a low in
    let p = (leaves-within levels one (2 * a) (omega arith) (omega arith) b left).1 in
    let q = (leaves-within levels two (2 * a + 1) (omega arith) (omega arith) b right).0 in omega arith

-- the lower half of the square ends where the upper one begins
pub halves_meet : end_of 2 ≡ first_of 3
halves_meet =
    ap (λ l. 3 * 2 ^ (28 - l)) (level_of-root 2 (omega arith) (omega arith)
    ∙ sym (level_of-root 3 (omega arith) (omega arith)))

-- so none lies in both
pub halves-apart : (levels : ℕ) (one two : ℕ → Bool) → levels ≤ 28 → (b : ℕ) → IsIn b (leaves_under levels one 2) →
    IsIn b (leaves_under levels two 3) → ⊥
halves-apart levels one two deep b lower upper =
    let first = level_of-root 2 (omega arith) (omega arith) in
    let second = level_of-root 3 (omega arith) (omega arith) in
    let meet = halves_meet in
    let p = (leaves-within levels one 2 (omega arith) (omega arith) b lower).1 in
    let q = (leaves-within levels two 3 (omega arith) (omega arith) b upper).0 in omega arith

-- what two sets share as leaves stands in one order in both
pub leaves-shared : (levels : ℕ) (one two : ℕ → Bool) (a : ℕ) → 2 ≤ a → level_of a + levels ≤ 28 →
    shared (leaves_under levels one a) (leaves_under levels two a)
    ≡ shared (leaves_under levels two a) (leaves_under levels one a)
leaves-shared zero one two a low deep = refl
leaves-shared (suc levels) one two a low deep =
    forked (λ xs. shared xs (leaves_under (suc levels) two a)
    ≡ shared (leaves_under (suc levels) two a) xs) levels one a
    (λ here. forked (λ ys. shared (l ++ r) ys ≡ shared ys (l ++ r)) levels two a
    (λ there. shared-both l r m s (leaves-apart levels one two a low deep)
    (λ b x y. leaves-apart levels two one a low deep b y x)
    ∙ ap (λ xs. xs ++ shared r s) (leaves-shared levels one two (2 * a) (omega arith)
    (omega (arith, level_of-left a low)))
    ∙ ap (λ xs. shared m l ++ xs) (leaves-shared levels one two (2 * a + 1) (omega arith)
    (omega (arith, level_of-right a low)))
    ∙ sym (shared-both m s l r (leaves-apart levels two one a low deep)
    (λ b x y. leaves-apart levels one two a low deep b y x)))
    (λ whole. shared-apart (l ++ r) (a ∷ []) (below one here)
    ∙ sym (shared-apart (a ∷ []) (l ++ r) (λ b x y. below one here b y x))))
    (λ whole. forked (λ ys. shared (a ∷ []) ys ≡ shared ys (a ∷ [])) levels two a
    (λ there. shared-apart (a ∷ []) (m ++ s) (λ b x y. below two there b y x)
    ∙ sym (shared-apart (m ++ s) (a ∷ []) (below two there)))
    (λ too. refl))
  where
    l : List ℕ
    l = leaves_under levels one (2 * a)

    r : List ℕ
    r = leaves_under levels one (2 * a + 1)

    m : List ℕ
    m = leaves_under levels two (2 * a)

    s : List ℕ
    s = leaves_under levels two (2 * a + 1)

    below : (has : ℕ → Bool) → has a ≡ true → (b : ℕ) →
        IsIn b (leaves_under levels has (2 * a) ++ leaves_under levels has (2 * a + 1)) → IsIn b (a ∷ []) → ⊥
    below has split b is other = ⊎_elim
        (λ (same : a ≡ b). let above = leaves-above (suc levels) has a b (omega arith) (omega arith) split
        (subst (IsIn b) (sym (split_next levels has a split)) is) in absurd (omega arith))
        (λ none. none) other
