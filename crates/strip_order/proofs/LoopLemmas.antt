-- The turns of a list, counted from its end.
use Rattle.std.proofs.Common.{◌≡◌, ℕ, suc, ◌+◌, List, [], ◌∷◌, length, drop, get_or, ◌<◌, ◌∙◌, ap, sym, subst, arith}
use Rattle.std.proofs.lemmas.List.{drop_more, drop_all}
use Rattle.mesh_laws.specs.Turn.{IsLeftTurn, IsRightTurn, HasTurns, none, left, right}

-- the last two take no turn
pub HasTurns-none : (n : ℕ) (order : List ℕ) (i d : ℕ) → i + 2 ≡ length order → HasTurns n (drop i order) 0 0
HasTurns-none n order i d e =
    let first = drop_more order i d (omega arith) in
    let second = drop_more order (i + 1) d (omega arith) in
    let rest : drop (i + 1 + 1) order ≡ [] = drop_all (i + 1 + 1) order (omega arith) in
    subst (λ (xs : List ℕ). HasTurns n xs 0 0)
    (sym (first ∙ ap (λ (xs : List ℕ). get_or order i d ∷ xs) (second
    ∙ ap (λ (xs : List ℕ). get_or order (i + 1) d ∷ xs) rest)))
    (none (get_or order i d) (get_or order (i + 1) d))

-- three in a row
three_first : (order : List ℕ) (i d : ℕ) → i + 2 < length order →
    drop i order ≡ get_or order i d ∷ (get_or order (i + 1) d ∷ (get_or order (i + 2) d ∷ drop (i + 3) order))
three_first order i d h =
    let first = drop_more order i d (omega arith) in
    let second = drop_more order (i + 1) d (omega arith) in
    let third = drop_more order (i + 2) d h in
    let e : i + 1 + 1 ≡ i + 2 = omega arith in
    let f : i + 2 + 1 ≡ i + 3 = omega arith in
    first ∙ ap (λ (xs : List ℕ). get_or order i d ∷ xs) (second ∙ ap (λ (xs : List ℕ). get_or order (i + 1) d ∷ xs)
    (ap (λ k. drop k order) e ∙ third ∙ ap (λ k. get_or order (i + 2) d ∷ drop k order) f))

two_first : (order : List ℕ) (i d : ℕ) → i + 2 < length order →
    drop (i + 1) order ≡ get_or order (i + 1) d ∷ (get_or order (i + 2) d ∷ drop (i + 3) order)
two_first order i d h =
    let second = drop_more order (i + 1) d (omega arith) in
    let third = drop_more order (i + 2) d h in
    let e : i + 1 + 1 ≡ i + 2 = omega arith in
    let f : i + 2 + 1 ≡ i + 3 = omega arith in
    second ∙ ap (λ (xs : List ℕ). get_or order (i + 1) d ∷ xs)
    (ap (λ k. drop k order) e ∙ third ∙ ap (λ k. get_or order (i + 2) d ∷ drop k order) f)

-- a left turn more
pub HasTurns-left : (n : ℕ) (order : List ℕ) (i d lefts rights : ℕ) → i + 2 < length order →
    IsLeftTurn n (get_or order i d) (get_or order (i + 1) d) (get_or order (i + 2) d) →
    HasTurns n (drop (i + 1) order) lefts rights → HasTurns n (drop i order) (lefts + 1) rights
HasTurns-left n order i d lefts rights h turn more =
    let tail = subst (λ (xs : List ℕ). HasTurns n xs lefts rights) (two_first order i d h) more in
    let e : suc lefts ≡ lefts + 1 = omega arith in
    subst (λ k. HasTurns n (drop i order) k rights) e
    (subst (λ (xs : List ℕ). HasTurns n xs (suc lefts) rights) (sym (three_first order i d h))
    (left (get_or order i d) (get_or order (i + 1) d) (get_or order (i + 2) d)
    (drop (i + 3) order) lefts rights turn tail))

-- a right turn more
pub HasTurns-right : (n : ℕ) (order : List ℕ) (i d lefts rights : ℕ) → i + 2 < length order →
    IsRightTurn n (get_or order i d) (get_or order (i + 1) d) (get_or order (i + 2) d) →
    HasTurns n (drop (i + 1) order) lefts rights → HasTurns n (drop i order) lefts (rights + 1)
HasTurns-right n order i d lefts rights h turn more =
    let tail = subst (λ (xs : List ℕ). HasTurns n xs lefts rights) (two_first order i d h) more in
    let e : suc rights ≡ rights + 1 = omega arith in
    subst (λ k. HasTurns n (drop i order) lefts k) e
    (subst (λ (xs : List ℕ). HasTurns n xs lefts (suc rights)) (sym (three_first order i d h))
    (right (get_or order i d) (get_or order (i + 1) d) (get_or order (i + 2) d)
    (drop (i + 3) order) lefts rights turn tail))
