-- Three triangles in a row of a strip, and the turn at the middle one.
use Rattle.std.proofs.Common.{◌≡◌, ◌≢◌, ℕ, ◌+◌, ◌*◌, ◌<◌, ◌≤◌, Bool, List, length, drop, get_or, Contains, sym, ◌∙◌, ap}
use Rattle.std.proofs.Common.{subst, arith, length-drop}
use Rattle.std.proofs.lemmas.List.{get_or_default}
use Rattle.mesh_defs.specs.Triangle.{level_of}
use Rattle.mesh_defs.specs.ClosedSet.{leaves_of}
use Rattle.mesh_laws.specs.Strip.{SharesEdge}
use Rattle.mesh_laws.specs.Turn.{IsLeftTurn, IsRightTurn, HasTurns}
use Rattle.strip_order.proofs.PlaceLemmas.{IsStrip}
use Rattle.mesh_laws.proofs.StripTurnLemmas.{length-turns}
use Rattle.strip_order.proofs.LoopLemmas.{HasTurns-left, HasTurns-right}

-- a, b and c stand at the places i, i + 1 and i + 2
pub record IsTriple (n : ℕ) (has : ℕ → Bool) (order : List ℕ) (i a b c : ℕ) : Type 0 where
  pub fits : i + 2 < length order
  pub first : get_or order i a ≡ a
  pub second : get_or order (i + 1) a ≡ b
  pub third : get_or order (i + 2) a ≡ c
  pub level_first : level_of a ≤ 2 * n
  pub level_second : level_of b ≤ 2 * n
  pub level_third : level_of c ≤ 2 * n
  pub listed_first : Contains (leaves_of n has) a
  pub listed_second : Contains (leaves_of n has) b
  pub listed_third : Contains (leaves_of n has) c
  pub other : a ≢ c
  pub entered : SharesEdge n a b
  pub out : SharesEdge n b c

-- from the places as the code has them
pub IsTriple-at : (n : ℕ) (has : ℕ → Bool) (order : List ℕ) (s : IsStrip n has order) (i j k a b c : ℕ) →
    i + 2 < length order → j ≡ i + 1 → k ≡ i + 2 →
    a ≡ get_or order i a → b ≡ get_or order j b → c ≡ get_or order k c → IsTriple n has order i a b c
IsTriple-at n has order s i j k a b c fits ej ek ea eb ec =
    let first : get_or order i a ≡ a = sym ea in
    let second : get_or order (i + 1) a ≡ b =
    get_or_default order (i + 1) a b (omega arith) ∙ ap (λ z. get_or order z b) (sym ej) ∙ sym eb in
    let third : get_or order (i + 2) a ≡ c =
    get_or_default order (i + 2) a c fits ∙ ap (λ z. get_or order z c) (sym ek) ∙ sym ec in
    record {
      fits = fits;
      first = first;
      second = second;
      third = third;
      level_first = subst (λ z. level_of z ≤ 2 * n) first (s.level i a (omega arith));
      level_second = subst (λ z. level_of z ≤ 2 * n) second (s.level (i + 1) a (omega arith));
      level_third = subst (λ z. level_of z ≤ 2 * n) third (s.level (i + 2) a fits);
      listed_first = subst (λ z. Contains (leaves_of n has) z) first (s.listed i a (omega arith));
      listed_second = subst (λ z. Contains (leaves_of n has) z) second (s.listed (i + 1) a (omega arith));
      listed_third = subst (λ z. Contains (leaves_of n has) z) third (s.listed (i + 2) a fits);
      other = λ e. s.differ i (i + 2) a (omega arith) fits (first ∙ e ∙ sym third);
      entered = subst (λ z. SharesEdge n a z) second
          (subst (λ z. SharesEdge n z (get_or order (i + 1) a)) first (s.shared i a (omega arith)));
      out = subst (λ z. SharesEdge n b z) third (subst (λ z. SharesEdge n z (get_or order (i + 2) a)) second
          (let e : i + 1 + 1 ≡ i + 2 = omega arith in
          subst (λ z. SharesEdge n (get_or order (i + 1) a) (get_or order z a)) e (s.shared (i + 1) a (omega arith))));
    }

-- a left turn more
pub HasTurns-left_at : (n : ℕ) (has : ℕ → Bool) (order : List ℕ) (i j a b c lefts rights : ℕ) →
    IsTriple n has order i a b c → j ≡ i + 1 →
    IsLeftTurn n a b c → HasTurns n (drop j order) lefts rights → HasTurns n (drop i order) (lefts + 1) rights
HasTurns-left_at n has order i j a b c lefts rights t e turn more =
    HasTurns-left n order i a lefts rights t.fits
    (subst (λ x. IsLeftTurn n x (get_or order (i + 1) a) (get_or order (i + 2) a)) (sym t.first)
    (subst (λ y. IsLeftTurn n a y (get_or order (i + 2) a)) (sym t.second)
    (subst (λ z. IsLeftTurn n a b z) (sym t.third) turn)))
    (subst (λ k. HasTurns n (drop k order) lefts rights) e more)

-- a right turn more
pub HasTurns-right_at : (n : ℕ) (has : ℕ → Bool) (order : List ℕ) (i j a b c lefts rights : ℕ) →
    IsTriple n has order i a b c → j ≡ i + 1 →
    IsRightTurn n a b c → HasTurns n (drop j order) lefts rights → HasTurns n (drop i order) lefts (rights + 1)
HasTurns-right_at n has order i j a b c lefts rights t e turn more =
    HasTurns-right n order i a lefts rights t.fits
    (subst (λ x. IsRightTurn n x (get_or order (i + 1) a) (get_or order (i + 2) a)) (sym t.first)
    (subst (λ y. IsRightTurn n a y (get_or order (i + 2) a)) (sym t.second)
    (subst (λ z. IsRightTurn n a b z) (sym t.third) turn)))
    (subst (λ k. HasTurns n (drop k order) lefts rights) e more)

-- the turns are fewer than the triangles
pub turns-few : (n : ℕ) (order : List ℕ) (i lefts rights : ℕ) → HasTurns n (drop i order) lefts rights →
    lefts + rights + 2 ≤ length order
turns-few n order i lefts rights turns =
    omega (arith, length-turns n (drop i order) lefts rights turns, length-drop i order)
