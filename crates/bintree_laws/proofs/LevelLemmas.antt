-- Levels of addresses: a level is a range between two powers of 2.
use Rattle.std.proofs.Common.{◌≡◌, ℕ, zero, suc, ◌+◌, ◌*◌, ◌/◌, ◌%◌, ◌^◌, ◌-◌, ◌<◌, ◌≤◌, ◌⊎◌, inl, inr, ◌↔◌, Bool, true}
use Rattle.std.proofs.Common.{false, nat_lt, refl, arith, ⊎_elim, add-one}
use Rattle.std.proofs.Math.Nat.{pow-succ'}
use Rattle.std.proofs.Math.Pow.{pow_mono}
use Rattle.std.proofs.lemmas.Bool.{cases_lt, ltb-true, ltb-false, cases_order}
use Rattle.std.proofs.lemmas.Nat.{leading_top}
use Rattle.std.specs.Int.Count.{count_leading_zeros}
use Rattle.mesh_defs.specs.Triangle.{halvings, level_of, IsAddress, IsSplittable}

-- ---- a level as a range

-- the addresses of a level are those from 2 ^ (level + 1) to 2 ^ (level + 2), less 1
pub record IsAtLevel (level a : ℕ) : Type 0 where
  pub low : 2 ^ (level + 1) ≤ a
  pub high : a < 2 ^ (level + 2)

-- powers of 2
pub pow_next : (k : ℕ) → 2 ^ (k + 1) ≡ 2 * 2 ^ k
pow_next k = rw add-one (pow-succ' 2 k)

-- two more in the exponent
pub pow_after : (k : ℕ) → 2 ^ (k + 2) ≡ 2 * 2 ^ (k + 1)
pow_after k = let e : k + 2 ≡ (k + 1) + 1 = omega arith in rw e (pow_next (k + 1))

-- the level of a number is one more than that of its half
pub IsAtLevel-half : (level a : ℕ) → IsAtLevel level (a / 2) → IsAtLevel (suc level) a
IsAtLevel-half level a half =
    let low : 2 ^ (suc level + 1) ≡ 2 * 2 ^ (level + 1) = let e : suc level + 1 ≡ level + 2 = omega arith in rw e
    (pow_after level) in
    let high : 2 ^ (suc level + 2) ≡ 2 * 2 ^ (level + 2) = let e : suc level + 2 ≡ (level + 2) + 1 = omega arith in
    rw e (pow_next (level + 2)) in
    record { low = omega arith; high = omega arith }

IsAtLevel-step : (below : Bool) (level a : ℕ) → nat_lt a 4 ≡ below → 2 ≤ a → (4 ≤ a → IsAtLevel level (a / 2)) →
    IsAtLevel (elim below as (λ _. ℕ) [ true ↦ 0 | false ↦ suc level ]) a
IsAtLevel-step true level a e low half =
    let high : a < 4 = ltb-true a 4 e in record { low = low; high = high }
IsAtLevel-step false level a e low half = IsAtLevel-half level a (half (ltb-false a 4 e))

IsAtLevel-halvings : (steps a : ℕ) → 2 ≤ a → a ≤ steps → IsAtLevel (halvings steps a) a
IsAtLevel-halvings zero a low enough = absurd (omega arith)
IsAtLevel-halvings (suc steps) a low enough =
    IsAtLevel-step (nat_lt a 4) (halvings steps (a / 2)) a refl low
    (λ above. IsAtLevel-halvings steps (a / 2) (omega arith) (omega arith))

-- an address is at its level
pub IsAtLevel-level_of : (a : ℕ) → 2 ≤ a → IsAtLevel (level_of a) a
unfolding level_of
IsAtLevel-level_of a low = IsAtLevel-halvings a a low (omega arith)

-- no address is at two levels
pub IsAtLevel-unique : (i j a : ℕ) → IsAtLevel i a → IsAtLevel j a → i ≡ j
IsAtLevel-unique i j a p q = ⊎_elim (λ e. e) (⊎_elim
    (λ lt. let le : 2 ^ (i + 2) ≤ 2 ^ (j + 1) = pow_mono (omega arith) in absurd (omega arith))
    (λ gt. let le : 2 ^ (j + 2) ≤ 2 ^ (i + 1) = pow_mono (omega arith) in absurd (omega arith)))
    (cases_order i j)

-- the level of an address is the one whose range has it
pub level_of-at : (level a : ℕ) → IsAtLevel level a → level_of a ≡ level
level_of-at level a at =
    let some : 2 ≤ a = let deeper : 1 ≤ level + 1 = omega arith in let p : 2 ^ 1 ≤ 2 ^ (level + 1) = pow_mono deeper in
    omega arith in
    IsAtLevel-unique (level_of a) level a (IsAtLevel-level_of a some) at

-- ---- children and parents

-- a left child is a level deeper
pub level_of-left : (a : ℕ) → 2 ≤ a → level_of (2 * a) ≡ level_of a + 1
level_of-left a low =
    let half : 2 * a / 2 ≡ a = omega arith in
    let at : IsAtLevel (level_of a) (2 * a / 2) = rw half (IsAtLevel-level_of a low) in
    rw (add-one (level_of a)) (level_of-at (suc (level_of a)) (2 * a) (IsAtLevel-half (level_of a) (2 * a) at))

-- and so is a right child
pub level_of-right : (a : ℕ) → 2 ≤ a → level_of (2 * a + 1) ≡ level_of a + 1
level_of-right a low =
    let half : (2 * a + 1) / 2 ≡ a = omega arith in
    let at : IsAtLevel (level_of a) ((2 * a + 1) / 2) = rw half (IsAtLevel-level_of a low) in
    rw (add-one (level_of a)) (level_of-at (suc (level_of a)) (2 * a + 1) (IsAtLevel-half (level_of a) (2 * a + 1) at))

-- a triangle is a level deeper than its parent
pub level_of-parent : (a : ℕ) → 4 ≤ a → level_of a ≡ level_of (a / 2) + 1
level_of-parent a low =
    rw (add-one (level_of (a / 2))) (level_of-at (suc (level_of (a / 2))) a
    (IsAtLevel-half (level_of (a / 2)) a (IsAtLevel-level_of (a / 2) (omega arith))))

-- a number is its half's left or right child
pub left-or-right : (a : ℕ) → (a ≡ 2 * (a / 2)) ⊎ (a ≡ 2 * (a / 2) + 1)
left-or-right a = ⊎_elim (λ even. inl (omega arith)) (λ odd. inr (omega arith)) (cases_lt (a % 2) 1)

-- 2 and 3 are at level 0
pub level_of-root : (a : ℕ) → 2 ≤ a → a < 4 → level_of a ≡ 0
level_of-root a low high = level_of-at 0 a (record { low = low; high = high })

-- their children are at level 1
pub level_of-first : (a : ℕ) → 4 ≤ a → a < 8 → level_of a ≡ 1
level_of-first a low high = level_of-at 1 a (record { low = low; high = high })

-- the others are two levels deeper than their grandparents
pub level_of-deep : (a : ℕ) → 8 ≤ a → level_of a ≡ suc (suc (level_of (a / 4)))
level_of-deep a low =
    let half : a / 2 / 2 ≡ a / 4 = omega arith in
    let parent : level_of a ≡ level_of (a / 2) + 1 = level_of-parent a (omega arith) in
    let above : level_of (a / 2) ≡ level_of (a / 4) + 1 = rw half at (level_of-parent (a / 2) (omega arith)) in
    omega arith

-- ---- bounds

-- the addresses below a level are those below a power of 2
pub level_of-below : (a k : ℕ) → 2 ≤ a → (level_of a < k) ↔ (a < 2 ^ (k + 1))
level_of-below a k low =
    let at : IsAtLevel (level_of a) a = IsAtLevel-level_of a low in (
      (λ lt. let le : 2 ^ (level_of a + 2) ≤ 2 ^ (k + 1) = pow_mono (omega arith) in omega arith),
      (λ lt. ⊎_elim (λ done. done) (λ ge. let le : 2 ^ (k + 1) ≤ 2 ^ (level_of a + 1) = pow_mono (omega arith) in
          absurd (omega arith)) (cases_lt (level_of a) k)),
    )

-- an address is below 2 ^ (level + 2)
pub lt-pow-level : (a : ℕ) → 2 ≤ a → a < 4 * 2 ^ level_of a
lt-pow-level a low =
    let at : IsAtLevel (level_of a) a = IsAtLevel-level_of a low in
    let high : a < 2 ^ (level_of a + 2) = at.high in
    let after : 2 ^ (level_of a + 2) ≡ 2 * 2 ^ (level_of a + 1) = pow_after (level_of a) in
    let next : 2 ^ (level_of a + 1) ≡ 2 * 2 ^ level_of a = pow_next (level_of a) in
    omega arith

-- an address of the grid is at most at the finest level
pub level-le : (n a : ℕ) → IsAddress n a → level_of a ≤ 2 * n
level-le n a h =
    let exponent : 2 * n + 1 + 1 ≡ 2 * n + 2 = omega arith in
    let below : a < 2 ^ (2 * n + 1 + 1) = rw exponent h.high in
    let less : level_of a < 2 * n + 1 = (level_of-below a (2 * n + 1) h.low).1 below in omega arith

-- a splittable triangle has an address below the finest ones
pub splittable-below : (n a : ℕ) → IsSplittable n a → a < 4 * 2 ^ (2 * n)
splittable-below n a h =
    let below : a < 2 ^ (2 * n + 1) = (level_of-below a (2 * n) h.low).0 h.coarse in
    let next : 2 ^ (2 * n + 1) ≡ 2 * 2 ^ (2 * n) = pow_next (2 * n) in omega arith

top_is_level : (a j blanks : ℕ) → 2 ≤ a → blanks + suc j ≡ 32 → 2 ^ j ≤ a → a < 2 ^ suc j → blanks +
    (level_of a + 2) ≡ 32
top_is_level a zero blanks low e from to = absurd (omega arith)
top_is_level a (suc k) blanks low e from to =
    let same : level_of a ≡ k = level_of-at k a (record {
      low = rw (add-one k) from;
      high = let f : k + 2 ≡ suc
          (suc k) = omega arith in rw f to;
    }) in
    omega arith

-- the level that is read off the leading blanks of 32 bits
pub level_of-leading : (a : ℕ) → 2 ≤ a → a < 2 ^ 30 → count_leading_zeros 32 a + (level_of a + 2) ≡ 32
level_of-leading a low high =
    let top : (j : ℕ) × (count_leading_zeros 32 a + suc j ≡ 32) × (2 ^ j ≤ a) × (a < 2 ^ suc j) = leading_top 32 a
    (omega arith) (omega arith) in
    top_is_level a top.0 (count_leading_zeros 32 a) low top.1 top.2 top.3

-- ---- what the code asks; the first part of a conclusion shows `grind` the call to match

-- the level by the leading zeros of a 32-bit number
pub leading_read : (a : ℕ) → 2 ≤ a → a < 2 ^ 30 → (count_leading_zeros 32 a ≡ count_leading_zeros 32 a) ×
    (30 - count_leading_zeros 32 a ≡ level_of a) × (count_leading_zeros 32 a ≤ 30) × (level_of a < 29)
leading_read a low high =
    let read : count_leading_zeros 32 a + (level_of a + 2) ≡ 32 = level_of-leading a low high in
    (refl, omega arith, omega arith, (level_of-below a 29 low).1 high)

-- the children of a triangle above level 28 are addresses of 30 bits
pub child_room : (a : ℕ) → 2 ≤ a → level_of a < 28 → (level_of a ≡ level_of a) × (2 * a + 1 < 2 ^ 30)
child_room a low coarse =
    let below : a < 2 ^ 29 = (level_of-below a 28 low).0 coarse in (refl, omega arith)

-- all laws of levels
pub ruleset levels = (leading_read, child_room, level_of-left, level_of-right, level_of-parent)
