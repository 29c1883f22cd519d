-- Pairs of addresses: a pair is of one level and one base, and triangles of one level and base are a pair.
use Rattle.std.proofs.Common.{◌≡◌, ◌↔◌, ◌-◌, ap, Option, Some, None, sym, ◌∙◌, ◌≢◌, ◌⊎◌, ℕ, zero, suc, ◌+◌, ◌*◌, ◌/◌}
use Rattle.std.proofs.Common.{◌%◌, ◌^◌, ◌<◌, ◌≤◌, refl, arith, inl, inr, ⊎_elim}
use Rattle.std.proofs.lemmas.Bool.{cases_eq}
use Rattle.std.proofs.Math.Pow.{pow_mono}
use Rattle.mesh_defs.specs.declared.point.Corners.{Corners}
use Rattle.mesh_defs.specs.Triangle.{level_of, base_triangle}
use Rattle.bintree_laws.specs.Pair.{IsInner, IsOuter, IsPair}
use Rattle.bintree_laws.proofs.LevelLemmas.{IsAtLevel, IsAtLevel-half, IsAtLevel-level_of, level_of-below}
use Rattle.bintree_laws.proofs.LevelLemmas.{level_of-root, level_of-first, level_of-deep, pow_next, pow_after}
use Rattle.bintree_laws.proofs.LatticeLemmas.{grandchild}
use Rattle.bintree_laws.proofs.UnitLemmas.{quarter, frame, IsHalf, IsSomeHalf, IsHalf-frame, SameSum, AreHalves, pivot}
use Rattle.bintree_laws.proofs.UnitLemmas.{SamePivot, SamePivot-above}

-- ---- levels of grandchildren

-- a quarter of an address is two levels higher
pub IsAtLevel-quarter : (level a : ℕ) → IsAtLevel (suc (suc level)) a → IsAtLevel level (a / 4)
IsAtLevel-quarter level a deep =
    let low : 2 ^ (suc (suc level) + 1) ≡ 4 * 2 ^ (level + 1) =
    let e : suc (suc level) + 1 ≡ (level + 1) + 2 = omega arith in
    let f : 2 ^ ((level + 1) + 2) ≡ 2 * 2 ^ ((level + 1) + 1) = pow_after (level + 1) in
    let g : 2 ^ ((level + 1) + 1) ≡ 2 * 2 ^ (level + 1) = pow_next (level + 1) in rw e (omega arith) in
    let high : 2 ^ (suc (suc level) + 2) ≡ 4 * 2 ^ (level + 2) =
    let e : suc (suc level) + 2 ≡ (level + 2) + 2 = omega arith in
    let f : 2 ^ ((level + 2) + 2) ≡ 2 * 2 ^ ((level + 2) + 1) = pow_after (level + 2) in
    let g : 2 ^ ((level + 2) + 1) ≡ 2 * 2 ^ (level + 2) = pow_next (level + 2) in rw e (omega arith) in
    record { low = omega arith; high = omega arith }

-- and back
pub IsAtLevel-grandchild : (level a : ℕ) → IsAtLevel level (a / 4) → IsAtLevel (suc (suc level)) a
IsAtLevel-grandchild level a at =
    let half : a / 2 / 2 ≡ a / 4 = omega arith in
    let quarter : IsAtLevel level (a / 2 / 2) = rw half at in
    IsAtLevel-half (suc level) a (IsAtLevel-half level (a / 2) quarter)

-- ---- a pair is of one level, of two addresses, and the one determines the other

-- a pair is of one level
pub IsAtLevel-pair : (level a b : ℕ) → IsAtLevel level a → IsPair level a b → IsAtLevel level b
IsAtLevel-pair zero a b at pair = let low = at.low in let high = at.high in
    record { low = omega arith; high = omega arith }
IsAtLevel-pair (suc zero) a b at pair = absurd pair
IsAtLevel-pair (suc (suc level)) a b at pair =
    let above : IsAtLevel level (a / 4) = IsAtLevel-quarter level a at in
    IsAtLevel-grandchild level b
    (⊎_elim (λ inner. rw inner.1 at above) (λ outer. IsAtLevel-pair level (a / 4) (b / 4) above outer.1) pair.1)

-- no address is in a pair with itself
pub pair_differs : (level a b : ℕ) → IsPair level a b → b ≢ a
pair_differs zero a b pair = omega arith
pair_differs (suc zero) a b pair = absurd pair
pair_differs (suc (suc level)) a b pair = let sum = pair.0 in omega arith

never_both : (which : ℕ) → IsInner which → IsOuter which → ⊥
never_both zero inner outer = outer
never_both (suc zero) inner outer = inner
never_both (suc (suc zero)) inner outer = inner
never_both (suc (suc (suc _))) inner outer = outer

same_from_parts : (a b : ℕ) → a / 4 ≡ b / 4 → a % 4 ≡ b % 4 → a ≡ b
same_from_parts a b above last = omega arith

-- an address is in one pair at most
pub pair_unique : (level a b c : ℕ) → IsPair level a b → IsPair level a c → b ≡ c
pair_unique zero a b c p q = omega arith
pair_unique (suc zero) a b c p q = absurd p
pair_unique (suc (suc level)) a b c p q =
    let sum = p.0 in let other = q.0 in
    let last : b % 4 ≡ c % 4 = omega arith in
    let above : b / 4 ≡ c / 4 =
    ⊎_elim
    (λ inner. ⊎_elim (λ also. sym inner.1 ∙ also.1) (λ outer. absurd (never_both (a % 4) inner.0 outer.0)) q.1)
    (λ outer. ⊎_elim (λ inner. absurd (never_both (a % 4) inner.0 outer.0))
    (λ also. pair_unique level (a / 4) (b / 4) (c / 4) outer.1 also.1) q.1)
    p.1 in
    same_from_parts b c above last

-- ---- a pair has one base, with its ends exchanged

AreHalves-base : (half other : ℕ) → half + other ≡ 1 → AreHalves (base_triangle 1 half) (base_triangle 1 other)
AreHalves-base zero zero sum = absurd (omega (arith, sum))
AreHalves-base zero (suc _) sum = grind arith
AreHalves-base (suc _) zero sum = grind arith
AreHalves-base (suc _) (suc _) sum = absurd (omega (arith, sum))

AreHalves-inner : (which other : ℕ) (c : Corners) → which < 4 → which + other ≡ 3 → IsInner which → AreHalves
    (grandchild which c) (grandchild other c)
AreHalves-inner zero other c low sum inner =
    let last : other ≡ 3 = omega arith in
    rw last (grind arith)
AreHalves-inner (suc zero) other c low sum inner = absurd inner
AreHalves-inner (suc (suc zero)) other c low sum inner = absurd inner
AreHalves-inner (suc (suc (suc zero))) other c low sum inner =
    let first : other ≡ 0 = omega (arith, sum) in
    rw first (grind arith)
AreHalves-inner (suc (suc (suc (suc _)))) other c low sum inner = absurd (omega (arith, low))

AreHalves-outer : (which other : ℕ) (c d : Corners) → which + other ≡ 3 → IsOuter which → AreHalves c d → AreHalves
    (grandchild which c) (grandchild other d)
AreHalves-outer zero other c d sum outer halves = absurd outer
AreHalves-outer (suc zero) other c d sum outer halves =
    let third : other ≡ 2 = omega (arith, sum) in
    rw third (grind arith)
AreHalves-outer (suc (suc zero)) other c d sum outer halves =
    let second : other ≡ 1 = omega (arith, sum) in
    rw second (grind arith)
AreHalves-outer (suc (suc (suc _))) other c d sum outer halves = absurd outer

-- a pair are the halves of one square of the frame
pub AreHalves-pair : (level a b : ℕ) → IsPair level a b → AreHalves (frame level a) (frame level b)
AreHalves-pair zero a b pair = AreHalves-base (a % 2) (b % 2) (omega arith)
AreHalves-pair (suc zero) a b pair = absurd pair
AreHalves-pair (suc (suc level)) a b pair =
    ⊎_elim
    (λ inner. rw (← inner.1) (AreHalves-inner (a % 4) (b % 4) (frame level (a / 4)) (omega arith) pair.0 inner.0))
    (λ outer. AreHalves-outer (a % 4) (b % 4) (frame level (a / 4)) (frame level (b / 4)) pair.0 outer.0
    (AreHalves-pair level (a / 4) (b / 4) outer.1))
    pair.1

-- ---- triangles of one level with one base sum are equal or a pair

quarter_sums : (which : ℕ) → which < 4 → (which ≡ 0) × ((quarter which).v0.x + (quarter which).v1.x ≡ 1) ×
    ((quarter which).v0.y + (quarter which).v1.y ≡ 3)
    ⊎ ((which ≡ 1) × ((quarter which).v0.x + (quarter which).v1.x ≡ 1) ×
    ((quarter which).v0.y + (quarter which).v1.y ≡ 1)
    ⊎ ((which ≡ 2) × ((quarter which).v0.x + (quarter which).v1.x ≡ 3) ×
    ((quarter which).v0.y + (quarter which).v1.y ≡ 1)
    ⊎ (which ≡ 3) × ((quarter which).v0.x + (quarter which).v1.x ≡ 3) ×
    ((quarter which).v0.y + (quarter which).v1.y ≡ 3)))
quarter_sums zero low = inl (refl, refl, refl)
quarter_sums (suc zero) low = inr (inl (refl, refl, refl))
quarter_sums (suc (suc zero)) low = inr (inr (inl (refl, refl, refl)))
quarter_sums (suc (suc (suc zero))) low = inr (inr (inr (refl, refl, refl)))
quarter_sums (suc (suc (suc (suc _)))) low = absurd (omega (arith, low))

quarter_unique : (which other : ℕ) → which < 4 → other < 4 → SameSum (quarter which) (quarter other) → which ≡ other
quarter_unique which other low less same =
    let p = quarter_sums which low in let q = quarter_sums other less in let x = same.x in let y = same.y in omega arith

-- Where a grandchild lies tells which it is, but for the first and the last. The last clause is checked for each pair
-- that no clause above it names.
pivot_unique : (which other i j : ℕ) (c : Corners) → which < 4 → other < 4 → IsHalf i j c → (pivot which c).x ≡
    (pivot other c).x → (pivot which c).y ≡ (pivot other c).y → (other ≡ which) ⊎ ((which + other ≡ 3) × IsInner which)
pivot_unique zero zero i j c low less half x y = inl refl
pivot_unique (suc zero) (suc zero) i j c low less half x y = inl refl
pivot_unique (suc (suc zero)) (suc (suc zero)) i j c low less half x y = inl refl
pivot_unique (suc (suc (suc zero))) (suc (suc (suc zero))) i j c low less half x y = inl refl
pivot_unique zero (suc (suc (suc zero))) i j c low less half x y = inr (refl, tt)
pivot_unique (suc (suc (suc zero))) zero i j c low less half x y = inr (refl, tt)
pivot_unique (suc (suc (suc (suc _)))) _ i j c low less half x y = absurd (omega (arith, low))
pivot_unique _ (suc (suc (suc (suc _)))) i j c low less half x y = absurd (omega (arith, less))
pivot_unique _ _ i j c low less half x y = let right = half.right in absurd (omega arith)

-- Grandchildren of a pair with one pivot are the second of one and the third of the other. The last clause is checked
-- for each pair that no clause above it names.
pivot_across : (which other i j : ℕ) (c d : Corners) → which < 4 → other < 4 → IsHalf i j c → AreHalves c d →
    (pivot which c).x ≡ (pivot other d).x → (pivot which c).y ≡ (pivot other d).y → (which + other ≡ 3) × IsOuter which
pivot_across (suc zero) (suc (suc zero)) i j c d low less half halves x y = (refl, tt)
pivot_across (suc (suc zero)) (suc zero) i j c d low less half halves x y = (refl, tt)
pivot_across (suc (suc (suc (suc _)))) _ i j c d low less half halves x y = absurd (omega (arith, low))
pivot_across _ (suc (suc (suc (suc _)))) i j c d low less half halves x y = absurd (omega (arith, less))
pivot_across _ _ i j c d low less half halves x y = let right = half.right in absurd (omega arith)

-- two triangles of a level whose bases have one sum of ends are equal or a pair, in the frame
pub same_base : (level a b : ℕ) → IsAtLevel level a → IsAtLevel level b → SameSum (frame level a) (frame level b) →
    (b ≡ a) ⊎ IsPair level a b
same_base zero a b p q same = ⊎_elim (λ e. inl e) (λ differ. inr (let l = p.low in let h = p.high in let m = q.low in
    let k = q.high in omega arith)) (cases_eq b a)
same_base (suc zero) a b p q same =
    let last : a % 4 ≡ b % 4 = quarter_unique (a % 4) (b % 4) (omega arith) (omega arith) same in
    inl (let l = p.low in let h = p.high in let m = q.low in let k = q.high in omega arith)
same_base (suc (suc level)) a b p q same =
    let half : IsSomeHalf (frame level (a / 4)) = IsHalf-frame level (a / 4) in
    let pivots : SamePivot (a % 4) (b % 4) (frame level (a / 4)) (frame level (b / 4)) =
    SamePivot-above (a % 4) (b % 4) (frame level (a / 4)) (frame level (b / 4)) half
    (IsHalf-frame level (b / 4)) same in
    ⊎_elim
    (λ one. ⊎_elim
    (λ last. inl (same_from_parts b a one last))
    (λ inner. inr (inner.0, inl (inner.1, sym one)))
    (pivot_unique (a % 4) (b % 4) half.0 half.1 (frame level (a / 4)) (omega arith) (omega arith) half.2
    (rw one at pivots.x) (rw one at pivots.y)))
    (λ pair.
    let across : (a % 4 + b % 4 ≡ 3) × IsOuter (a % 4) =
    pivot_across (a % 4) (b % 4) half.0 half.1 (frame level (a / 4)) (frame level (b / 4)) (omega arith)
    (omega arith) half.2 (AreHalves-pair level (a / 4) (b / 4) pair) pivots.x pivots.y in
    inr (across.0, inr (across.1, pair)))
    (same_base level (a / 4) (b / 4) (IsAtLevel-quarter level a p) (IsAtLevel-quarter level b q) pivots.above)

-- ---- the address across the base, as the code finds it

-- 2 and 3 are a pair
pub IsPair-root : (a : ℕ) → 2 ≤ a → a < 4 → IsPair (level_of a) a (5 - a)
IsPair-root a low high = rw (level_of-root a low high) (omega arith)

-- no triangle of level 1 is in a pair
pub no_pair-first : (a c : ℕ) → 4 ≤ a → a < 8 → IsPair (level_of a) a c → ⊥
no_pair-first a c low high pair = rw (level_of-first a low high) at pair

-- the first grandchild is in a pair with the last
pub IsPair-inner_first : (a : ℕ) → 8 ≤ a → a % 4 ≡ 0 → IsPair (level_of a) a (a + 3)
IsPair-inner_first a low first =
    rw (level_of-deep a low) (omega arith, inl (rw first tt, omega arith))

-- and the last with the first
pub IsPair-inner_last : (a : ℕ) → 8 ≤ a → a % 4 ≡ 3 → IsPair (level_of a) a (a - 3)
IsPair-inner_last a low last =
    rw (level_of-deep a low) (omega arith, inl (rw last tt, omega arith))

is_outer : (which : ℕ) → which < 4 → (which ≡ 0 → ⊥) → (which ≡ 3 → ⊥) → IsOuter which
is_outer zero low first last = first refl
is_outer (suc zero) low first last = tt
is_outer (suc (suc zero)) low first last = tt
is_outer (suc (suc (suc zero))) low first last = last refl
is_outer (suc (suc (suc (suc _)))) low first last = absurd (omega (arith, low))

is_not_inner : (which : ℕ) → which < 4 → (which ≡ 0 → ⊥) → (which ≡ 3 → ⊥) → IsInner which → ⊥
is_not_inner which low first last inner = never_both which inner (is_outer which low first last)

-- the second and the third are in a pair with those across the base of their grandparent
pub IsPair-outer : (a above : ℕ) → 8 ≤ a → (a % 4 ≡ 0 → ⊥) → (a % 4 ≡ 3 → ⊥) → IsPair (level_of (a / 4))
    (a / 4) above → IsPair (level_of a) a (4 * above + 3 - a % 4)
IsPair-outer a above low first last pair =
    let up : (4 * above + 3 - a % 4) / 4 ≡ above = omega arith in
    rw (level_of-deep a low) (omega arith, inr (is_outer (a % 4) (omega arith) first last, rw up pair))

-- where nothing lies across, they are in none
pub no_pair-outer : (a c : ℕ) → 8 ≤ a → (a % 4 ≡ 0 → ⊥) → (a % 4 ≡ 3 → ⊥) →
    ((b : ℕ) → IsPair (level_of (a / 4)) (a / 4) b → ⊥) → IsPair (level_of a) a c → ⊥
no_pair-outer a c low first last none pair =
    let deep : IsPair (suc (suc (level_of (a / 4)))) a c = rw (level_of-deep a low) at pair in
    ⊎_elim (λ inner. is_not_inner (a % 4) (omega arith) first last inner.0) (λ outer. none (c / 4) outer.1) deep.1

-- the one answer
pub pair_answer : (a v : ℕ) → IsPair (level_of a) a v → (c : ℕ) → (Some v ≡ Some c) ↔ IsPair (level_of a) a c
pair_answer a v pair c = (
  (λ e. let same : v ≡ c = cc in rw same at pair),
  (λ other. ap (λ k. Some k)
      (pair_unique (level_of a) a v c pair other)),
)

-- no answer where there is no pair
pub pair_no_answer : (a : ℕ) → ((c : ℕ) → IsPair (level_of a) a c → ⊥) → (c : ℕ) →
    (◌≡◌ {A = Option ℕ} None (Some c)) ↔ IsPair (level_of a) a c
pair_no_answer a none c = ((λ e. cc), (λ pair. absurd (none c pair)))

-- a pair of an address is an address
pub pair_range : (a b : ℕ) → 2 ≤ a → a < 2 ^ 30 → IsPair (level_of a) a b → (2 ≤ b) × (b < 2 ^ 30)
pair_range a b low high pair =
    let at : IsAtLevel (level_of a) b = IsAtLevel-pair (level_of a) a b (IsAtLevel-level_of a low) pair in
    let level : level_of a < 29 = (level_of-below a 29 low).1 high in
    let shallow : level_of a + 2 ≤ 30 = omega arith in
    let deepest : 2 ^ (level_of a + 2) ≤ 2 ^ 30 = pow_mono shallow in
    let lowest : 1 ≤ level_of a + 1 = omega arith in
    let first : 2 ^ 1 ≤ 2 ^ (level_of a + 1) = pow_mono lowest in
    (omega arith, omega arith)
