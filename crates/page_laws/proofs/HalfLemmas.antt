-- The halves of a square: two mates of one level, above its lower and its upper quarter.
use Rattle.std.proofs.Common.{Bool, true, false, nat_eq, ◌≡◌, ◌≢◌, ℕ, zero, suc, ◌+◌, ◌*◌, ◌/◌, ◌%◌, ◌^◌, ◌<◌, ◌≤◌}
use Rattle.std.proofs.Common.{◌⊎◌, inl, inr, refl, sym}
use Rattle.std.proofs.Common.{◌∙◌, ap, subst, arith, ⊎_elim}
use Rattle.mesh_defs.specs.declared.point.Point.{Point}
use Rattle.mesh_defs.specs.Triangle.{level_of, IsMate}
use Rattle.bintree_laws.proofs.LevelLemmas.{IsAtLevel, IsAtLevel-level_of, level_of-at, level_of-left, level_of-parent}
use Rattle.bintree_laws.proofs.LevelLemmas.{left-or-right}
use Rattle.bintree_laws.proofs.CentreLemmas.{same_centre}
use Rattle.mosaic_laws.specs.Tile.{IsTile, in_tile, quarter_step, quarter, placed}
use Rattle.mosaic_laws.specs.Glue.{tile_of, local_of}
use Rattle.mosaic_laws.proofs.AddressLemmas.{at-low, in_tile-quarter, in_tile-local, local-big, local-level, quarter-at}
use Rattle.mosaic_laws.proofs.AddressLemmas.{tile-in_tile}
use Rattle.mosaic_laws.proofs.MateLemmas.{level-big}
use Rattle.page_laws.specs.Pages.{half, is_turned, left_quarter, right_quarter}
use Rattle.page_laws.proofs.SquareLemmas.{tile-children}
use Rattle.page_laws.proofs.BesideLemmas.{half-centre}

-- the table of quarters

step-half : (whole : ℕ → ℕ) (i j k : ℕ) → i < 2 → j < 2 → k < 4 →
    (quarter_step whole i j k / 2 ≡ quarter_step whole i j 0 / 2)
    ⊎ (quarter_step whole i j k / 2 ≡ quarter_step whole i j 2 / 2)
step-half whole i j zero a b c = inl refl
step-half whole i j (suc (suc zero)) a b c = inr refl
step-half whole zero zero (suc zero) a b c = inr (omega arith)
step-half whole zero zero (suc (suc (suc zero))) a b c = inl (omega arith)
step-half whole (suc zero) zero (suc zero) a b c = inl (omega arith)
step-half whole (suc zero) zero (suc (suc (suc zero))) a b c = inr (omega arith)
step-half whole zero (suc zero) (suc zero) a b c = inl (omega arith)
step-half whole zero (suc zero) (suc (suc (suc zero))) a b c = inr (omega arith)
step-half whole (suc zero) (suc zero) (suc zero) a b c = inr (omega arith)
step-half whole (suc zero) (suc zero) (suc (suc (suc zero))) a b c = inl (omega arith)
step-half whole (suc (suc _)) row k a b c = absurd (omega (arith, a))
step-half whole column (suc (suc _)) k a b c = absurd (omega (arith, b))
step-half whole i j (suc (suc (suc (suc _)))) a b c = absurd (omega (arith, c))

step-apart : (whole : ℕ → ℕ) (i j : ℕ) → i < 2 → j < 2 →
    quarter_step whole i j 0 / 2 ≢ quarter_step whole i j 2 / 2
step-apart whole zero zero a b same = omega arith
step-apart whole (suc zero) zero a b same = omega arith
step-apart whole zero (suc zero) a b same = omega arith
step-apart whole (suc zero) (suc zero) a b same = omega arith
step-apart whole (suc (suc _)) row a b same = omega (arith, a)
step-apart whole column (suc (suc _)) a b same = omega (arith, b)

step-children : (whole : ℕ → ℕ) (i j which : ℕ) → i < 2 → j < 2 → which < 2 →
    (2 * (quarter_step whole i j (2 * which) / 2)
    ≡ quarter_step whole i j (left_quarter (nat_eq ((i + j) % 2) 0) which))
    × (2 * (quarter_step whole i j (2 * which) / 2) + 1
    ≡ quarter_step whole i j (right_quarter (nat_eq ((i + j) % 2) 0) which))
step-children whole zero zero zero a b c = (omega arith, omega arith)
step-children whole zero zero (suc zero) a b c = (omega arith, omega arith)
step-children whole (suc zero) zero zero a b c = (omega arith, omega arith)
step-children whole (suc zero) zero (suc zero) a b c = (omega arith, omega arith)
step-children whole zero (suc zero) zero a b c = (omega arith, omega arith)
step-children whole zero (suc zero) (suc zero) a b c = (omega arith, omega arith)
step-children whole (suc zero) (suc zero) zero a b c = (omega arith, omega arith)
step-children whole (suc zero) (suc zero) (suc zero) a b c = (omega arith, omega arith)
step-children whole (suc (suc _)) row which a b c = absurd (omega (arith, a))
step-children whole column (suc (suc _)) which a b c = absurd (omega (arith, b))
step-children whole i j (suc (suc _)) a b c = absurd (omega (arith, c))

turned-bits : (i j : ℕ) → nat_eq ((i + j) % 2) 0 ≡ nat_eq ((i % 2 + j % 2) % 2) 0
turned-bits i j = let e : (i + j) % 2 ≡ (i % 2 + j % 2) % 2 = omega arith in ap (λ k. nat_eq k 0) e

-- the children of a half
half-children : (p : ℕ) (t : Point) (which : ℕ) → which < 2 →
    (2 * half p t which ≡ quarter p t.x t.y (left_quarter (is_turned p t) which))
    × (2 * half p t which + 1 ≡ quarter p t.x t.y (right_quarter (is_turned p t) which))
half-children zero t zero less = (refl, refl)
half-children zero t (suc zero) less = (refl, refl)
half-children zero t (suc (suc _)) less = absurd (omega (arith, less))
half-children (suc p) t which less =
    let turned = sym (turned-bits t.x t.y) in
    let step = step-children (quarter p (t.x / 2) (t.y / 2)) (t.x % 2) (t.y % 2) which (omega arith) (omega arith) less
    in (
      step.0 ∙ ap (λ b. quarter (suc p) t.x t.y (left_quarter b which)) turned,
      step.1 ∙ ap (λ b. quarter (suc p) t.x t.y (right_quarter b which)) turned,
    )

pub half-left : (p : ℕ) (t : Point) (which : ℕ) → which < 2 →
    2 * half p t which ≡ quarter p t.x t.y (left_quarter (is_turned p t) which)
half-left p t which less = (half-children p t which less).0

pub half-right : (p : ℕ) (t : Point) (which : ℕ) → which < 2 →
    2 * half p t which + 1 ≡ quarter p t.x t.y (right_quarter (is_turned p t) which)
half-right p t which less = (half-children p t which less).1

pub left_quarter-small : (turned : Bool) (which : ℕ) → left_quarter turned which < 4
left_quarter-small false zero = omega arith
left_quarter-small false (suc _) = omega arith
left_quarter-small true zero = omega arith
left_quarter-small true (suc _) = omega arith

pub right_quarter-small : (turned : Bool) (which : ℕ) → right_quarter turned which < 4
right_quarter-small false zero = omega arith
right_quarter-small false (suc _) = omega arith
right_quarter-small true zero = omega arith
right_quarter-small true (suc _) = omega arith

-- each quarter is a child of one of the halves
quarter-half : (p i j k : ℕ) → k < 4 → (quarter p i j k / 2 ≡ quarter p i j 0 / 2)
    ⊎ (quarter p i j k / 2 ≡ quarter p i j 2 / 2)
quarter-half zero i j zero small = inl refl
quarter-half zero i j (suc zero) small = inl refl
quarter-half zero i j (suc (suc zero)) small = inr refl
quarter-half zero i j (suc (suc (suc zero))) small = inr refl
quarter-half zero i j (suc (suc (suc (suc _)))) small = absurd (omega (arith, small))
quarter-half (suc p) i j k small =
    step-half (quarter p (i / 2) (j / 2)) (i % 2) (j % 2) k (omega arith) (omega arith) small

-- the two halves are different
half-apart : (p : ℕ) (t : Point) → half p t 0 ≢ half p t 1
half-apart zero t same = omega arith
half-apart (suc p) t same =
    step-apart (quarter p (t.x / 2) (t.y / 2)) (t.x % 2) (t.y % 2) (omega arith) (omega arith) same

-- halves

module _ (p : ℕ) (t : Point) (which : ℕ) (less : which < 2) where
  at : IsAtLevel (suc (2 * p)) (quarter p t.x t.y (2 * which))
  at = quarter-at p t.x t.y (2 * which) (omega arith)

  low : 2 ≤ quarter p t.x t.y (2 * which)
  low = at-low (suc (2 * p)) (quarter p t.x t.y (2 * which)) at

  big : 4 ≤ quarter p t.x t.y (2 * which)
  big = let l = level_of-at (suc (2 * p)) (quarter p t.x t.y (2 * which)) at in level-big _ low (omega arith)

  -- they are at the level above the quarters
  pub half-level : level_of (half p t which) ≡ 2 * p
  half-level =
      let l = level_of-at (suc (2 * p)) (quarter p t.x t.y (2 * which)) at in
      let up = level_of-parent (quarter p t.x t.y (2 * which)) big in omega arith

  pub half-low : 2 ≤ half p t which
  half-low = let b = big in omega arith

  -- and lie in the square
  pub half-tile : IsTile (2 ^ p) (2 ^ p) t → tile_of p (2 * half p t which) ≡ t
  half-tile tile =
      let level = half-level in
      let is : in_tile p t (4 + 2 * which) ≡ quarter p t.x t.y ((4 + 2 * which) % 4) =
      in_tile-quarter p t (4 + 2 * which) (omega arith) (omega arith) in
      let bits : (4 + 2 * which) % 4 ≡ 2 * which = omega arith in
      let there : tile_of p (quarter p t.x t.y (2 * which)) ≡ t =
      ap (tile_of p) (sym (is ∙ ap (quarter p t.x t.y) bits)) ∙ tile-in_tile p t (4 + 2 * which) tile (omega arith) in
      ⊎_elim
      (λ (left : quarter p t.x t.y (2 * which) ≡ 2 * half p t which). ap (tile_of p) (sym left) ∙ there)
      (λ (right : quarter p t.x t.y (2 * which) ≡ 2 * half p t which + 1).
      sym (tile-children p (half p t which) half-low (omega arith)) ∙ ap (tile_of p) (sym right) ∙ there)
      (left-or-right (quarter p t.x t.y (2 * which)))

at-below : (a : ℕ) → 4 ≤ a → level_of a ≡ 1 → a < 2 ^ 3
at-below a big one = (subst (λ k. IsAtLevel k a) one (IsAtLevel-level_of a (omega arith))).high

-- each triangle of that level is one of the halves of its square
pub halves : (p x : ℕ) → 2 ≤ x → level_of x ≡ 2 * p →
    (x ≡ half p (tile_of p (2 * x)) 0) ⊎ (x ≡ half p (tile_of p (2 * x)) 1)
halves p x low level =
    let l = level_of-left x low in
    let big' = local-big p (2 * x) (omega arith) (omega arith) in
    let one : level_of (local_of p (2 * x)) ≡ 1 = local-level p (2 * x) (omega arith) (omega arith) ∙ omega arith in
    let small : local_of p (2 * x) < 2 ^ 3 = at-below (local_of p (2 * x)) big' one in
    let is : quarter p (tile_of p (2 * x)).x (tile_of p (2 * x)).y (local_of p (2 * x) % 4) ≡ 2 * x =
    sym (in_tile-quarter p (tile_of p (2 * x)) (local_of p (2 * x)) big' (omega arith))
    ∙ in_tile-local p (2 * x) (omega arith) (omega arith) in
    let back : x ≡ 2 * x / 2 = omega arith in
    ⊎_elim
    (λ lower. inl (back ∙ ap (λ z. z / 2) (sym is) ∙ lower))
    (λ upper. inr (back ∙ ap (λ z. z / 2) (sym is) ∙ upper))
    (quarter-half p (tile_of p (2 * x)).x (tile_of p (2 * x)).y (local_of p (2 * x) % 4) (omega arith))

-- and the halves are mates
pub half-mates : (n p : ℕ) (t : Point) → 1 ≤ n → IsTile (2 ^ p) (2 ^ p) t → IsMate (n + p) (half p t 0) (half p t 1)
half-mates zero p t some tile = absurd (omega (arith, some))
half-mates (suc n) p t some tile =
    let l = half-level p t 0 (omega arith) in
    let m = half-level p t 1 (omega arith) in
    let here = half-centre n p (half p t 0) (half-low p t 0 (omega arith)) l in
    let there = half-centre n p (half p t 1) (half-low p t 1 (omega arith)) m in
    let first = half-tile p t 0 (omega arith) tile in
    let second = half-tile p t 1 (omega arith) tile in
    ⊎_elim
    (λ (same : half p t 1 ≡ half p t 0). absurd (half-apart p t (sym same)))
    (λ mate. mate)
    (same_centre (suc n + p) (half p t 0) (half p t 1)
    record { low = half-low p t 0 (omega arith); coarse = omega arith }
    record { low = half-low p t 1 (omega arith); coarse = omega arith }
    (here ∙ ap (λ u. placed (2 ^ suc n) u (record { x = 2 ^ n; y = 2 ^ n })) (first ∙ sym second) ∙ sym there))
