-- Mirror images of triangles: levels, parents, corners, mates.
use Rattle.std.proofs.Common.{◌≡◌, ℕ, zero, suc, ◌+◌, ◌-◌, ◌*◌, ◌/◌, ◌%◌, ◌^◌, ◌<◌, ◌≤◌, refl, sym}
use Rattle.std.proofs.Common.{◌∙◌, ap, subst, arith, ⊎_elim}
use Rattle.std.proofs.Math.Nat.{pow-succ'}
use Rattle.std.proofs.lemmas.Bool.{cases_lt}
use Rattle.mesh_defs.specs.declared.point.Corners.{Corners}
use Rattle.mesh_defs.specs.Triangle.{level_of, child, corners_of}
use Rattle.bintree_laws.specs.Corners.{IsWithin, HasEvenBase}
use Rattle.bintree_laws.proofs.LevelLemmas.{IsAtLevel, IsAtLevel-half, level_of-at, level_of-left, level_of-right}
use Rattle.bintree_laws.proofs.LevelLemmas.{level_of-parent, left-or-right}
use Rattle.bintree_laws.proofs.CornerLemmas.{corners_of-left, corners_of-right, IsWithin-corners_of}
use Rattle.bintree_laws.proofs.LatticeLemmas.{same_by_coordinates, HasEvenBase-corners_of}
use Rattle.mosaic_laws.proofs.AddressLemmas.{at-low, level-some}
use Rattle.mosaic_laws.proofs.MateLemmas.{level-big}
use Rattle.mosaic_laws.proofs.CornerLemmas.{quarter_corners, quarter-first}
use Rattle.mosaic_laws.specs.Mirror.{mirror_quarter, mirror_at, mirrored, turned_over}

-- quarters

mirror_quarter-small : (which k : ℕ) → mirror_quarter which k < 4
mirror_quarter-small zero zero = omega arith
mirror_quarter-small zero (suc zero) = omega arith
mirror_quarter-small zero (suc (suc zero)) = omega arith
mirror_quarter-small zero (suc (suc (suc _))) = omega arith
mirror_quarter-small (suc _) zero = omega arith
mirror_quarter-small (suc _) (suc zero) = omega arith
mirror_quarter-small (suc _) (suc (suc zero)) = omega arith
mirror_quarter-small (suc _) (suc (suc (suc _))) = omega arith

-- children

-- the image of a left child is a right child
pub mirrored-left : (which a : ℕ) → 4 ≤ a → mirrored which (2 * a) ≡ 2 * mirrored which a + 1
unfolding mirrored
mirrored-left which a big =
    let bit : 2 * a % 2 ≡ 0 = omega arith in
    let half : 2 * a / 2 ≡ a = omega arith in
    let l = level_of-left a (omega arith) in
    let some = level-some a big in
    let step : level_of (2 * a) - 1 ≡ suc (level_of a - 1) = omega arith in
    rw (step, bit, half) (omega arith)

-- and that of a right child a left one
pub mirrored-right : (which a : ℕ) → 4 ≤ a → mirrored which (2 * a + 1) ≡ 2 * mirrored which a
unfolding mirrored
mirrored-right which a big =
    let bit : (2 * a + 1) % 2 ≡ 1 = omega arith in
    let half : (2 * a + 1) / 2 ≡ a = omega arith in
    let l = level_of-right a (omega arith) in
    let some = level-some a big in
    let step : level_of (2 * a + 1) - 1 ≡ suc (level_of a - 1) = omega arith in
    rw (step, bit, half) (omega arith)

pub mirrored-quarter : (which a : ℕ) → 4 ≤ a → a < 8 → mirrored which a ≡ 4 + mirror_quarter which (a % 4)
unfolding mirrored
mirrored-quarter which a big less =
    let level : level_of a ≡ 1 = level_of-at 1 a record { low = omega arith; high = omega arith } in
    let step : level_of a - 1 ≡ zero = omega arith in
    rw step refl

-- the parent of the image is the image of the parent
pub mirrored-parent : (which a : ℕ) → 8 ≤ a → mirrored which a / 2 ≡ mirrored which (a / 2)
mirrored-parent which a big = ⊎_elim
    (λ (even : a ≡ 2 * (a / 2)).
    let e : mirrored which a ≡ 2 * mirrored which (a / 2) + 1 =
    ap (mirrored which) even ∙ mirrored-left which (a / 2) (omega arith) in omega arith)
    (λ (odd : a ≡ 2 * (a / 2) + 1).
    let e : mirrored which a ≡ 2 * mirrored which (a / 2) =
    ap (mirrored which) odd ∙ mirrored-right which (a / 2) (omega arith) in omega arith)
    (left-or-right a)

-- levels

IsAtLevel-mirror : (levels which a : ℕ) → IsAtLevel (suc levels) (mirror_at levels which a)
IsAtLevel-mirror zero which a =
    let small = mirror_quarter-small which (a % 4) in record { low = omega arith; high = omega arith }
IsAtLevel-mirror (suc levels) which a =
    let half : (2 * mirror_at levels which (a / 2) + (1 - a % 2)) / 2 ≡ mirror_at levels which (a / 2) = omega arith in
    IsAtLevel-half (suc levels) (2 * mirror_at levels which (a / 2) + (1 - a % 2))
    (subst (IsAtLevel (suc levels)) (sym half) (IsAtLevel-mirror levels which (a / 2)))

pub mirrored-level : (which a : ℕ) → 4 ≤ a → level_of (mirrored which a) ≡ level_of a
unfolding mirrored
mirrored-level which a big =
    let some = level-some a big in
    let e = level_of-at (suc (level_of a - 1)) (mirror_at (level_of a - 1) which a)
    (IsAtLevel-mirror (level_of a - 1) which a) in omega arith

pub mirrored-big : (which a : ℕ) → 4 ≤ a → 4 ≤ mirrored which a
unfolding mirrored
mirrored-big which a big =
    let some = level-some a big in
    let low = at-low (suc (level_of a - 1)) (mirror_at (level_of a - 1) which a)
    (IsAtLevel-mirror (level_of a - 1) which a) in
    let level = mirrored-level which a big in level-big (mirrored which a) low (omega arith)

-- corners

quarter-over : (which h k : ℕ) → k < 4 →
    quarter_corners h (mirror_quarter which k) ≡ turned_over which (2 * h) (quarter_corners h k)
quarter-over zero h zero less = same_by_coordinates _ _ (grind arith)
quarter-over zero h (suc zero) less = same_by_coordinates _ _ (grind arith)
quarter-over zero h (suc (suc zero)) less = same_by_coordinates _ _ (grind arith)
quarter-over zero h (suc (suc (suc _))) less = same_by_coordinates _ _ (grind arith)
quarter-over (suc _) h zero less = same_by_coordinates _ _ (grind arith)
quarter-over (suc _) h (suc zero) less = same_by_coordinates _ _ (grind arith)
quarter-over (suc _) h (suc (suc zero)) less = same_by_coordinates _ _ (grind arith)
quarter-over (suc _) h (suc (suc (suc _))) less = same_by_coordinates _ _ (grind arith)

-- the left child of the image is the image of the right child
over-left : (which m : ℕ) (c : Corners) → IsWithin m c → HasEvenBase c →
    child 0 (turned_over which m c) ≡ turned_over which m (child 1 c)
over-left zero m c within even = same_by_coordinates _ _
    (let a = within.v0_x in let b = within.v0_y in let d = within.v1_x in let e = within.v1_y in let f = even.x in
    let g = even.y in grind arith)
over-left (suc _) m c within even = same_by_coordinates _ _
    (let a = within.v0_x in let b = within.v0_y in let d = within.v1_x in let e = within.v1_y in let f = even.x in
    let g = even.y in grind arith)

over-right : (which m : ℕ) (c : Corners) → IsWithin m c → HasEvenBase c →
    child 1 (turned_over which m c) ≡ turned_over which m (child 0 c)
over-right zero m c within even = same_by_coordinates _ _
    (let a = within.v0_x in let b = within.v0_y in let d = within.v1_x in let e = within.v1_y in let f = even.x in
    let g = even.y in grind arith)
over-right (suc _) m c within even = same_by_coordinates _ _
    (let a = within.v0_x in let b = within.v0_y in let d = within.v1_x in let e = within.v1_y in let f = even.x in
    let g = even.y in grind arith)

mirrored-first : (which n a : ℕ) → 1 ≤ n → 4 ≤ a → a < 8 →
    corners_of n (mirrored which a) ≡ turned_over which (2 ^ n) (corners_of n a)
mirrored-first which zero a some big less = absurd (omega (arith, some))
mirrored-first which (suc n) a some big less =
    let e : 4 + a % 4 ≡ a = omega arith in
    ap (corners_of (suc n)) (mirrored-quarter which a big less)
    ∙ quarter-first n (mirror_quarter which (a % 4)) (mirror_quarter-small which (a % 4))
    ∙ quarter-over which (2 ^ n) (a % 4) (omega arith)
    ∙ ap (λ m. turned_over which m (quarter_corners (2 ^ n) (a % 4))) (sym (pow-succ' 2 n))
    ∙ ap (turned_over which (2 ^ suc n)) (sym (quarter-first n (a % 4) (omega arith)))
    ∙ ap (λ z. turned_over which (2 ^ suc n) (corners_of (suc n) z)) e

-- the corners of the image are the images of the corners
pub mirrored-corners : (which n a : ℕ) → 4 ≤ a → level_of a ≤ 2 * n →
    corners_of n (mirrored which a) ≡ turned_over which (2 ^ n) (corners_of n a)
mirrored-corners which n a big fits = at (suc a) a (omega arith) big fits
  where
    at : (fuel c : ℕ) → c < fuel → 4 ≤ c → level_of c ≤ 2 * n →
        corners_of n (mirrored which c) ≡ turned_over which (2 ^ n) (corners_of n c)
    at zero c enough big fits = absurd (omega arith)
    at (suc fuel) c enough big fits = ⊎_elim
        (λ (small : c < 8). let some = level-some c big in mirrored-first which n c (omega arith) big small)
        (λ (large : 8 ≤ c).
        let up = level_of-parent c big in
        let above : corners_of n (mirrored which (c / 2)) ≡ turned_over which (2 ^ n) (corners_of n (c / 2)) =
        at fuel (c / 2) (omega arith) (omega arith) (omega arith) in
        let big' = mirrored-big which (c / 2) (omega arith) in
        let within : IsWithin (2 ^ n) (corners_of n (c / 2)) = IsWithin-corners_of n (c / 2) in
        let even : HasEvenBase (corners_of n (c / 2)) = HasEvenBase-corners_of n (c / 2) (omega arith) in
        ⊎_elim
        (λ (left : c ≡ 2 * (c / 2)).
        ap (λ z. corners_of n (mirrored which z)) left
        ∙ ap (corners_of n) (mirrored-left which (c / 2) (omega arith))
        ∙ corners_of-right n (mirrored which (c / 2)) (omega arith)
        ∙ ap (child 1) above
        ∙ over-right which (2 ^ n) (corners_of n (c / 2)) within even
        ∙ ap (turned_over which (2 ^ n)) (sym (corners_of-left n (c / 2) (omega arith)))
        ∙ ap (λ z. turned_over which (2 ^ n) (corners_of n z)) (sym left))
        (λ (right : c ≡ 2 * (c / 2) + 1).
        ap (λ z. corners_of n (mirrored which z)) right
        ∙ ap (corners_of n) (mirrored-right which (c / 2) (omega arith))
        ∙ corners_of-left n (mirrored which (c / 2)) (omega arith)
        ∙ ap (child 0) above
        ∙ over-left which (2 ^ n) (corners_of n (c / 2)) within even
        ∙ ap (turned_over which (2 ^ n)) (sym (corners_of-right n (c / 2) (omega arith)))
        ∙ ap (λ z. turned_over which (2 ^ n) (corners_of n z)) (sym right))
        (left-or-right c))
        (cases_lt c 8)
