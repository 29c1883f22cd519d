-- Corners in tiles: those of the small grid, moved.
use Rattle.std.proofs.Common.{◌≡◌, ℕ, zero, suc, ◌+◌, ◌*◌, ◌/◌, ◌%◌, ◌^◌, ◌<◌, ◌≤◌, sym, ◌∙◌, ap}
use Rattle.std.proofs.Common.{arith, ⊎_elim}
use Rattle.std.proofs.Math.Nat.{pow-succ'}
use Rattle.std.proofs.lemmas.Bool.{cases_lt}
use Rattle.mesh_defs.specs.declared.point.Point.{Point}
use Rattle.mesh_defs.specs.declared.point.Corners.{Corners}
use Rattle.mesh_defs.specs.Triangle.{level_of, base_triangle, child, corners_of, midpoint, IsAddress, IsSplittable}
use Rattle.bintree_laws.specs.Corners.{HasEvenBase}
use Rattle.bintree_laws.proofs.LevelLemmas.{level_of-parent, level-le, left-or-right}
use Rattle.bintree_laws.proofs.CornerLemmas.{corners_of-2, corners_of-3, corners_of-left, corners_of-right}
use Rattle.bintree_laws.proofs.LatticeLemmas.{same_point, same_by_coordinates, HasEvenBase-corners_of}
use Rattle.mesh_laws.proofs.DescentLemmas.{IsAddress-splittable}
use Rattle.mosaic_laws.specs.Tile.{IsTile, quarter, in_tile, placed, moved}
use Rattle.mosaic_laws.specs.Glue.{quarter_in, square_in}
use Rattle.mosaic_laws.proofs.AddressLemmas.{step-back, quarter-at, at-low, level-some, in_tile-left, in_tile-right}
use Rattle.mosaic_laws.proofs.AddressLemmas.{in_tile-quarter, in_tile-big}

-- quarters

-- the lower, left, upper and right quarter of the square of side 2 h
abbrev pub quarter_corners : ℕ → ℕ → Corners
quarter_corners h zero = record {
  apex = record { x = h; y = h };
  v0 = record { x = 0; y = 0 };
  v1 = record { x = 2 * h; y = 0 };
}
quarter_corners h (suc zero) = record {
  apex = record { x = h; y = h };
  v0 = record { x = 0; y = 2 * h };
  v1 = record { x = 0; y = 0 };
}
quarter_corners h (suc (suc zero)) = record {
  apex = record { x = h; y = h };
  v0 = record { x = 2 * h; y = 2 * h };
  v1 = record { x = 0; y = 2 * h };
}
quarter_corners h (suc (suc (suc _))) = record {
  apex = record { x = h; y = h };
  v0 = record { x = 2 * h; y = 0 };
  v1 = record { x = 2 * h; y = 2 * h };
}

-- the addresses 4 to 7 are the quarters
pub quarter-first : (n k : ℕ) → k < 4 → corners_of (suc n) (4 + k) ≡ quarter_corners (2 ^ n) k
quarter-first n zero less =
    corners_of-left (suc n) 2 (omega arith) ∙ ap (child 0) (corners_of-2 (suc n))
    ∙ ap (λ m. child 0 (base_triangle m 0)) (pow-succ' 2 n) ∙ same_by_coordinates _ _ (grind arith)
quarter-first n (suc zero) less =
    corners_of-right (suc n) 2 (omega arith) ∙ ap (child 1) (corners_of-2 (suc n))
    ∙ ap (λ m. child 1 (base_triangle m 0)) (pow-succ' 2 n) ∙ same_by_coordinates _ _ (grind arith)
quarter-first n (suc (suc zero)) less =
    corners_of-left (suc n) 3 (omega arith) ∙ ap (child 0) (corners_of-3 (suc n))
    ∙ ap (λ m. child 0 (base_triangle m 1)) (pow-succ' 2 n) ∙ same_by_coordinates _ _ (grind arith)
quarter-first n (suc (suc (suc zero))) less =
    corners_of-right (suc n) 3 (omega arith) ∙ ap (child 1) (corners_of-3 (suc n))
    ∙ ap (λ m. child 1 (base_triangle m 1)) (pow-succ' 2 n) ∙ same_by_coordinates _ _ (grind arith)
quarter-first n (suc (suc (suc (suc _)))) less = absurd (omega (arith, less))

-- the quadrant of a square
abbrev quadrant : Point → Point → Point
quadrant s q = record { x = 2 * s.x + q.x; y = 2 * s.y + q.y }

-- a grandchild of a quarter of a square is a quarter of a quadrant
quarter-grandchild : (h above which : ℕ) (s : Point) → above < 4 → which < 4 →
    child (which % 2) (child (which / 2) (moved (2 * (2 * h)) s (quarter_corners (2 * h) above)))
    ≡ moved (2 * h) (quadrant s (square_in above (which / 2))) (quarter_corners h (quarter_in above which))
quarter-grandchild h zero zero s a b = same_by_coordinates _ _ (grind arith)
quarter-grandchild h zero (suc zero) s a b = same_by_coordinates _ _ (grind arith)
quarter-grandchild h zero (suc (suc zero)) s a b = same_by_coordinates _ _ (grind arith)
quarter-grandchild h zero (suc (suc (suc zero))) s a b = same_by_coordinates _ _ (grind arith)
quarter-grandchild h (suc zero) zero s a b = same_by_coordinates _ _ (grind arith)
quarter-grandchild h (suc zero) (suc zero) s a b = same_by_coordinates _ _ (grind arith)
quarter-grandchild h (suc zero) (suc (suc zero)) s a b = same_by_coordinates _ _ (grind arith)
quarter-grandchild h (suc zero) (suc (suc (suc zero))) s a b = same_by_coordinates _ _ (grind arith)
quarter-grandchild h (suc (suc zero)) zero s a b = same_by_coordinates _ _ (grind arith)
quarter-grandchild h (suc (suc zero)) (suc zero) s a b = same_by_coordinates _ _ (grind arith)
quarter-grandchild h (suc (suc zero)) (suc (suc zero)) s a b = same_by_coordinates _ _ (grind arith)
quarter-grandchild h (suc (suc zero)) (suc (suc (suc zero))) s a b = same_by_coordinates _ _ (grind arith)
quarter-grandchild h (suc (suc (suc zero))) zero s a b = same_by_coordinates _ _ (grind arith)
quarter-grandchild h (suc (suc (suc zero))) (suc zero) s a b = same_by_coordinates _ _ (grind arith)
quarter-grandchild h (suc (suc (suc zero))) (suc (suc zero)) s a b = same_by_coordinates _ _ (grind arith)
quarter-grandchild h (suc (suc (suc zero))) (suc (suc (suc zero))) s a b = same_by_coordinates _ _ (grind arith)
quarter-grandchild h (suc (suc (suc (suc _)))) which s a b = absurd (omega (arith, a))
quarter-grandchild h above (suc (suc (suc (suc _)))) s a b = absurd (omega (arith, b))

-- the corners of a grandchild
corners_of-grandchild : (n y which : ℕ) → 2 ≤ y → which < 4 →
    corners_of n (4 * y + which) ≡ child (which % 2) (child (which / 2) (corners_of n y))
corners_of-grandchild n y zero low less =
    let e : 4 * y + 0 ≡ 2 * (2 * y) = omega arith in
    rw e (corners_of-left n (2 * y) (omega arith)) ∙ ap (child 0) (corners_of-left n y low)
corners_of-grandchild n y (suc zero) low less =
    let e : 4 * y + 1 ≡ 2 * (2 * y) + 1 = omega arith in
    rw e (corners_of-right n (2 * y) (omega arith)) ∙ ap (child 1) (corners_of-left n y low)
corners_of-grandchild n y (suc (suc zero)) low less =
    let e : 4 * y + 2 ≡ 2 * (2 * y + 1) = omega arith in
    rw e (corners_of-left n (2 * y + 1) (omega arith)) ∙ ap (child 0) (corners_of-right n y low)
corners_of-grandchild n y (suc (suc (suc zero))) low less =
    let e : 4 * y + 3 ≡ 2 * (2 * y + 1) + 1 = omega arith in
    rw e (corners_of-right n (2 * y + 1) (omega arith)) ∙ ap (child 1) (corners_of-right n y low)
corners_of-grandchild n y (suc (suc (suc (suc _)))) low less = absurd (omega (arith, less))

-- the corners of a tile's quarters
quarter-corners : (p n column row k : ℕ) → column < 2 ^ p → row < 2 ^ p → k < 4 →
    corners_of (suc n + p) (quarter p column row k)
    ≡ moved (2 * 2 ^ n) (record { x = column; y = row }) (quarter_corners (2 ^ n) k)
quarter-corners zero n column row k a b small =
    let e : suc n + 0 ≡ suc n = omega arith in
    let c : column ≡ 0 = omega arith in
    let r : row ≡ 0 = omega arith in
    rw (e, c, r) (quarter-first n k small ∙ still (2 * 2 ^ n) (quarter_corners (2 ^ n) k))
  where
    still : (m : ℕ) (c : Corners) → c ≡ moved m (record { x = 0; y = 0 }) c
    still m c = same_by_coordinates _ _ (grind arith)
quarter-corners (suc p) n column row k a b small =
    let e : 2 ^ suc p ≡ 2 * 2 ^ p = pow-succ' 2 p in
    let s = step-back (quarter p (column / 2) (row / 2)) (column % 2) (row % 2) k (omega arith) (omega arith) small in
    deeper s.0 s.1 (quarter (suc p) column row k) s.2.small s.2.less s.2.is s.2.number s.2.square
    (at-low (suc (2 * p)) (quarter p (column / 2) (row / 2) s.0) (quarter-at p (column / 2) (row / 2) s.0 s.2.small))
    (quarter-corners p (suc n) (column / 2) (row / 2) s.0 (omega arith) (omega arith) s.2.small)
  where
    deeper : (above which x : ℕ) → above < 4 → which < 4 → x ≡ 4 * quarter p (column / 2) (row / 2) above + which →
        quarter_in above which ≡ k → square_in above (which / 2) ≡ record { x = column % 2; y = row % 2 } →
        2 ≤ quarter p (column / 2) (row / 2) above →
        corners_of (suc (suc n) + p) (quarter p (column / 2) (row / 2) above)
        ≡ moved (2 * 2 ^ suc n) (record { x = column / 2; y = row / 2 }) (quarter_corners (2 ^ suc n) above) →
        corners_of (suc n + suc p) x
        ≡ moved (2 * 2 ^ n) (record { x = column; y = row }) (quarter_corners (2 ^ n) k)
    deeper above which x fit less is number square low corners =
        let e : suc n + suc p ≡ suc (suc n) + p = omega arith in
        let half : 2 ^ suc n ≡ 2 * 2 ^ n = pow-succ' 2 n in
        let whole : quadrant (record { x = column / 2; y = row / 2 }) (record { x = column % 2; y = row % 2 })
        ≡ record { x = column; y = row } =
        same_point (2 * (column / 2) + column % 2) (2 * (row / 2) + row % 2) column row (omega arith) (omega arith) in
        ap (λ z. corners_of z x) e
        ∙ ap (corners_of (suc (suc n) + p)) is
        ∙ corners_of-grandchild (suc (suc n) + p) (quarter p (column / 2) (row / 2) above) which low less
        ∙ ap (λ c. child (which % 2) (child (which / 2) c)) corners
        ∙ ap (λ z. child (which % 2) (child (which / 2)
        (moved (2 * z) (record { x = column / 2; y = row / 2 }) (quarter_corners z above)))) half
        ∙ quarter-grandchild (2 ^ n) above which (record { x = column / 2; y = row / 2 }) fit less
        ∙ ap (λ q. moved (2 * 2 ^ n) (quadrant (record { x = column / 2; y = row / 2 }) q)
        (quarter_corners (2 ^ n) (quarter_in above which))) square
        ∙ ap (λ s. moved (2 * 2 ^ n) s (quarter_corners (2 ^ n) (quarter_in above which))) whole
        ∙ ap (λ z. moved (2 * 2 ^ n) (record { x = column; y = row }) (quarter_corners (2 ^ n) z)) number

-- children

-- a child of the moved triangle is the moved child
pub moved-child : (side m : ℕ) (t : Point) (c : Corners) → HasEvenBase c →
    child side (moved m t c) ≡ moved m t (child side c)
moved-child zero m t c even = same_by_coordinates _ _ (let f = even.x in let g = even.y in grind arith)
moved-child (suc _) m t c even = same_by_coordinates _ _ (let f = even.x in let g = even.y in grind arith)

module _ (p : ℕ) (t : Point) (tile : IsTile (2 ^ p) (2 ^ p) t) where
  quarters : (n a : ℕ) → 1 ≤ n → 4 ≤ a → a < 8 → corners_of (n + p) (in_tile p t a) ≡ moved (2 ^ n) t (corners_of n a)
  quarters zero a some big less = absurd (omega (arith, some))
  quarters (suc n) a some big less =
      let e : 4 + a % 4 ≡ a = omega arith in
      ap (corners_of (suc n + p)) (in_tile-quarter p t a big less)
      ∙ quarter-corners p n t.x t.y (a % 4) tile.column tile.row (omega arith)
      ∙ ap (λ m. moved m t (quarter_corners (2 ^ n) (a % 4))) (sym (pow-succ' 2 n))
      ∙ ap (λ c. moved (2 ^ suc n) t c) (sym (quarter-first n (a % 4) (omega arith)))
      ∙ ap (λ z. moved (2 ^ suc n) t (corners_of (suc n) z)) e

  -- the corners in the large grid are those in the small grid, moved
  pub in_tile-corners : (n a : ℕ) → 4 ≤ a → IsAddress n a →
      corners_of (n + p) (in_tile p t a) ≡ moved (2 ^ n) t (corners_of n a)
  in_tile-corners n a big address =
      at (suc a) a (omega arith) big (level-le n a address)
    where
      at : (fuel c : ℕ) → c < fuel → 4 ≤ c → level_of c ≤ 2 * n →
          corners_of (n + p) (in_tile p t c) ≡ moved (2 ^ n) t (corners_of n c)
      at zero c enough big fits = absurd (omega arith)
      at (suc fuel) c enough big fits = ⊎_elim
          (λ (small : c < 8). let some = level-some c big in quarters n c (omega arith) big small)
          (λ (large : 8 ≤ c).
          let up = level_of-parent c big in
          let big' = in_tile-big p t (c / 2) (omega arith) in
          let above : corners_of (n + p) (in_tile p t (c / 2)) ≡ moved (2 ^ n) t (corners_of n (c / 2)) =
          at fuel (c / 2) (omega arith) (omega arith) (omega arith) in
          let even : HasEvenBase (corners_of n (c / 2)) = HasEvenBase-corners_of n (c / 2) (omega arith) in
          ⊎_elim
          (λ (left : c ≡ 2 * (c / 2)).
          ap (λ z. corners_of (n + p) (in_tile p t z)) left
          ∙ ap (corners_of (n + p)) (in_tile-left p t (c / 2) (omega arith))
          ∙ corners_of-left (n + p) (in_tile p t (c / 2)) (omega arith)
          ∙ ap (child 0) above
          ∙ moved-child 0 (2 ^ n) t (corners_of n (c / 2)) even
          ∙ ap (λ c. moved (2 ^ n) t c) (sym (corners_of-left n (c / 2) (omega arith)))
          ∙ ap (λ z. moved (2 ^ n) t (corners_of n z)) (sym left))
          (λ (right : c ≡ 2 * (c / 2) + 1).
          ap (λ z. corners_of (n + p) (in_tile p t z)) right
          ∙ ap (corners_of (n + p)) (in_tile-right p t (c / 2) (omega arith))
          ∙ corners_of-right (n + p) (in_tile p t (c / 2)) (omega arith)
          ∙ ap (child 1) above
          ∙ moved-child 1 (2 ^ n) t (corners_of n (c / 2)) even
          ∙ ap (λ c. moved (2 ^ n) t c) (sym (corners_of-right n (c / 2) (omega arith)))
          ∙ ap (λ z. moved (2 ^ n) t (corners_of n z)) (sym right))
          (left-or-right c))
          (cases_lt c 8)

  -- the midpoint of the base of a triangle in the large grid is that in the small grid, moved
  pub in_tile-midpoint : (n a : ℕ) → 4 ≤ a → IsSplittable n a →
      midpoint (corners_of (n + p) (in_tile p t a)).v0 (corners_of (n + p) (in_tile p t a)).v1
      ≡ placed (2 ^ n) t (midpoint (corners_of n a).v0 (corners_of n a).v1)
  in_tile-midpoint n a big s =
      ap (λ (c : Corners). midpoint c.v0 c.v1) (in_tile-corners n a big (IsAddress-splittable n a s))
      ∙ ap (λ (c : Corners). c.apex) (moved-child 0 (2 ^ n) t (corners_of n a) (HasEvenBase-corners_of n a s.coarse))
