-- Addresses in tiles: levels, children, and that each triangle of level 2 p + 1 or deeper lies in one tile, at one
-- address.
use Rattle.std.proofs.Common.{◌≡◌, ℕ, zero, suc, ◌+◌, ◌-◌, ◌*◌, ◌/◌, ◌%◌, ◌^◌, ◌<◌, ◌≤◌, refl, sym, ◌∙◌, ap}
use Rattle.std.proofs.Common.{subst, arith, ⊎_elim}
use Rattle.std.proofs.Math.Pow.{pow_mono}
use Rattle.std.proofs.Math.Nat.{pow-succ'}
use Rattle.std.proofs.lemmas.Bool.{cases_lt}
use Rattle.mesh_defs.specs.declared.point.Point.{Point}
use Rattle.mesh_defs.specs.Triangle.{level_of, IsAddress}
use Rattle.bintree_laws.proofs.LevelLemmas.{IsAtLevel, IsAtLevel-half, IsAtLevel-level_of, level_of-at, level_of-left}
use Rattle.bintree_laws.proofs.LevelLemmas.{level_of-right, level_of-parent, level_of-root, left-or-right, level-le}
use Rattle.bintree_laws.proofs.PairLemmas.{IsAtLevel-quarter, IsAtLevel-grandchild}
use Rattle.bintree_laws.proofs.LatticeLemmas.{same_point}
use Rattle.mesh_laws.proofs.DescentLemmas.{IsAddress-level}
use Rattle.mosaic_laws.specs.Tile.{IsTile, quarter_step, quarter, named_at, in_tile}
use Rattle.mosaic_laws.specs.Glue.{quarter_in, square_in, quarter_of, square_of, prefix_at, number_at, prefix_of, tile_of}
use Rattle.mosaic_laws.specs.Glue.{local_of}

-- quarters of quadrants

-- the quarter of a quadrant as a grandchild of a quarter of the square
pub record IsStep (whole : ℕ → ℕ) (column row k above which : ℕ) : Type 0 where
  pub small : above < 4
  pub less : which < 4
  pub is : quarter_step whole column row k ≡ 4 * whole above + which
  pub number : quarter_in above which ≡ k
  pub square : square_in above (which / 2) ≡ record { x = column; y = row }

pub step-back : (whole : ℕ → ℕ) (column row k : ℕ) → column < 2 → row < 2 → k < 4 →
    (above : ℕ) × (which : ℕ) × IsStep whole column row k above which
step-back whole zero zero zero a b c =
    (0, 1, record { small = omega arith; less = omega arith; is = refl; number = refl; square = refl })
step-back whole zero zero (suc zero) a b c =
    (1, 2, record { small = omega arith; less = omega arith; is = refl; number = refl; square = refl })
step-back whole zero zero (suc (suc zero)) a b c =
    (1, 3, record { small = omega arith; less = omega arith; is = refl; number = refl; square = refl })
step-back whole zero zero (suc (suc (suc zero))) a b c =
    (0, 0, record { small = omega arith; less = omega arith; is = omega arith; number = refl; square = refl })
step-back whole (suc zero) zero zero a b c =
    (0, 2, record { small = omega arith; less = omega arith; is = refl; number = refl; square = refl })
step-back whole (suc zero) zero (suc zero) a b c =
    (0, 3, record { small = omega arith; less = omega arith; is = refl; number = refl; square = refl })
step-back whole (suc zero) zero (suc (suc zero)) a b c =
    (3, 0, record { small = omega arith; less = omega arith; is = omega arith; number = refl; square = refl })
step-back whole (suc zero) zero (suc (suc (suc zero))) a b c =
    (3, 1, record { small = omega arith; less = omega arith; is = refl; number = refl; square = refl })
step-back whole zero (suc zero) zero a b c =
    (1, 0, record { small = omega arith; less = omega arith; is = omega arith; number = refl; square = refl })
step-back whole zero (suc zero) (suc zero) a b c =
    (1, 1, record { small = omega arith; less = omega arith; is = refl; number = refl; square = refl })
step-back whole zero (suc zero) (suc (suc zero)) a b c =
    (2, 2, record { small = omega arith; less = omega arith; is = refl; number = refl; square = refl })
step-back whole zero (suc zero) (suc (suc (suc zero))) a b c =
    (2, 3, record { small = omega arith; less = omega arith; is = refl; number = refl; square = refl })
step-back whole (suc zero) (suc zero) zero a b c =
    (3, 3, record { small = omega arith; less = omega arith; is = refl; number = refl; square = refl })
step-back whole (suc zero) (suc zero) (suc zero) a b c =
    (2, 0, record { small = omega arith; less = omega arith; is = omega arith; number = refl; square = refl })
step-back whole (suc zero) (suc zero) (suc (suc zero)) a b c =
    (2, 1, record { small = omega arith; less = omega arith; is = refl; number = refl; square = refl })
step-back whole (suc zero) (suc zero) (suc (suc (suc zero))) a b c =
    (3, 2, record { small = omega arith; less = omega arith; is = refl; number = refl; square = refl })
step-back whole (suc (suc _)) row k a b c = absurd (omega (arith, a))
step-back whole column (suc (suc _)) k a b c = absurd (omega (arith, b))
step-back whole column row (suc (suc (suc (suc _)))) a b c = absurd (omega (arith, c))

-- and back: each grandchild of a quarter is a quarter of a quadrant
step-forth : (whole : ℕ → ℕ) (above which : ℕ) → above < 4 → which < 4 →
    quarter_step whole (square_in above (which / 2)).x (square_in above (which / 2)).y (quarter_in above which)
    ≡ 4 * whole above + which
step-forth whole zero zero a b = omega arith
step-forth whole zero (suc zero) a b = refl
step-forth whole zero (suc (suc zero)) a b = refl
step-forth whole zero (suc (suc (suc zero))) a b = refl
step-forth whole (suc zero) zero a b = omega arith
step-forth whole (suc zero) (suc zero) a b = refl
step-forth whole (suc zero) (suc (suc zero)) a b = refl
step-forth whole (suc zero) (suc (suc (suc zero))) a b = refl
step-forth whole (suc (suc zero)) zero a b = omega arith
step-forth whole (suc (suc zero)) (suc zero) a b = refl
step-forth whole (suc (suc zero)) (suc (suc zero)) a b = refl
step-forth whole (suc (suc zero)) (suc (suc (suc zero))) a b = refl
step-forth whole (suc (suc (suc zero))) zero a b = omega arith
step-forth whole (suc (suc (suc zero))) (suc zero) a b = refl
step-forth whole (suc (suc (suc zero))) (suc (suc zero)) a b = refl
step-forth whole (suc (suc (suc zero))) (suc (suc (suc zero))) a b = refl
step-forth whole (suc (suc (suc (suc _)))) which a b = absurd (omega (arith, a))
step-forth whole above (suc (suc (suc (suc _)))) a b = absurd (omega (arith, b))

quarter_in-small : (above which : ℕ) → above < 4 → quarter_in above which < 4
quarter_in-small above zero a = omega arith
quarter_in-small above (suc zero) a = a
quarter_in-small above (suc (suc zero)) a = a
quarter_in-small above (suc (suc (suc _))) a = omega arith

square_in-small : (above half : ℕ) → ((square_in above half).x < 2) × ((square_in above half).y < 2)
square_in-small zero zero = (omega arith, omega arith)
square_in-small zero (suc _) = (omega arith, omega arith)
square_in-small (suc zero) zero = (omega arith, omega arith)
square_in-small (suc zero) (suc _) = (omega arith, omega arith)
square_in-small (suc (suc zero)) zero = (omega arith, omega arith)
square_in-small (suc (suc zero)) (suc _) = (omega arith, omega arith)
square_in-small (suc (suc (suc _))) zero = (omega arith, omega arith)
square_in-small (suc (suc (suc _))) (suc _) = (omega arith, omega arith)

-- quarters

-- the quarters are at level 2 p + 1
pub quarter-at : (p column row k : ℕ) → k < 4 → IsAtLevel (suc (2 * p)) (quarter p column row k)
quarter-at zero column row k small = record { low = omega arith; high = omega arith }
quarter-at (suc p) column row k small =
    let e : suc (2 * suc p) ≡ suc (suc (suc (2 * p))) = omega arith in
    let whole : ℕ → ℕ = quarter p (column / 2) (row / 2) in
    let s = step-back (quarter p (column / 2) (row / 2)) (column % 2) (row % 2) k (omega arith) (omega arith) small in
    deeper s.0 s.1 (quarter (suc p) column row k) s.2.is s.2.less
    (quarter-at p (column / 2) (row / 2) s.0 s.2.small)
  where
    deeper : (above which x : ℕ) → x ≡ 4 * quarter p (column / 2) (row / 2) above + which → which < 4 →
        IsAtLevel (suc (2 * p)) (quarter p (column / 2) (row / 2) above) → IsAtLevel (suc (2 * suc p)) x
    deeper above which x is less at =
        let e : suc (2 * suc p) ≡ suc (suc (suc (2 * p))) = omega arith in
        let up : x / 4 ≡ quarter p (column / 2) (row / 2) above = omega arith in
        rw e (IsAtLevel-grandchild (suc (2 * p)) x (subst (IsAtLevel (suc (2 * p))) (sym up) at))

-- which quarter of which tile it is
pub record IsQuarter (p column row k x : ℕ) : Type 0 where
  pub number : quarter_of p x ≡ k
  pub square : square_of p x ≡ record { x = column; y = row }

quarter-below : (p column row k above which x y : ℕ) → x ≡ 4 * y + which → which < 4 →
    IsQuarter p (column / 2) (row / 2) above y → quarter_in above which ≡ k →
    square_in above (which / 2) ≡ record { x = column % 2; y = row % 2 } → IsQuarter (suc p) column row k x
quarter-below p column row k above which x y is less h number square =
    let up : x / 4 ≡ y = omega arith in
    let last : x % 4 ≡ which = omega arith in
    record {
      number = rw (up, last, h.number) number;
      square = rw (up, last, h.number, h.square, square)
          (same_point (2 * (column / 2) + column % 2) (2 * (row / 2) + row % 2) column row (omega arith) (omega arith));
    }

pub quarter-back : (p column row k : ℕ) → column < 2 ^ p → row < 2 ^ p → k < 4 →
    IsQuarter p column row k (quarter p column row k)
quarter-back zero column row k a b small = record {
  number = omega arith;
  square = same_point 0 0 column row (omega arith) (omega arith);
}
quarter-back (suc p) column row k a b small =
    let e : 2 ^ suc p ≡ 2 * 2 ^ p = pow-succ' 2 p in
    let s = step-back (quarter p (column / 2) (row / 2)) (column % 2) (row % 2) k (omega arith) (omega arith) small in
    quarter-below p column row k s.0 s.1 (quarter (suc p) column row k) (quarter p (column / 2) (row / 2) s.0)
    s.2.is s.2.less (quarter-back p (column / 2) (row / 2) s.0 (omega arith) (omega arith) s.2.small) s.2.number
    s.2.square

pub quarter_of-small : (p x : ℕ) → quarter_of p x < 4
quarter_of-small zero x = omega arith
quarter_of-small (suc p) x = quarter_in-small (quarter_of p (x / 4)) (x % 4) (quarter_of-small p (x / 4))

pub square_of-small : (p x : ℕ) → ((square_of p x).x < 2 ^ p) × ((square_of p x).y < 2 ^ p)
square_of-small zero x = (omega arith, omega arith)
square_of-small (suc p) x =
    let e : 2 ^ suc p ≡ 2 * 2 ^ p = pow-succ' 2 p in
    let h = square_of-small p (x / 4) in
    let s = square_in-small (quarter_of p (x / 4)) (x % 4 / 2) in
    let a = h.0 in let b = h.1 in let c = s.0 in let d = s.1 in
    (omega arith, omega arith)

-- each triangle of the level is one of them
pub quarter-forth : (p x : ℕ) → IsAtLevel (suc (2 * p)) x →
    quarter p (square_of p x).x (square_of p x).y (quarter_of p x) ≡ x
quarter-forth zero x at = let low = at.low in let high = at.high in omega arith
quarter-forth (suc p) x at =
    let e : suc (2 * suc p) ≡ suc (suc (suc (2 * p))) = omega arith in
    let up : IsAtLevel (suc (2 * p)) (x / 4) = IsAtLevel-quarter (suc (2 * p)) x (rw e at at) in
    let small = square_in-small (quarter_of p (x / 4)) (x % 4 / 2) in
    joined (square_of p (x / 4)) (square_in (quarter_of p (x / 4)) (x % 4 / 2)) (quarter_of p (x / 4)) small.0 small.1
    (quarter-forth p (x / 4) up)
    (step-forth (quarter p (square_of p (x / 4)).x (square_of p (x / 4)).y) (quarter_of p (x / 4)) (x % 4)
    (quarter_of-small p (x / 4)) (omega arith))
  where
    joined : (s q : Point) (k : ℕ) → q.x < 2 → q.y < 2 → quarter p s.x s.y k ≡ x / 4 →
        quarter_step (quarter p s.x s.y) q.x q.y (quarter_in k (x % 4)) ≡ 4 * quarter p s.x s.y k + x % 4 →
        quarter_step (quarter p ((2 * s.x + q.x) / 2) ((2 * s.y + q.y) / 2)) ((2 * s.x + q.x) % 2) ((2 * s.y + q.y) % 2)
        (quarter_in k (x % 4)) ≡ x
    joined s q k a b above is =
        let i : (2 * s.x + q.x) / 2 ≡ s.x = omega arith in
        let j : (2 * s.y + q.y) / 2 ≡ s.y = omega arith in
        let c : (2 * s.x + q.x) % 2 ≡ q.x = omega arith in
        let d : (2 * s.y + q.y) % 2 ≡ q.y = omega arith in
        rw (i, j, c, d) (omega arith)

-- children

-- what is 4 or more is below 2 or 3
pub level-some : (a : ℕ) → 4 ≤ a → 1 ≤ level_of a
level-some a big = let e = level_of-parent a big in omega arith

-- the left child
pub in_tile-left : (p : ℕ) (t : Point) (a : ℕ) → 4 ≤ a → in_tile p t (2 * a) ≡ 2 * in_tile p t a
unfolding in_tile
in_tile-left p t a big =
    let bit : 2 * a % 2 ≡ 0 = omega arith in
    let half : 2 * a / 2 ≡ a = omega arith in
    let l = level_of-left a (omega arith) in
    let some = level-some a big in
    let step : level_of (2 * a) - 1 ≡ suc (level_of a - 1) = omega arith in
    rw (step, bit, half) (omega arith)

-- the right child
pub in_tile-right : (p : ℕ) (t : Point) (a : ℕ) → 4 ≤ a → in_tile p t (2 * a + 1) ≡ 2 * in_tile p t a + 1
unfolding in_tile
in_tile-right p t a big =
    let bit : (2 * a + 1) % 2 ≡ 1 = omega arith in
    let half : (2 * a + 1) / 2 ≡ a = omega arith in
    let l = level_of-right a (omega arith) in
    let some = level-some a big in
    let step : level_of (2 * a + 1) - 1 ≡ suc (level_of a - 1) = omega arith in
    rw (step, bit, half) (omega arith)

-- the quarters themselves
pub in_tile-quarter : (p : ℕ) (t : Point) (a : ℕ) → 4 ≤ a → a < 8 → in_tile p t a ≡ quarter p t.x t.y (a % 4)
unfolding in_tile
in_tile-quarter p t a big less =
    let level : level_of a ≡ 1 = level_of-at 1 a record { low = omega arith; high = omega arith } in
    let step : level_of a - 1 ≡ zero = omega arith in
    rw step refl

-- the parent, and which child it is
pub in_tile-parent : (p : ℕ) (t : Point) (a : ℕ) → 8 ≤ a →
    (in_tile p t a / 2 ≡ in_tile p t (a / 2)) × (in_tile p t a % 2 ≡ a % 2)
in_tile-parent p t a big = ⊎_elim
    (λ (even : a ≡ 2 * (a / 2)).
    let e : in_tile p t a ≡ 2 * in_tile p t (a / 2) =
    ap (in_tile p t) even ∙ in_tile-left p t (a / 2) (omega arith) in (omega arith, omega arith))
    (λ (odd : a ≡ 2 * (a / 2) + 1).
    let e : in_tile p t a ≡ 2 * in_tile p t (a / 2) + 1 =
    ap (in_tile p t) odd ∙ in_tile-right p t (a / 2) (omega arith) in (omega arith, omega arith))
    (left-or-right a)

-- levels

-- so many levels below the quarters
IsAtLevel-named : (levels p : ℕ) (t : Point) (a : ℕ) → IsAtLevel (levels + suc (2 * p)) (named_at levels p t a)
IsAtLevel-named zero p t a =
    let e : 0 + suc (2 * p) ≡ suc (2 * p) = omega arith in rw e (quarter-at p t.x t.y (a % 4) (omega arith))
IsAtLevel-named (suc levels) p t a =
    let e : suc levels + suc (2 * p) ≡ suc (levels + suc (2 * p)) = omega arith in
    let half : (2 * named_at levels p t (a / 2) + a % 2) / 2 ≡ named_at levels p t (a / 2) = omega arith in
    rw e (IsAtLevel-half (levels + suc (2 * p)) (2 * named_at levels p t (a / 2) + a % 2)
    (subst (IsAtLevel (levels + suc (2 * p))) (sym half) (IsAtLevel-named levels p t (a / 2))))

-- what is at a level is an address
pub at-low : (level a : ℕ) → IsAtLevel level a → 2 ≤ a
at-low level a at =
    let one : 1 ≤ level + 1 = omega arith in let e : 2 ^ 1 ≤ 2 ^ (level + 1) = pow_mono one in
    let low = at.low in omega arith

module _ (p : ℕ) (t : Point) where
  in_tile-at : (a : ℕ) → 4 ≤ a → IsAtLevel (level_of a + 2 * p) (in_tile p t a)
  unfolding in_tile
  in_tile-at a big =
      let some = level-some a big in
      let e : level_of a - 1 + suc (2 * p) ≡ level_of a + 2 * p = omega arith in
      subst (λ k. IsAtLevel k (named_at (level_of a - 1) p t a)) e (IsAtLevel-named (level_of a - 1) p t a)

  -- a triangle is 2 p levels deeper in the large grid
  pub in_tile-level : (a : ℕ) → 4 ≤ a → level_of (in_tile p t a) ≡ level_of a + 2 * p
  in_tile-level a big = level_of-at (level_of a + 2 * p) (in_tile p t a) (in_tile-at a big)

  -- it is neither 2 nor 3
  pub in_tile-big : (a : ℕ) → 4 ≤ a → 4 ≤ in_tile p t a
  in_tile-big a big =
      let some = level-some a big in
      let two : 2 ≤ level_of a + 2 * p + 1 = omega arith in
      let e : 2 ^ 2 ≤ 2 ^ (level_of a + 2 * p + 1) = pow_mono two in
      let low = (in_tile-at a big).low in omega arith

  -- and one of the large grid, if it is one of the small grid
  pub in_tile-address : (n a : ℕ) → 4 ≤ a → IsAddress n a → IsAddress (n + p) (in_tile p t a)
  in_tile-address n a big address =
      let fits = level-le n a address in
      let level = in_tile-level a big in
      let low = in_tile-big a big in
      IsAddress-level (n + p) (in_tile p t a) (omega arith) (omega arith)

  -- the other way round
  pub in_tile-inside : (n a : ℕ) → 4 ≤ a → IsAddress (n + p) (in_tile p t a) → IsAddress n a
  in_tile-inside n a big address =
      let fits = level-le (n + p) (in_tile p t a) address in
      let level = in_tile-level a big in
      IsAddress-level n a (omega arith) (omega arith)

-- from a triangle to its tile

-- half of what is at a level below the first is a level higher
at-half : (k y : ℕ) → IsAtLevel (suc k) y → IsAtLevel k (y / 2)
at-half k y at =
    let some : 2 ≤ y = at-low (suc k) y at in
    let level : level_of y ≡ suc k = level_of-at (suc k) y at in
    ⊎_elim
    (λ (small : y < 4). let z = level_of-root y some small in absurd (omega arith))
    (λ (big : 4 ≤ y).
    let e = level_of-parent y big in
    let up : level_of (y / 2) ≡ k = omega arith in
    subst (λ j. IsAtLevel j (y / 2)) up (IsAtLevel-level_of (y / 2) (omega arith)))
    (cases_lt y 4)

-- the triangle so many levels above
IsAtLevel-prefix : (levels level x : ℕ) → IsAtLevel (levels + level) x → IsAtLevel level (prefix_at levels x)
IsAtLevel-prefix zero level x at = let e : 0 + level ≡ level = omega arith in rw e at at
IsAtLevel-prefix (suc levels) level x at =
    IsAtLevel-prefix levels level (x / 2) (at-half (levels + level) x
    (let e : suc levels + level ≡ suc (levels + level) = omega arith in rw e at at))

-- the number of x below its quarter is at that level
IsAtLevel-number : (levels p x : ℕ) → IsAtLevel (suc levels) (number_at levels p x)
IsAtLevel-number zero p x = let small = quarter_of-small p x in record { low = omega arith; high = omega arith }
IsAtLevel-number (suc levels) p x =
    let half : (2 * number_at levels p (x / 2) + x % 2) / 2 ≡ number_at levels p (x / 2) = omega arith in
    IsAtLevel-half (suc levels) (2 * number_at levels p (x / 2) + x % 2)
    (subst (IsAtLevel (suc levels)) (sym half) (IsAtLevel-number levels p (x / 2)))

-- and it leads back to x
named-number : (levels p x : ℕ) → IsAtLevel (suc (2 * p)) (prefix_at levels x) →
    named_at levels p (square_of p (prefix_at levels x)) (number_at levels p x) ≡ x
named-number zero p x at =
    let small = quarter_of-small p x in
    let bits : (4 + quarter_of p x) % 4 ≡ quarter_of p x = omega arith in rw bits (quarter-forth p x at)
named-number (suc levels) p x at =
    let half : (2 * number_at levels p (x / 2) + x % 2) / 2 ≡ number_at levels p (x / 2) = omega arith in
    let bit : (2 * number_at levels p (x / 2) + x % 2) % 2 ≡ x % 2 = omega arith in
    let above : named_at levels p (square_of p (prefix_at levels (x / 2))) (number_at levels p (x / 2)) ≡ x / 2 =
    named-number levels p (x / 2) at in
    rw (half, bit, above) (omega arith)

module _ (p x : ℕ) (low : 2 ≤ x) (deep : 2 * p < level_of x) where
  prefix : IsAtLevel (suc (2 * p)) (prefix_of p x)
  prefix =
      let e : level_of x - (2 * p + 1) + suc (2 * p) ≡ level_of x = omega arith in
      IsAtLevel-prefix (level_of x - (2 * p + 1)) (suc (2 * p)) x (rw e (IsAtLevel-level_of x low))

  -- its tile is one
  pub tile-is : IsTile (2 ^ p) (2 ^ p) (tile_of p x)
  tile-is = let h = square_of-small p (prefix_of p x) in record { column = h.0; row = h.1 }

  -- its address there is at this level
  pub local-level : level_of (local_of p x) ≡ level_of x - 2 * p
  local-level =
      let e = level_of-at (suc (level_of x - (2 * p + 1))) (local_of p x)
      (IsAtLevel-number (level_of x - (2 * p + 1)) p x) in
      omega arith

  -- and is neither 2 nor 3
  pub local-big : 4 ≤ local_of p x
  local-big =
      let at = IsAtLevel-number (level_of x - (2 * p + 1)) p x in
      let two : 2 ≤ suc (level_of x - (2 * p + 1)) + 1 = omega arith in
      let e : 2 ^ 2 ≤ 2 ^ (suc (level_of x - (2 * p + 1)) + 1) = pow_mono two in
      let least = at.low in omega arith

  -- its triangle in the tile is x
  pub in_tile-local : in_tile p (tile_of p x) (local_of p x) ≡ x
  unfolding in_tile
  in_tile-local =
      let level = local-level in
      let e : level_of (local_of p x) - 1 ≡ level_of x - (2 * p + 1) = omega arith in
      ap (λ k. named_at k p (tile_of p x) (local_of p x)) e
      ∙ named-number (level_of x - (2 * p + 1)) p x prefix

  -- an address of the small grid, if x is one of the large grid
  pub local-address : (n : ℕ) → IsAddress (n + p) x → IsAddress n (local_of p x)
  local-address n address =
      let fits = level-le (n + p) x address in
      let level = local-level in
      let big = local-big in
      IsAddress-level n (local_of p x) (omega arith) (omega arith)

-- and back

prefix-named : (levels p : ℕ) (t : Point) (a : ℕ) →
    (k : ℕ) × (k < 4) × (prefix_at levels (named_at levels p t a) ≡ quarter p t.x t.y k)
prefix-named zero p t a = (a % 4, omega arith, refl)
prefix-named (suc levels) p t a =
    let half : (2 * named_at levels p t (a / 2) + a % 2) / 2 ≡ named_at levels p t (a / 2) = omega arith in
    rw half (prefix-named levels p t (a / 2))

number-named : (levels p : ℕ) (t : Point) (a : ℕ) → IsTile (2 ^ p) (2 ^ p) t → IsAtLevel (suc levels) a →
    number_at levels p (named_at levels p t a) ≡ a
number-named zero p t a tile at =
    let low = at.low in let high = at.high in
    let e = (quarter-back p t.x t.y (a % 4) tile.column tile.row (omega arith)).number in omega arith
number-named (suc levels) p t a tile at =
    let half : (2 * named_at levels p t (a / 2) + a % 2) / 2 ≡ named_at levels p t (a / 2) = omega arith in
    let bit : (2 * named_at levels p t (a / 2) + a % 2) % 2 ≡ a % 2 = omega arith in
    let above : number_at levels p (named_at levels p t (a / 2)) ≡ a / 2 =
    number-named levels p t (a / 2) tile (at-half (suc levels) a at) in
    rw (half, bit, above) (omega arith)

module _ (p : ℕ) (t : Point) (a : ℕ) (tile : IsTile (2 ^ p) (2 ^ p) t) (big : 4 ≤ a) where
  depth : level_of (in_tile p t a) - (2 * p + 1) ≡ level_of a - 1
  depth = let e = in_tile-level p t a big in omega arith

  -- the tile of a triangle of tile t is t
  pub tile-in_tile : tile_of p (in_tile p t a) ≡ t
  unfolding in_tile
  tile-in_tile =
      let q = prefix-named (level_of a - 1) p t a in
      ap (λ k. square_of p (prefix_at k (in_tile p t a))) depth
      ∙ ap (square_of p) q.2
      ∙ (quarter-back p t.x t.y q.0 tile.column tile.row q.1).square

  -- and its address there is that address
  pub local-in_tile : local_of p (in_tile p t a) ≡ a
  unfolding in_tile
  local-in_tile =
      let some = level-some a big in
      let e : suc (level_of a - 1) ≡ level_of a = omega arith in
      let at : IsAtLevel (suc (level_of a - 1)) a = rw e (IsAtLevel-level_of a (omega arith)) in
      ap (λ k. number_at k p (in_tile p t a)) depth ∙ number-named (level_of a - 1) p t a tile at

-- no two addresses have one triangle
pub in_tile-unique : (p : ℕ) (t : Point) (a c : ℕ) → IsTile (2 ^ p) (2 ^ p) t → 4 ≤ a → 4 ≤ c →
    in_tile p t a ≡ in_tile p t c → a ≡ c
in_tile-unique p t a c tile big large same =
    sym (local-in_tile p t a tile big) ∙ ap (local_of p) same ∙ local-in_tile p t c tile large

-- and no two tiles
pub in_tile-apart : (p : ℕ) (t u : Point) (a c : ℕ) → IsTile (2 ^ p) (2 ^ p) t → IsTile (2 ^ p) (2 ^ p) u → 4 ≤ a →
    4 ≤ c → in_tile p t a ≡ in_tile p u c → t ≡ u
in_tile-apart p t u a c tile other big large same =
    sym (tile-in_tile p t a tile big) ∙ ap (tile_of p) same ∙ tile-in_tile p u c other large
