-- Each loaded point is a corner of the terrain or the centre of a known triangle: in its page's own grid it is the centre
-- of a triangle, or a corner, and then a point of the page above, up to the corners of the coarsest squares.
use Rattle.std.proofs.Common.{◌≡◌, ℕ, zero, suc, ◌+◌, ◌-◌, ◌*◌, ◌/◌, ◌%◌, ◌^◌, ◌<◌, ◌≤◌, ◌⊎◌, inl, inr, Bool, IsTrue}
use Rattle.std.proofs.Common.{true, false, refl, sym, ◌∙◌, ap, subst, arith, ⊎_elim, mul-le-mul_left, pow_pos}
use Rattle.std.proofs.Math.Nat.{pow-succ'}
use Rattle.std.proofs.lemmas.Bool.{cases_lt}
use Rattle.std.proofs.lemmas.Nat.{pow-add}
use Rattle.mesh_defs.specs.declared.point.Point.{Point}
use Rattle.mesh_defs.specs.declared.point.Corners.{Corners}
use Rattle.mesh_defs.specs.Triangle.{base_triangle, child, corners_of, midpoint, IsSplittable, IsCorner}
use Rattle.bintree_laws.specs.Corners.{HasEvenBase, IsInSquare}
use Rattle.bintree_laws.proofs.CornerLemmas.{corners_of-2, corners_of-3, corners_of-left, corners_of-right}
use Rattle.bintree_laws.proofs.LatticeLemmas.{HasEvenBase-corners_of, same_point, scaled}
use Rattle.bintree_laws.proofs.WeightLemmas.{IsMean}
use Rattle.mesh_laws.specs.Vertex.{centre_of, IsSquareCorner, IsCentre}
use Rattle.mesh_laws.proofs.DescentLemmas.{IsDown, IsDown-left, IsDown-right, IsDown-2, IsDown-3, IsSplittable-down}
use Rattle.mesh_laws.proofs.DescentLemmas.{IsAddress-splittable}
use Rattle.fit_laws.proofs.DescentLemmas.{IsOneCorner, IsMean-left, IsMean-right, finest-corner}
use Rattle.mosaic_laws.specs.Tile.{IsTile, in_tile}
use Rattle.mosaic_laws.proofs.AddressLemmas.{in_tile-level, in_tile-big}
use Rattle.page_laws.specs.Pages.{Pages, cuts_to, half, is_turned, half_corners, is_known, page_point}
use Rattle.page_laws.specs.Pages.{square_above, AreOnTerrain, IsLoadedPoint, IsPagePoint, IsPyramid}
use Rattle.page_laws.proofs.HalfLemmas.{half-low, half-level, half-tile}
use Rattle.page_laws.proofs.LoadedLemmas.{page-midpoint, page-middle, even-half}
use Rattle.page_laws.proofs.PointLemmas.{side-even, page-corners, half-page, corners_of-finer}
use Rattle.page_laws.proofs.PyramidLemmas.{known-above, known-page, size}
use Rattle.page_laws.proofs.SquareLemmas.{in_tile-square}

-- ---- in a grid

-- the point is the centre of a triangle that may be split
abbrev IsMiddle : ℕ → Point → Type 0
IsMiddle n p = (t : ℕ) × IsSplittable n t × (centre_of n t ≡ p)

one-corner : (c : Corners) (r : Point) (u v w : ℕ) → IsOneCorner c r u v w → IsCorner c r
one-corner c r u v w (inl e) = inl e.0
one-corner c r u v w (inr (inl e)) = inr (inl e.0)
one-corner c r u v w (inr (inr e)) = inr (inr e.0)

-- a corner of a child is one of the triangle, or its centre
child-corner : (n a i : ℕ) (r : Point) → IsSplittable n a → IsCorner (child i (corners_of n a)) r →
    IsCorner (corners_of n a) r ⊎ IsMiddle n r
child-corner n a i r s (inl e) = inr (a, s, first i e)
  where
    first : (i : ℕ) → r ≡ (child i (corners_of n a)).apex → centre_of n a ≡ r
    first zero e = sym e
    first (suc i) e = sym e
child-corner n a zero r s (inr (inl e)) = inl (inl e)
child-corner n a zero r s (inr (inr e)) = inl (inr (inl e))
child-corner n a (suc i) r s (inr (inl e)) = inl (inr (inr e))
child-corner n a (suc i) r s (inr (inr e)) = inl (inl e)

-- a point of a triangle is one of its corners, or the centre of it or of one below it
middle-below : (n levels a total : ℕ) (r : Point) (u v w : ℕ) → 0 < total → IsDown n levels a →
    IsMean total (corners_of n a) r u v w → IsCorner (corners_of n a) r ⊎ IsMiddle n r
middle-below n zero a total r u v w some d h =
    inl (one-corner (corners_of n a) r u v w (finest-corner n a total r u v w some d h))
middle-below n (suc levels) a total r u v w some d h =
    let c : Corners = corners_of n a in
    let s = IsSplittable-down n levels a d in
    let even : HasEvenBase c = HasEvenBase-corners_of n a s.coarse in
    let left = corners_of-left n a d.low in
    let right = corners_of-right n a d.low in
    ⊎_elim
    (λ less. ⊎_elim (λ corner. child-corner n a 1 r s (subst (λ z. IsCorner z r) right corner)) (λ found. inr found)
    (middle-below n levels (2 * a + 1) total r (2 * v) (w - v) u some (IsDown-right n levels a d)
    (subst (λ z. IsMean total z r (2 * v) (w - v) u) (sym right) (IsMean-right total c r u v w (w - v) even (omega arith) h))))
    (λ least. ⊎_elim (λ corner. child-corner n a 0 r s (subst (λ z. IsCorner z r) left corner)) (λ found. inr found)
    (middle-below n levels (2 * a) total r (2 * w) u (v - w) some (IsDown-left n levels a d)
    (subst (λ z. IsMean total z r (2 * w) u (v - w)) (sym left) (IsMean-left total c r u v w (v - w) even (omega arith) h))))
    (cases_lt v w)

-- the corners of the halves are those of the square
square-corner : (m which : ℕ) (r : Point) → IsCorner (base_triangle m which) r → IsSquareCorner m r
square-corner m zero r (inl e) = rw e (inl refl, inl refl)
square-corner m zero r (inr (inl e)) = rw e (inr refl, inl refl)
square-corner m zero r (inr (inr e)) = rw e (inl refl, inr refl)
square-corner m (suc _) r (inl e) = rw e (inr refl, inr refl)
square-corner m (suc _) r (inr (inl e)) = rw e (inl refl, inr refl)
square-corner m (suc _) r (inr (inr e)) = rw e (inr refl, inl refl)

-- the point as a mean of the corners of the halves
lower-mean : (m u : ℕ) (r : Point) → u + r.x + r.y ≡ m → IsMean m (base_triangle m 0) r u r.x r.y
lower-mean m u r sum = record { sum = sum; x = omega arith; y = omega arith }

upper-mean : (m u i j : ℕ) (r : Point) → i + r.x ≡ m → j + r.y ≡ m → u + m ≡ r.x + r.y →
    IsMean m (base_triangle m 1) r u i j
upper-mean m u i j r e f g =
    let one : u + j ≡ r.x = omega arith in
    let two : u + i ≡ r.y = omega arith in
    record {
      sum = omega arith;
      x = omega (arith, ap (λ z. m * z) one);
      y = omega (arith, ap (λ z. m * z) two);
    }

-- each point of the grid is a corner of the square or the centre of a triangle
grid-point : (n : ℕ) (r : Point) → IsInSquare (2 ^ n) r → IsSquareCorner (2 ^ n) r ⊎ IsMiddle n r
grid-point n r inside =
    let m : ℕ = 2 ^ n in
    let x = inside.x in
    let y = inside.y in
    ⊎_elim
    (λ (under : r.x + r.y < m). ⊎_elim
    (λ corner. inl (square-corner m 0 r (subst (λ z. IsCorner z r) (corners_of-2 n) corner)))
    (λ found. inr found)
    (middle-below n (2 * n) 2 m r (m - (r.x + r.y)) r.x r.y (pow_pos n) (IsDown-2 n)
    (subst (λ z. IsMean m z r (m - (r.x + r.y)) r.x r.y) (sym (corners_of-2 n)) (lower-mean m _ r (omega arith)))))
    (λ (over : m ≤ r.x + r.y). ⊎_elim
    (λ corner. inl (square-corner m 1 r (subst (λ z. IsCorner z r) (corners_of-3 n) corner)))
    (λ found. inr found)
    (middle-below n (2 * n) 3 m r (r.x + r.y - m) (m - r.x) (m - r.y) (pow_pos n) (IsDown-3 n)
    (subst (λ z. IsMean m z r (r.x + r.y - m) (m - r.x) (m - r.y)) (sym (corners_of-3 n))
    (upper-mean m _ _ _ r (omega arith) (omega arith) (omega arith)))))
    (cases_lt (r.x + r.y) m)

-- ---- in a page

-- the centre of a page's triangle is a point of the page
page-centred : (n q p b : ℕ) (t : Point) → IsTile (2 ^ p) (2 ^ p) t → 4 ≤ b → IsSplittable n b →
    centre_of (n + q + p) (in_tile p t b) ≡ page_point n q t (centre_of n b)
page-centred n q p b t tile big s =
    ap (λ (c : Corners). midpoint c.v0 c.v1) (page-corners n q p b t tile big (IsAddress-splittable n b s))
    ∙ page-middle n q t (corners_of n b) (HasEvenBase-corners_of n b s.coarse)

-- and so is that of a half, which is the middle of the square
half-centred : (n q p : ℕ) (t : Point) → IsTile (2 ^ p) (2 ^ p) t → 1 ≤ n →
    centre_of (n + q + p) (half p t 0) ≡ page_point n q t (record { x = 2 ^ n / 2; y = 2 ^ n / 2 })
half-centred n q p t tile some =
    let e = side-even n some in
    let even : (2 ^ n) % 2 ≡ 0 = omega arith in
    ap (λ (c : Corners). midpoint c.v0 c.v1) (half-page n q p t 0 some (omega arith) tile)
    ∙ page-middle n q t (half_corners (2 ^ n) (is_turned p t) 0) (even-half (2 ^ n) (is_turned p t) 0 even)
    ∙ ap (page_point n q t) (middle (2 ^ n) (is_turned p t) even)
  where
    middle : (m : ℕ) (turned : Bool) → m % 2 ≡ 0 → midpoint (half_corners m turned 0).v0 (half_corners m turned 0).v1
        ≡ record { x = m / 2; y = m / 2 }
    middle m false even = same_point _ _ _ _ (omega arith) (omega arith)
    middle m true even = same_point _ _ _ _ (omega arith) (omega arith)

-- a triangle of the two halves has its centre in the middle
half-middle : (n b : ℕ) → 1 ≤ n → 2 ≤ b → b < 4 → centre_of n b ≡ record { x = 2 ^ n / 2; y = 2 ^ n / 2 }
half-middle n b some low less = ⊎_elim
    (λ (first : b < 3).
    let e : b ≡ 2 = omega arith in
    ap (centre_of n) e ∙ ap (λ (c : Corners). midpoint c.v0 c.v1) (corners_of-2 n)
    ∙ same_point _ _ _ _ (omega arith) (omega arith))
    (λ (second : 3 ≤ b).
    let e : b ≡ 3 = omega arith in
    ap (centre_of n) e ∙ ap (λ (c : Corners). midpoint c.v0 c.v1) (corners_of-3 n)
    ∙ same_point _ _ _ _ (omega arith) (omega arith))
    (cases_lt b 3)

-- ---- a corner of a page's square is a point of the page above

corner-coordinate : (h k t i : ℕ) → (i ≡ 0) ⊎ (i ≡ 2 * h) →
    (r : ℕ) × (r ≤ 2 * h) × (k * (2 * h * t + i) ≡ 2 * k * (2 * h * (t / 2) + r))
corner-coordinate h k t i corner =
    let parts : t ≡ 2 * (t / 2) + t % 2 = omega arith in
    let small : h * (t % 2) ≤ h * 1 = mul-le-mul_left h (omega arith) in
    let e : h * t ≡ h * (2 * (t / 2) + t % 2) = ap (λ z. h * z) parts in
    let r : ℕ = h * (t % 2) + i / 2 in
    let half : i ≡ 2 * (i / 2) = ⊎_elim (λ z. omega arith) (λ z. omega arith) corner in
    let most : r ≤ 2 * h = ⊎_elim (λ z. omega arith) (λ z. omega arith) corner in
    let same : 2 * h * t + i ≡ 2 * (2 * h * (t / 2) + r) = omega arith in
    (r, most, ap (λ z. k * z) same ∙ omega arith)

corner-above : (n q : ℕ) (t r : Point) → 1 ≤ n → IsSquareCorner (2 ^ n) r →
    IsPagePoint n (q + 1) (square_above t) (page_point n q t r)
corner-above n q t r some corner =
    let m : 2 ^ n ≡ 2 * 2 ^ (n - 1) = side-even n some in
    let k : 2 ^ (q + 1) ≡ 2 * 2 ^ q = (let e : q + 1 ≡ suc q = omega arith in ap (λ z. 2 ^ z) e ∙ pow-succ' 2 q) in
    let x = corner-coordinate (2 ^ (n - 1)) (2 ^ q) t.x r.x (subst (λ z. (r.x ≡ 0) ⊎ (r.x ≡ z)) m corner.0) in
    let y = corner-coordinate (2 ^ (n - 1)) (2 ^ q) t.y r.y (subst (λ z. (r.y ≡ 0) ⊎ (r.y ≡ z)) m corner.1) in (
      record { x = x.0; y = y.0 },
      record { x = (let a = x.1 in omega arith); y = (let b = y.1 in omega arith) },
      same_point _ _ _ _ (rw (m, k) x.2) (rw (m, k) y.2),
    )

-- ---- in the terrain

module _ (w : Pages) (s : IsPyramid w) where
  -- a corner of the terrain, or the centre of a known triangle
  abbrev pub IsSeen : Point → Type 0
  IsSeen p = IsSquareCorner (2 ^ w.large) p ⊎ IsCentre w.large (is_known w) p

  -- the centre of a triangle of a page
  page-seen : (q : ℕ) (t r : Point) → q ≤ w.top → IsTile (2 ^ cuts_to w q) (2 ^ cuts_to w q) t →
      IsTrue (w.loaded q t) → IsMiddle w.n r → IsCentre w.large (is_known w) (page_point w.n q t r)
  page-seen q t r coarse tile page m =
      let p : ℕ = cuts_to w q in
      let split = m.1 in
      let some = s.some in
      let deep = split.coarse in
      ⊎_elim
      (λ (first : m.0 < 4).
      let level = half-level p t 0 (omega arith) in
      let low = half-low p t 0 (omega arith) in (
        half p t 0,
        known-page w q (half p t 0) low coarse record {
          first = omega arith;
          last = omega arith;
          page = subst (λ u. IsTrue (w.loaded q u)) (sym (half-tile p t 0 (omega arith) tile)) page;
        },
        ap (λ k. centre_of k (half p t 0)) (size w s q coarse)
            ∙ half-centred w.n q p t tile some
            ∙ ap (page_point w.n q t) (sym (half-middle w.n m.0 some split.low first) ∙ m.2),
      ))
      (λ (big : 4 ≤ m.0).
      let level = in_tile-level p t m.0 big in
      let large = in_tile-big p t m.0 big in (
        in_tile p t m.0,
        known-page w q (in_tile p t m.0) (omega arith) coarse record {
          first = omega arith;
          last = omega arith;
          page = subst (λ u. IsTrue (w.loaded q u)) (sym (in_tile-square p t m.0 tile big)) page;
        },
        ap (λ k. centre_of k (in_tile p t m.0)) (size w s q coarse)
            ∙ page-centred w.n q p m.0 t tile big split
            ∙ ap (page_point w.n q t) m.2,
      ))
      (cases_lt m.0 4)

  -- the corner of a coarsest square
  top-seen : (c : Point) → IsInSquare (2 ^ cuts_to w w.top) c →
      IsSeen (record { x = 2 ^ (w.n + w.top) * c.x; y = 2 ^ (w.n + w.top) * c.y })
  top-seen c inside =
      let p : ℕ = cuts_to w w.top in
      let k : ℕ = w.n + w.top in
      let large : w.large ≡ p + k = size w s w.top (omega arith) ∙ omega arith in
      let side : 2 ^ w.large ≡ 2 ^ k * 2 ^ p = ap (λ z. 2 ^ z) large ∙ pow-add 2 p k ∙ omega arith in
      ⊎_elim
      (λ corner. inl (end side corner.0, end side corner.1))
      (λ (m : IsMiddle p c).
      let split = m.1 in
      let deep = split.coarse in
      inr (
        m.0,
        known-above w m.0 split.low deep,
        ap (λ z. centre_of z m.0) large
            ∙ ap (λ (d : Corners). midpoint d.v0 d.v1) (corners_of-finer p k m.0 (omega arith))
            ∙ scaled-middle (2 ^ k) (corners_of p m.0) (HasEvenBase-corners_of p m.0 deep)
            ∙ ap (λ (z : Point). record { x = 2 ^ k * z.x; y = 2 ^ k * z.y }) m.2,
      ))
      (grid-point p c inside)
    where
      end : {i : ℕ} → 2 ^ w.large ≡ 2 ^ (w.n + w.top) * 2 ^ cuts_to w w.top → (i ≡ 0) ⊎ (i ≡ 2 ^ cuts_to w w.top) →
          (2 ^ (w.n + w.top) * i ≡ 0) ⊎ (2 ^ (w.n + w.top) * i ≡ 2 ^ w.large)
      end side (inl e) = inl (ap (λ z. 2 ^ (w.n + w.top) * z) e ∙ omega arith)
      end side (inr e) = inr (ap (λ z. 2 ^ (w.n + w.top) * z) e ∙ sym side)

      scaled-middle : (k : ℕ) (c : Corners) → HasEvenBase c → midpoint (scaled k c).v0 (scaled k c).v1
          ≡ record { x = k * (midpoint c.v0 c.v1).x; y = k * (midpoint c.v0 c.v1).y }
      scaled-middle k c even = same_point _ _ _ _
          (let e = page-midpoint k 0 c.v0.x c.v1.x even.x in omega arith)
          (let e = page-midpoint k 0 c.v0.y c.v1.y even.y in omega arith)

  -- a point of a loaded page, so many resolutions below the coarsest
  point-seen : AreOnTerrain w → (k q : ℕ) (t r : Point) → q + k ≡ w.top → IsTrue (w.loaded q t) →
      IsInSquare (2 ^ w.n) r → IsSeen (page_point w.n q t r)
  point-seen squares zero q t r fits page inside = ⊎_elim
      (λ corner.
      let tile = squares q t (omega arith) page in
      let same : q ≡ w.top = omega arith in
      let x = corner-at tile.column corner.0 in
      let y = corner-at tile.row corner.1 in
      let column = subst (λ z. x.0 ≤ 2 ^ cuts_to w z) same x.1 in
      let row = subst (λ z. y.0 ≤ 2 ^ cuts_to w z) same y.1 in
      subst IsSeen (same_point _ _ _ _ (coordinate x.0 _ same x.2) (coordinate y.0 _ same y.2))
      (top-seen (record { x = x.0; y = y.0 }) record { x = column; y = row }))
      (λ m. inr (page-seen q t r (omega arith) (squares q t (omega arith) page) page m))
      (grid-point w.n r inside)
    where
      corner-at : {m n t i : ℕ} → t < m → (i ≡ 0) ⊎ (i ≡ n) → (c : ℕ) × (c ≤ m) × (n * c ≡ n * t + i)
      corner-at {t = t} less (inl e) = (t, omega arith, omega arith)
      corner-at {t = t} less (inr e) = (t + 1, omega arith, omega arith)

      coordinate : (c i : ℕ) → q ≡ w.top → 2 ^ w.n * c ≡ i → 2 ^ (w.n + w.top) * c ≡ 2 ^ q * i
      coordinate c i same e =
          let f : 2 ^ (w.n + w.top) ≡ 2 ^ w.n * 2 ^ q =
          ap (λ z. 2 ^ (w.n + z)) (sym same) ∙ pow-add 2 w.n q in
          ap (λ z. z * c) f ∙ omega (arith, ap (λ z. 2 ^ q * z) e)
  point-seen squares (suc k) q t r fits page inside = ⊎_elim
      (λ corner.
      let above = corner-above w.n q t r s.some corner in
      subst IsSeen (sym above.2)
      (point-seen squares k (q + 1) (square_above t) above.0 (omega arith) (s.nested q t (omega arith) page) above.1))
      (λ m. inr (page-seen q t r (omega arith) (squares q t (omega arith) page) page m))
      (grid-point w.n r inside)

  -- each loaded point
  pub loaded-seen : AreOnTerrain w → (p : Point) → IsLoadedPoint w p → IsSeen p
  loaded-seen squares p l =
      let coarse = l.coarse in
      subst IsSeen (sym l.point.2)
      (point-seen squares (w.top - l.q) l.q l.square l.point.0 (omega arith) l.page l.point.1)
