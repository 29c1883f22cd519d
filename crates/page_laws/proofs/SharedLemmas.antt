-- The points that a page shares with others: of the coarser page, or of one beside it.
use Rattle.std.proofs.Common.{◌≡◌, ℕ, zero, suc, ◌+◌, ◌-◌, ◌*◌, ◌/◌, ◌%◌, ◌^◌, ◌<◌, ◌≤◌, ◌⊎◌, inl, inr, sym, ◌∙◌}
use Rattle.std.proofs.Common.{ap, subst, arith, ⊎_elim, IsTrue, false}
use Rattle.std.proofs.Math.Pow.{pow_pos}
use Rattle.std.proofs.lemmas.Bool.{cases_lt, both_ways}
use Rattle.std.proofs.lemmas.Nat.{pow-add}
use Rattle.mesh_defs.specs.declared.point.Point.{Point}
use Rattle.bintree_laws.proofs.LatticeLemmas.{same_point}
use Rattle.bintree_laws.proofs.MateLemmas.{cancel, parity}
use Rattle.page_laws.proofs.PointLemmas.{side-even}
use Rattle.page_laws.specs.Pages.{Pages, IsPagePoint, IsLoadedPoint, square_above, AreBeside, IsPyramid}

-- an axis

-- a place on a page's side, at an even number of steps of the terrain, is one of the coarser page
axis-above : (side m t r : ℕ) → side ≡ 2 * m → r ≤ side → (side * t + r) % 2 ≡ 0 →
    (k : ℕ) × (k ≤ side) × (side * t + r ≡ 2 * (side * (t / 2) + k))
axis-above side m t r even small two = ⊎_elim
    (λ (first : t % 2 ≡ 0).
    let e : t ≡ 2 * (t / 2) = omega arith in
    let f : side * t ≡ side * (2 * (t / 2)) = ap (λ k. side * k) e in
    (r / 2, omega arith, omega arith))
    (λ (second : t % 2 ≡ 1).
    let e : t ≡ 2 * (t / 2) + 1 = omega arith in
    let f : side * t ≡ side * (2 * (t / 2) + 1) = ap (λ k. side * k) e in
    (m + r / 2, omega arith, omega arith))
    (parity t)

-- no place is on the sides of two pages that do not meet
axis-far : (side t u r s : ℕ) → 1 ≤ side → s ≤ side → u + 2 ≤ t → side * t + r ≡ side * u + s → ⊥
axis-far side t u r s some small far same =
    let e : t ≡ u + 2 + (t - (u + 2)) = omega arith in
    let f : side * t ≡ side * (u + 2 + (t - (u + 2))) = ap (λ k. side * k) e in
    omega arith

axis-beside : (side t u r s : ℕ) → 1 ≤ side → r ≤ side → s ≤ side → side * t + r ≡ side * u + s →
    (t ≡ u) ⊎ ((t ≡ u + 1) ⊎ (u ≡ t + 1))
axis-beside side t u r s some small small' same = ⊎_elim
    (λ (less : t < u). ⊎_elim
    (λ (near : u < t + 2). inr (inr (omega arith)))
    (λ (far : t + 2 ≤ u). absurd (axis-far side u t s r some small far (sym same)))
    (cases_lt u (t + 2)))
    (λ (more : u ≤ t). ⊎_elim
    (λ (near : t < u + 2). ⊎_elim
    (λ (least : t < u + 1). inl (omega arith))
    (λ (next : u + 1 ≤ t). inr (inl (omega arith)))
    (cases_lt t (u + 1)))
    (λ (far : u + 2 ≤ t). absurd (axis-far side t u r s some small' far same))
    (cases_lt t (u + 2)))
    (cases_lt t u)

-- and at an odd number of steps the two are one
axis-odd : (side m t u r s : ℕ) → side ≡ 2 * m → 1 ≤ side → r ≤ side → s ≤ side → side * t + r ≡ side * u + s →
    (side * t + r) % 2 ≡ 1 → t ≡ u
axis-odd side m t u r s even some small small' same odd =
    let two : side * t ≡ 2 * m * t = ap (λ z. z * t) even in
    ⊎_elim
    (λ is. is)
    (λ next. absurd (⊎_elim
    (λ (e : t ≡ u + 1). let f : side * t ≡ side * (u + 1) = ap (λ k. side * k) e in omega arith)
    (λ (e : u ≡ t + 1). let f : side * u ≡ side * (t + 1) = ap (λ k. side * k) e in omega arith)
    next))
    (axis-beside side t u r s some small small' same)

-- points

-- both coordinates of the point are whole numbers of steps of this resolution
record IsOn (q : ℕ) (p : Point) : Type 0 where
  i : ℕ
  j : ℕ
  column : p.x ≡ 2 ^ q * i
  row : p.y ≡ 2 ^ q * j

point-on : (n q : ℕ) (t p : Point) → IsPagePoint n q t p → IsOn q p
point-on n q t p h = record {
  i = 2 ^ n * t.x + h.0.x;
  j = 2 ^ n * t.y + h.0.y;
  column = ap (λ (z : Point). z.x) h.2;
  row = ap (λ (z : Point). z.y) h.2;
}

steps : (q k i : ℕ) → 2 ^ (q + k) * i ≡ 2 ^ q * (2 ^ k * i)
steps q k i = let e : 2 ^ (q + k) ≡ 2 ^ q * 2 ^ k = pow-add 2 q k in rw e (omega arith)

on-finer : (q k : ℕ) (p : Point) → IsOn (q + k) p → IsOn q p
on-finer q k p h = record {
  i = 2 ^ k * h.i;
  j = 2 ^ k * h.j;
  column = h.column ∙ steps q k h.i;
  row = h.row ∙ steps q k h.j;
}

-- a coordinate that is a whole number of coarser steps is an even number of these
steps-even : (q i a b : ℕ) → a ≡ 2 ^ q * i → a ≡ 2 ^ (q + 1) * b → i % 2 ≡ 0
steps-even q i a b here there =
    let e : i ≡ 2 ^ 1 * b = cancel (2 ^ q) i (2 ^ 1 * b) (pow_pos q) (sym here ∙ there ∙ steps q 1 b) in omega arith

steps-above : (q i k : ℕ) → i ≡ 2 * k → 2 ^ q * i ≡ 2 ^ (q + 1) * k
steps-above q i k twice = ap (λ z. 2 ^ q * z) twice ∙ sym (steps q 1 k)

-- a page's point with both coordinates even is a point of the coarser page
point-above : (n q : ℕ) (t p : Point) → 1 ≤ n → (h : IsPagePoint n q t p) → (2 ^ n * t.x + h.0.x) % 2 ≡ 0 →
    (2 ^ n * t.y + h.0.y) % 2 ≡ 0 → IsPagePoint n (q + 1) (square_above t) p
point-above n q t p some h column row =
    let e = side-even n some in
    let a = axis-above (2 ^ n) (2 ^ (n - 1)) t.x h.0.x e h.1.x column in
    let b = axis-above (2 ^ n) (2 ^ (n - 1)) t.y h.0.y e h.1.y row in (
      record { x = a.0; y = b.0 },
      record { x = a.1; y = b.1 },
      h.2 ∙ same_point (2 ^ q * (2 ^ n * t.x + h.0.x)) (2 ^ q * (2 ^ n * t.y + h.0.y))
          (2 ^ (q + 1) * (2 ^ n * (t.x / 2) + a.0)) (2 ^ (q + 1) * (2 ^ n * (t.y / 2) + b.0))
          (steps-above q (2 ^ n * t.x + h.0.x) (2 ^ n * (t.x / 2) + a.0) a.2)
          (steps-above q (2 ^ n * t.y + h.0.y) (2 ^ n * (t.y / 2) + b.0) b.2),
    )

-- a point of two pages of one resolution, at an odd coordinate
beside-odd : (n q : ℕ) (t u p : Point) → 1 ≤ n → (h : IsPagePoint n q t p) → IsPagePoint n q u p →
    ((2 ^ n * t.x + h.0.x) % 2 ≡ 1) ⊎ ((2 ^ n * t.y + h.0.y) % 2 ≡ 1) → (t ≡ u) ⊎ AreBeside t u
beside-odd n q t u p some h k odd =
    let e = side-even n some in
    let one : 1 ≤ 2 ^ n = pow_pos n in
    let column : 2 ^ n * t.x + h.0.x ≡ 2 ^ n * u.x + k.0.x =
    cancel (2 ^ q) (2 ^ n * t.x + h.0.x) (2 ^ n * u.x + k.0.x) (pow_pos q)
    (ap (λ (z : Point). z.x) (sym h.2 ∙ k.2)) in
    let row : 2 ^ n * t.y + h.0.y ≡ 2 ^ n * u.y + k.0.y =
    cancel (2 ^ q) (2 ^ n * t.y + h.0.y) (2 ^ n * u.y + k.0.y) (pow_pos q)
    (ap (λ (z : Point). z.y) (sym h.2 ∙ k.2)) in
    ⊎_elim
    (λ (odd_column : (2 ^ n * t.x + h.0.x) % 2 ≡ 1).
    let x = axis-odd (2 ^ n) (2 ^ (n - 1)) t.x u.x h.0.x k.0.x e one h.1.x k.1.x column odd_column in
    ⊎_elim
    (λ (y : t.y ≡ u.y). inl (same_point t.x t.y u.x u.y x y))
    (λ next. inr (inr (x, next)))
    (axis-beside (2 ^ n) t.y u.y h.0.y k.0.y one h.1.y k.1.y row))
    (λ (odd_row : (2 ^ n * t.y + h.0.y) % 2 ≡ 1).
    let y = axis-odd (2 ^ n) (2 ^ (n - 1)) t.y u.y h.0.y k.0.y e one h.1.y k.1.y row odd_row in
    ⊎_elim
    (λ (x : t.x ≡ u.x). inl (same_point t.x t.y u.x u.y x y))
    (λ next. inr (inl (y, next)))
    (axis-beside (2 ^ n) t.x u.x h.0.x k.0.x one h.1.x k.1.x column))
    odd

-- loaded pages

module _ (w : Pages) (s : IsPyramid w) (p : Point) where
  -- a point of a page that is a whole number of coarser steps is one of the pages above it
  point-up : (k r : ℕ) (u : Point) → r + k ≤ w.top → IsTrue (w.loaded r u) → IsPagePoint w.n r u p → IsOn (r + k) p →
      (v : Point) × IsTrue (w.loaded (r + k) v) × IsPagePoint w.n (r + k) v p
  point-up zero r u fits page h on =
      let e : r ≡ r + 0 = omega arith in
      (u, subst (λ j. IsTrue (w.loaded j u)) e page, subst (λ j. IsPagePoint w.n j u p) e h)
  point-up (suc k) r u fits page h on =
      let e : r + 1 + k ≡ r + suc k = omega arith in
      let next : IsOn (r + 1) p = on-finer (r + 1) k p (subst (λ j. IsOn j p) (sym e) on) in
      let column = next.column in
      let row = next.row in
      let up = point-up k (r + 1) (square_above u) (omega arith) (s.nested r u (omega arith) page)
      (point-above w.n r u p s.some h
      (steps-even r (2 ^ w.n * u.x + h.0.x) p.x next.i (ap (λ (z : Point). z.x) h.2) column)
      (steps-even r (2 ^ w.n * u.y + h.0.y) p.y next.j (ap (λ (z : Point). z.y) h.2) row))
      (subst (λ j. IsOn j p) (sym e) on) in (
        up.0,
        subst (λ j. IsTrue (w.loaded j up.0)) e up.1,
        subst (λ j. IsPagePoint w.n j up.0 p) e up.2,
      )

  module _ (q : ℕ) (t : Point) (coarse : q < w.top) (none : w.loaded q t ≡ false) (h : IsPagePoint w.n q t p)
      (l : IsLoadedPoint w p) where
    -- at an odd coordinate a loaded point is one of a loaded page beside the page
    shared-odd : ((2 ^ w.n * t.x + h.0.x) % 2 ≡ 1) ⊎ ((2 ^ w.n * t.y + h.0.y) % 2 ≡ 1) →
        (u : Point) × IsTrue (w.loaded q u) × AreBeside t u × IsPagePoint w.n q u p
    shared-odd odd = ⊎_elim
        (λ (coarser : q < l.q).
        let on = point-on w.n l.q l.square p l.point in
        let e : l.q ≡ q + 1 + (l.q - (q + 1)) = omega arith in
        let above : IsOn (q + 1) p = on-finer (q + 1) (l.q - (q + 1)) p (subst (λ j. IsOn j p) e on) in
        let column = steps-even q (2 ^ w.n * t.x + h.0.x) p.x above.i (ap (λ (z : Point). z.x) h.2) above.column in
        let row = steps-even q (2 ^ w.n * t.y + h.0.y) p.y above.j (ap (λ (z : Point). z.y) h.2) above.row in
        absurd (⊎_elim
        (λ (o : (2 ^ w.n * t.x + h.0.x) % 2 ≡ 1). omega arith)
        (λ (o : (2 ^ w.n * t.y + h.0.y) % 2 ≡ 1). omega arith)
        odd))
        (λ (finer : l.q ≤ q).
        let e : l.q + (q - l.q) ≡ q = omega arith in
        let up = point-up (q - l.q) l.q l.square (omega arith) l.page l.point
        (subst (λ j. IsOn j p) (sym e) (point-on w.n q t p h)) in
        let page : IsTrue (w.loaded q up.0) = subst (λ j. IsTrue (w.loaded j up.0)) e up.1 in
        let there : IsPagePoint w.n q up.0 p = subst (λ j. IsPagePoint w.n j up.0 p) e up.2 in
        ⊎_elim
        (λ (same : t ≡ up.0).
        absurd (both_ways (w.loaded q t) none (subst (λ z. IsTrue (w.loaded q z)) (sym same) page)))
        (λ (next : AreBeside t up.0). (up.0, page, next, there))
        (beside-odd w.n q t up.0 p s.some h there odd))
        (cases_lt q l.q)

    -- a loaded point of a page that is not loaded is one of the coarser page, or of a loaded page beside it
    pub shared : IsPagePoint w.n (q + 1) (square_above t) p
        ⊎ ((u : Point) × IsTrue (w.loaded q u) × AreBeside t u × IsPagePoint w.n q u p)
    shared = ⊎_elim
        (λ (column : (2 ^ w.n * t.x + h.0.x) % 2 ≡ 0). ⊎_elim
        (λ (row : (2 ^ w.n * t.y + h.0.y) % 2 ≡ 0). inl (point-above w.n q t p s.some h column row))
        (λ (odd : (2 ^ w.n * t.y + h.0.y) % 2 ≡ 1). inr (shared-odd (inr odd)))
        (parity (2 ^ w.n * t.y + h.0.y)))
        (λ (odd : (2 ^ w.n * t.x + h.0.x) % 2 ≡ 1). inr (shared-odd (inl odd)))
        (parity (2 ^ w.n * t.x + h.0.x))
