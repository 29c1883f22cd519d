-- Required points: a triangle has one inside an edge exactly if it is, or lies above, a triangle with that midpoint.
use Rattle.std.proofs.Common.{◌≡◌, ℕ, zero, suc, ◌+◌, ◌-◌, ◌*◌, ◌/◌, ◌^◌, ◌<◌, ◌≤◌, ◌⊎◌, inl, inr, Bool, IsTrue}
use Rattle.std.proofs.Common.{refl, sym, ◌∙◌, ap, subst, arith, ⊎_elim}
use Rattle.mesh_defs.specs.declared.point.Point.{Point}
use Rattle.mesh_defs.specs.declared.point.Corners.{Corners}
use Rattle.mesh_defs.specs.Triangle.{level_of, corners_of, child, midpoint, IsAddress, IsSplittable, IsEdge}
use Rattle.mesh_defs.specs.Tiling.{IsBetween, IsStrictlyBetween}
use Rattle.bintree_laws.specs.Corners.{IsWithin, HasEvenBase, IsCounterclockwise}
use Rattle.bintree_laws.proofs.LevelLemmas.{level_of-parent, left-or-right, level-le}
use Rattle.bintree_laws.proofs.CornerLemmas.{corners_of-left, corners_of-right, IsWithin-corners_of}
use Rattle.bintree_laws.proofs.LatticeLemmas.{HasEvenBase-corners_of}
use Rattle.mesh_laws.specs.Ancestors.{is_above}
use Rattle.mesh_laws.proofs.WayLemmas.{Way, IsRun-first_half, IsRun-second_half, IsInside-between}
use Rattle.mesh_laws.proofs.WayLemmas.{IsInside-first_half}
use Rattle.mesh_laws.proofs.WayLemmas.{IsInside-second_half, IsInside-middle, IsStrictlyBetween-inside}
use Rattle.mesh_laws.proofs.WayLemmas.{IsStrictlyBetween-reversed}
use Rattle.mesh_laws.proofs.TurnLemmas.{IsTurned, leg, three, IsRun-base}
use Rattle.mesh_laws.proofs.DescentLemmas.{forked_of, IsDown-splittable, IsDown-address, IsAddress-splittable}
use Rattle.mesh_laws.proofs.OrientationLemmas.{counterclockwise}
use Rattle.mesh_laws.proofs.ConformityLemmas.{IsUnder, self, below, between_ends, HasCentre, point_on_edge}
use Rattle.mesh_laws.proofs.ConformityLemmas.{member_above}
use Rattle.mesh_laws.proofs.ConverseLemmas.{IsAddress-parent, under-above}
use Rattle.fit_laws.specs.Required.{IsTestFor}
use Rattle.fit_laws.specs.Points.{IsOnBorder, HasInside, IsPointTest}

-- a point of the border on a line from the apex to the middle

-- a product of a positive number is 0 where the other factor is
no_product : (u d : ℕ) → 0 < d → u * d ≡ 0 → u ≡ 0
no_product zero d some none = refl
no_product (suc u) d some none = let e : suc u * d ≡ u * d + d = omega arith in absurd (omega arith)

-- two distances from a side, weighted by two positive numbers
both-none : (u v d e : ℕ) → 0 < d → 0 < e → u * d + v * e ≡ 0 → (u ≡ 0) × (v ≡ 0)
both-none u v d e some more sum = (no_product u d some (omega arith), no_product v e more (omega arith))

-- on the lower side of an axis
low-side : (ax ay mx my sx sy u v d e : ℕ) → ax ≡ sx + u → mx ≡ sx + v → (ay + d ≡ sy) × (sy + e ≡ my) →
    ax * my + mx * sy + sx * ay ≡ ay * mx + my * sx + sy * ax → u * e + v * d ≡ 0
low-side ax ay mx my sx sy u v d e hu hv h line =
    let hd = h.0 in let he = h.1 in
    omega (
      arith,
      ap (λ t. t * my) hu,
      ap (λ t. t * sy) hu,
      ap (λ t. t * sy) hv,
      ap (λ t. t * ay) hv,
      ap (λ t. u * t) he,
      ap (λ t. v * t) hd,
    )

-- on the upper side
high-side : (ax ay mx my sx sy u v d e : ℕ) → sx ≡ ax + u → sx ≡ mx + v → (ay + d ≡ sy) × (sy + e ≡ my) →
    ax * my + mx * sy + sx * ay ≡ ay * mx + my * sx + sy * ax → u * e + v * d ≡ 0
high-side ax ay mx my sx sy u v d e hu hv h line =
    let hd = h.0 in let he = h.1 in
    omega (
      arith,
      ap (λ t. t * my) hu,
      ap (λ t. t * sy) hu,
      ap (λ t. t * ay) hv,
      ap (λ t. t * sy) hv,
      ap (λ t. u * t) he,
      ap (λ t. v * t) hd,
    )

-- both ends are as far from the low side as the point, which no end is beyond
both-low : (ax ay mx my sx sy : ℕ) → sx ≤ ax → sx ≤ mx → IsBetween ax mx sx ⊎ IsBetween ay my sy →
    ax * my + mx * sy + sx * ay ≡ ay * mx + my * sx + sy * ax → (ax ≡ sx) × (mx ≡ sx)
both-low ax ay mx my sx sy a b (inl (inl h)) line = let g = h.0 in absurd (omega arith)
both-low ax ay mx my sx sy a b (inl (inr h)) line = let g = h.0 in absurd (omega arith)
both-low ax ay mx my sx sy a b (inr (inl h)) line =
    let g = h.0 in let k = h.1 in
    let none = both-none (ax - sx) (mx - sx) (my - sy) (sy - ay) (omega arith) (omega arith)
    (low-side ax ay mx my sx sy (ax - sx) (mx - sx) (sy - ay) (my - sy) (omega arith) (omega arith)
    (omega arith, omega arith) line) in (omega (arith, none.0), omega (arith, none.1))
both-low ax ay mx my sx sy a b (inr (inr h)) line =
    let g = h.0 in let k = h.1 in
    let none = both-none (mx - sx) (ax - sx) (ay - sy) (sy - my) (omega arith) (omega arith)
    (low-side mx my ax ay sx sy (mx - sx) (ax - sx) (sy - my) (ay - sy) (omega arith) (omega arith)
    (omega arith, omega arith) (omega arith)) in (omega (arith, none.1), omega (arith, none.0))

-- the same at the high side
both-high : (ax ay mx my sx sy : ℕ) → ax ≤ sx → mx ≤ sx → IsBetween ax mx sx ⊎ IsBetween ay my sy →
    ax * my + mx * sy + sx * ay ≡ ay * mx + my * sx + sy * ax → (ax ≡ sx) × (mx ≡ sx)
both-high ax ay mx my sx sy a b (inl (inl h)) line = let g = h.1 in absurd (omega arith)
both-high ax ay mx my sx sy a b (inl (inr h)) line = let g = h.1 in absurd (omega arith)
both-high ax ay mx my sx sy a b (inr (inl h)) line =
    let g = h.0 in let k = h.1 in
    let none = both-none (sx - ax) (sx - mx) (my - sy) (sy - ay) (omega arith) (omega arith)
    (high-side ax ay mx my sx sy (sx - ax) (sx - mx) (sy - ay) (my - sy) (omega arith) (omega arith)
    (omega arith, omega arith) line) in (omega (arith, none.0), omega (arith, none.1))
both-high ax ay mx my sx sy a b (inr (inr h)) line =
    let g = h.0 in let k = h.1 in
    let none = both-none (sx - mx) (sx - ax) (ay - sy) (sy - my) (omega arith) (omega arith)
    (high-side mx my ax ay sx sy (sx - mx) (sx - ax) (sy - my) (ay - sy) (omega arith) (omega arith)
    (omega arith, omega arith) (omega arith)) in (omega (arith, none.1), omega (arith, none.0))

-- a triangle whose corners have one coordinate in common is flat
flat : (k px qx ay py qy : ℕ) → px ≡ k → qx ≡ k → ay * px + py * qx + qy * k < k * py + px * qy + qx * ay → ⊥
flat k px qx ay py qy hp hq h = absurd (omega (
  arith,
  ap (λ t. ay * t) hp,
  ap (λ t. t * qy) hp,
  ap (λ t. py * t) hq,
  ap (λ t. t * ay) hq,
))

-- no point of the border lies inside the line from the apex to the middle of the base
not_on_split : (m : ℕ) (c : Corners) (s : Point) → IsWithin m c → HasEvenBase c → IsCounterclockwise c →
    IsOnBorder m s → IsStrictlyBetween c.apex (midpoint c.v0 c.v1) s → ⊥
not_on_split m c s within even turn border b =
    let a = within.apex_x in let d = within.apex_y in let f = within.v0_x in let g = within.v0_y in
    let h = within.v1_x in let k = within.v1_y in let ex = even.x in let ey = even.y in
    let line = b.on_line in
    ⊎_elim
    (λ (left : s.x ≡ 0).
    let e = both-low c.apex.x c.apex.y ((c.v0.x + c.v1.x) / 2) ((c.v0.y + c.v1.y) / 2) s.x s.y (omega arith)
    (omega arith)
    b.between line in
    let one = e.0 in let two = e.1 in
    flat c.apex.x c.v0.x c.v1.x c.apex.y c.v0.y c.v1.y (omega arith) (omega arith) turn)
    (⊎_elim
    (λ (right : s.x ≡ m).
    let e = both-high c.apex.x c.apex.y ((c.v0.x + c.v1.x) / 2) ((c.v0.y + c.v1.y) / 2) s.x s.y (omega arith)
    (omega arith) b.between line in
    let one = e.0 in let two = e.1 in
    flat c.apex.x c.v0.x c.v1.x c.apex.y c.v0.y c.v1.y (omega arith) (omega arith) turn)
    (⊎_elim
    (λ (bottom : s.y ≡ 0).
    let e = both-low c.apex.y c.apex.x ((c.v0.y + c.v1.y) / 2) ((c.v0.x + c.v1.x) / 2) s.y s.x (omega arith)
    (omega arith)
    (swapped b.between) (omega arith) in
    let one = e.0 in let two = e.1 in
    flat c.apex.y c.v1.y c.v0.y c.apex.x c.v1.x c.v0.x (omega arith) (omega arith) (omega arith))
    (λ (top : s.y ≡ m).
    let e = both-high c.apex.y c.apex.x ((c.v0.y + c.v1.y) / 2) ((c.v0.x + c.v1.x) / 2) s.y s.x (omega arith)
    (omega arith) (swapped b.between) (omega arith) in
    let one = e.0 in let two = e.1 in
    flat c.apex.y c.v1.y c.v0.y c.apex.x c.v1.x c.v0.x (omega arith) (omega arith) (omega arith))))
    border
  where
    swapped : {P Q : Type 0} → P ⊎ Q → Q ⊎ P
    swapped (inl h) = inr h
    swapped (inr h) = inl h

-- halves of a base

module _ (w : Way) (k : ℕ) (c : Corners) (s : Point) (some : 0 < k) (t : IsTurned w (leg w k) c) where
  -- what is inside the first half is inside the base
  first-base : IsStrictlyBetween c.v0 (midpoint c.v0 c.v1) s → IsStrictlyBetween c.v0 c.v1 s
  first-base b =
      let base = IsRun-base w k c t in
      IsStrictlyBetween-inside (three w) (2 * k) c.v0 c.v1 s base
      (IsInside-first_half (three w) k c.v0 s
      (IsInside-between (three w) k c.v0 (midpoint c.v0 c.v1) s some (IsRun-first_half (three w) k c.v0 c.v1 base) b))

  -- and so is what is inside the second
  second-base : IsStrictlyBetween (midpoint c.v0 c.v1) c.v1 s → IsStrictlyBetween c.v0 c.v1 s
  second-base b =
      let base = IsRun-base w k c t in
      IsStrictlyBetween-inside (three w) (2 * k) c.v0 c.v1 s base
      (IsInside-second_half (three w) k c.v0 (midpoint c.v0 c.v1) s (IsRun-first_half (three w) k c.v0 c.v1 base)
      (IsInside-between (three w) k (midpoint c.v0 c.v1) c.v1 s some (IsRun-second_half (three w) k c.v0 c.v1 base) b))

  -- and the middle
  middle-base : IsStrictlyBetween c.v0 c.v1 (midpoint c.v0 c.v1)
  middle-base =
      let base = IsRun-base w k c t in
      IsStrictlyBetween-inside (three w) (2 * k) c.v0 c.v1 (midpoint c.v0 c.v1) base
      (IsInside-middle (three w) k c.v0 (midpoint c.v0 c.v1) some (IsRun-first_half (three w) k c.v0 c.v1 base))

-- up from a triangle

-- what is known of a triangle that can be halved
module _ (n v : ℕ) (s : Point) (splittable : IsSplittable n v) (border : IsOnBorder (2 ^ n) s) where
  abbrev own : Corners
  own = corners_of n v

  split : IsStrictlyBetween own.apex (midpoint own.v0 own.v1) s → ⊥
  split =
      not_on_split (2 ^ n) own s (IsWithin-corners_of n v) (HasEvenBase-corners_of n v splittable.coarse)
      (counterclockwise n v (IsAddress-splittable n v splittable)) border

  up-left : (p q : Point) → IsEdge (child 0 own) p q → IsStrictlyBetween p q s → HasInside n v s
  up-left p q (inl e) b =
      absurd (split (IsStrictlyBetween-reversed (midpoint own.v0 own.v1) own.apex s
      (between_ends p q s (midpoint own.v0 own.v1) own.apex e.0 e.1 b)))
  up-left p q (inr (inl e)) b = (p, q, inl e, b)
  up-left p q (inr (inr e)) b =
      let f = forked_of n (2 * n - level_of v - 1) v (IsDown-splittable n v splittable) in (
        own.v0,
        own.v1,
        inr (inl (refl, refl)),
        first-base f.0 f.1 own s f.2 f.3 (between_ends p q s own.v0 (midpoint own.v0 own.v1) e.0 e.1 b),
      )

  up-right : (p q : Point) → IsEdge (child 1 own) p q → IsStrictlyBetween p q s → HasInside n v s
  up-right p q (inl e) b =
      let f = forked_of n (2 * n - level_of v - 1) v (IsDown-splittable n v splittable) in (
        own.v0,
        own.v1,
        inr (inl (refl, refl)),
        second-base f.0 f.1 own s f.2 f.3 (between_ends p q s (midpoint own.v0 own.v1) own.v1 e.0 e.1 b),
      )
  up-right p q (inr (inl e)) b = (p, q, inr (inr e), b)
  up-right p q (inr (inr e)) b =
      absurd (split (between_ends p q s own.apex (midpoint own.v0 own.v1) e.0 e.1 b))

-- a point of the border that is inside an edge is inside an edge of the parent
inside-parent : (n a : ℕ) (s : Point) → IsAddress n a → 4 ≤ a → IsOnBorder (2 ^ n) s → HasInside n a s →
    HasInside n (a / 2) s
inside-parent n a s address big border h =
    let fits = level-le n a address in
    let e = level_of-parent a big in
    let up : IsSplittable n (a / 2) = record { low = omega arith; coarse = omega arith } in
    ⊎_elim
    (λ (left : a ≡ 2 * (a / 2)).
    let same : corners_of n a ≡ child 0 (corners_of n (a / 2)) =
    ap (corners_of n) left ∙ corners_of-left n (a / 2) (omega arith) in
    up-left n (a / 2) s up border h.0 h.1 (subst (λ c. IsEdge c h.0 h.1) same h.2) h.3)
    (λ (right : a ≡ 2 * (a / 2) + 1).
    let same : corners_of n a ≡ child 1 (corners_of n (a / 2)) =
    ap (corners_of n) right ∙ corners_of-right n (a / 2) (omega arith) in
    up-right n (a / 2) s up border h.0 h.1 (subst (λ c. IsEdge c h.0 h.1) same h.2) h.3)
    (left-or-right a)

-- and of each triangle above
inside-above : (n a r : ℕ) (s : Point) → IsUnder a r → IsAddress n r → IsOnBorder (2 ^ n) s → HasInside n r s →
    IsAddress n a × HasInside n a s
inside-above n a r s self address border h = (address, h)
inside-above n a r s (below y big u) address border h =
    inside-above n a (y / 2) s u (IsAddress-parent n y address big) border (inside-parent n y s address big border h)

-- the middle of the base is inside it
inside-middle : (n r : ℕ) → IsSplittable n r →
    HasInside n r (midpoint (corners_of n r).v0 (corners_of n r).v1)
inside-middle n r splittable =
    let f = forked_of n (2 * n - level_of r - 1) r (IsDown-splittable n r splittable) in (
      (corners_of n r).v0,
      (corners_of n r).v1,
      inr (inl (refl, refl)),
      middle-base f.0 f.1 (corners_of n r) (midpoint (corners_of n r).v0 (corners_of n r).v1) f.2 f.3,
    )

-- the test by points is a test for the triangles with these midpoints
pub point-test : (n : ℕ) (points : Point → Bool) (required wanted : ℕ → Bool) →
    IsPointTest n points required wanted → IsTestFor n required wanted
point-test n points required wanted test = record {
  told = λ a r low is place.
      let q = (test.splits r).0 is in
      let s : Point = midpoint (corners_of n r).v0 (corners_of n r).v1 in
      let up = inside-above n a r (midpoint (corners_of n r).v0 (corners_of n r).v1) (under a r place)
      (IsAddress-splittable n r q.0) (test.border (midpoint (corners_of n r).v0 (corners_of n r).v1) q.1)
      (inside-middle n r q.0) in
      (test.told a).1 (up.0, (midpoint (corners_of n r).v0 (corners_of n r).v1, up.1, q.1));
  forced = λ a h other closed splits.
      let q = (test.told a).0 h in
      let i : HasInside n a q.1.0 = q.1.1 in
      let d : HasCentre n a q.1.0 =
      point_on_edge n (2 * n - level_of a) a i.0 i.1 q.1.0 (IsDown-address n a q.0) i.2 i.3 in
      member_above other closed.parent a d.0 d.2
      (splits d.0 ((test.splits d.0).1 (d.1, subst (λ z. IsTrue (points z)) (sym d.3) q.1.2)));
}
  where
    under : (a r : ℕ) → (r ≡ a) ⊎ IsTrue (is_above a r) → IsUnder a r
    under a r (inl same) = subst (λ z. IsUnder a z) (sym same) self
    under a r (inr above) = let u = under-above a r above in below r u.1 u.2
