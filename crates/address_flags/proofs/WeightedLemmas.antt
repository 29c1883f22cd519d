-- Weights of a point at the corners of a triangle, from the halves of the square down to the triangle whose centre it is.
use Rattle.std.proofs.Common.{◌≡◌, inl, inr, ℕ, zero, ◌+◌, ◌-◌, ◌*◌, ◌/◌, ◌%◌, ◌^◌, ◌<◌, ◌≤◌, sym, ap, subst}
use Rattle.std.proofs.Common.{arith, ⊎_elim}
use Rattle.std.proofs.lemmas.Bool.{cases_lt}
use Rattle.mesh_defs.specs.declared.point.Point.{Point}
use Rattle.mesh_defs.specs.declared.point.Corners.{Corners}
use Rattle.mesh_defs.specs.Triangle.{level_of, base_triangle, corners_of, IsAddress}
use Rattle.mesh_defs.specs.Triangle.{IsSplittable}
use Rattle.bintree_laws.specs.Corners.{IsInSquare}
use Rattle.bintree_laws.proofs.CornerLemmas.{corners_of-2, corners_of-3, corners_of-left, corners_of-right}
use Rattle.bintree_laws.proofs.LatticeLemmas.{HasEvenBase-corners_of, same_point}
use Rattle.bintree_laws.proofs.LevelLemmas.{level-le}
use Rattle.bintree_laws.proofs.MateLemmas.{cancel}
use Rattle.bintree_laws.proofs.WeightLemmas.{IsMean}
use Rattle.mesh_laws.proofs.DescentLemmas.{IsDown, IsAddress-down, IsDown-left, IsDown-right}
use Rattle.mesh_laws.proofs.DescentLemmas.{IsDown-splittable, IsDown-2, IsDown-3}
use Rattle.fit_laws.proofs.DescentLemmas.{IsMean-left, IsMean-right, finest-corner}
use Rattle.mesh_laws.specs.Vertex.{centre_of, IsSquareCorner}
use Rattle.address_flags.specs.declared.place.Place.{Place}
use Rattle.address_flags.specs.Weighted.{IsCentred, IsWeighted}

-- a place with a mean of which no corner has all
weighted-made : (n total : ℕ) (r : Point) (q : Place) (a u v w : ℕ) → q.triangle ≡ a → q.weights.apex ≡ u →
    q.weights.v0 ≡ v → q.weights.v1 ≡ w → IsAddress n a → IsMean total (corners_of n a) r u v w →
    u < total → v < total → w < total → IsWeighted n total r q
weighted-made n total r q a u v w at apex first second address mean off_apex off_v0 off_v1 =
    let triangle : IsMean total (corners_of n q.triangle) r u v w =
    subst (λ z. IsMean total (corners_of n z) r u v w) (sym at) mean in
    let one : IsMean total (corners_of n q.triangle) r q.weights.apex v w =
    subst (λ z. IsMean total (corners_of n q.triangle) r z v w) (sym apex) triangle in
    let two : IsMean total (corners_of n q.triangle) r q.weights.apex q.weights.v0 w =
    subst (λ z. IsMean total (corners_of n q.triangle) r q.weights.apex z w) (sym first) one in
    let all : IsMean total (corners_of n q.triangle) r q.weights.apex q.weights.v0 q.weights.v1 =
    subst (λ z. IsMean total (corners_of n q.triangle) r q.weights.apex q.weights.v0 z) (sym second) two in
    record {
      address = subst (λ z. IsAddress n z) (sym at) address;
      sum = all.sum;
      x = all.x;
      y = all.y;
      off_apex = omega arith;
      off_v0 = omega arith;
      off_v1 = omega arith;
    }

-- the halves of the square

-- in one coordinate
sum-scaled : (m i j k : ℕ) → i + j ≡ k → m * k ≡ i * m + j * m
sum-scaled m i j k e = omega (arith, ap (λ z. m * z) e)

-- a point of the lower half that is no corner of the square
pub weighted-lower : (n total : ℕ) (r : Point) (q : Place) → total ≡ 2 ^ n → r.x + r.y ≤ total →
    (IsSquareCorner total r → ⊥) → q.triangle ≡ 2 → q.weights.apex ≡ total - r.x - r.y → q.weights.v0 ≡ r.x →
    q.weights.v1 ≡ r.y → IsWeighted n total r q
weighted-lower n total r q is under corner at apex first second =
    let u : ℕ = total - r.x - r.y in
    let mean : IsMean total (base_triangle total 0) r u r.x r.y = record {
      sum = omega arith;
      x = omega arith;
      y = omega arith;
    } in
    weighted-made n total r q 2 u r.x r.y at apex first second (IsAddress-down n (2 * n) 2 (IsDown-2 n))
    (subst (λ c. IsMean total c r u r.x r.y) (sym (corners_of-2 n))
    (subst (λ m. IsMean total (base_triangle m 0) r u r.x r.y) is mean))
    (⊎_elim (λ less. less) (λ all. absurd (corner (inl (omega arith), inl (omega arith)))) (cases_lt u total))
    (⊎_elim (λ less. less) (λ all. absurd (corner (inr (omega arith), inl (omega arith)))) (cases_lt r.x total))
    (⊎_elim (λ less. less) (λ all. absurd (corner (inl (omega arith), inr (omega arith)))) (cases_lt r.y total))

-- a point of the upper half that is none
pub weighted-upper : (n total : ℕ) (r : Point) (q : Place) → total ≡ 2 ^ n → IsInSquare total r →
    total ≤ r.x + r.y → (IsSquareCorner total r → ⊥) → q.triangle ≡ 3 → q.weights.apex ≡ r.x + r.y - total →
    q.weights.v0 ≡ total - r.x → q.weights.v1 ≡ total - r.y → IsWeighted n total r q
weighted-upper n total r q is square over corner at apex first second =
    let u : ℕ = r.x + r.y - total in
    let v : ℕ = total - r.x in
    let w : ℕ = total - r.y in
    let x = square.x in
    let y = square.y in
    let mean : IsMean total (base_triangle total 1) r u v w = record {
      sum = omega arith;
      x = omega (arith, sum-scaled total u w r.x (omega arith));
      y = omega (arith, sum-scaled total u v r.y (omega arith));
    } in
    weighted-made n total r q 3 u v w at apex first second (IsAddress-down n (2 * n) 3 (IsDown-3 n))
    (subst (λ c. IsMean total c r u v w) (sym (corners_of-3 n))
    (subst (λ m. IsMean total (base_triangle m 1) r u v w) is mean))
    (⊎_elim (λ less. less) (λ all. absurd (corner (inr (omega arith), inr (omega arith)))) (cases_lt u total))
    (⊎_elim (λ less. less) (λ all. absurd (corner (inl (omega arith), inr (omega arith)))) (cases_lt v total))
    (⊎_elim (λ less. less) (λ all. absurd (corner (inr (omega arith), inl (omega arith)))) (cases_lt w total))

-- the midpoint

-- in one coordinate
middle : (k total x u w a i j : ℕ) → 0 < k → u + k + w ≡ total → (u ≡ 0) × (k ≡ w) → total * x ≡ u * a + k * i + w * j →
    (i + j) % 2 ≡ 0 → (i + j) / 2 ≡ x
middle k total x u w a i j some sum is e even =
    let twice : i + j ≡ 2 * ((i + j) / 2) = omega arith in
    let nothing : u * a ≡ 0 * a = ap (λ z. z * a) is.0 in
    let other : w * j ≡ k * j = ap (λ z. z * j) (sym is.1) in
    let all : 2 * k ≡ total = (let first = is.0 in let second = is.1 in omega arith) in
    let scaled : 2 * k * x ≡ total * x = ap (λ z. z * x) all in
    let ends : k * (i + j) ≡ k * (2 * ((i + j) / 2)) = ap (λ z. k * z) twice in
    cancel (2 * k) ((i + j) / 2) x (omega arith) (omega arith)

-- down

module _ (n total : ℕ) (r : Point) (p : Place) (h : IsWeighted n total r p) where
  -- the point is the mean of the corners
  weighted-mean : IsMean total (corners_of n p.triangle) r p.weights.apex p.weights.v0 p.weights.v1
  weighted-mean = record { sum = h.sum; x = h.x; y = h.y }

  -- so the triangle is no finest one
  pub weighted-splittable : IsSplittable n p.triangle
  weighted-splittable = ⊎_elim
      (λ coarse. record { low = h.address.low; coarse = coarse })
      (λ fine.
      let fits = level-le n p.triangle h.address in
      let down : IsDown n zero p.triangle = record { low = h.address.low; height = omega arith } in
      let a = h.off_apex in
      let b = h.off_v0 in
      let d = h.off_v1 in
      let sum = h.sum in
      absurd (⊎_elim
      (λ one. let e = one.1 in let f = one.2 in omega arith)
      (λ rest. ⊎_elim
      (λ one. let e = one.1 in let f = one.2 in omega arith)
      (λ one. let e = one.1 in let f = one.2 in omega arith)
      rest)
      (finest-corner n p.triangle total r p.weights.apex p.weights.v0 p.weights.v1 (omega arith) down weighted-mean)))
      (cases_lt (level_of p.triangle) (2 * n))

  -- twice the lesser weight of the ends of the base is not all, unless the point is the midpoint
  twice-lesser : (k : ℕ) → (IsCentred p → ⊥) → k ≤ p.weights.v0 → k ≤ p.weights.v1 → 2 * k < total
  twice-lesser k off first second = ⊎_elim
      (λ less. less)
      (λ all. let sum = h.sum in absurd (off (omega arith, omega arith)))
      (cases_lt (2 * k) total)

  -- where v0 has no less weight than v1, the left child has the point
  pub weighted-left : (q : Place) → p.weights.v1 ≤ p.weights.v0 → (IsCentred p → ⊥) → q.triangle ≡ 2 * p.triangle →
      q.weights.apex ≡ 2 * p.weights.v1 → q.weights.v0 ≡ p.weights.apex →
      q.weights.v1 ≡ p.weights.v0 - p.weights.v1 → IsWeighted n total r q
  weighted-left q nearer off at apex first second =
      let t : ℕ = p.triangle in
      let c : Corners = corners_of n t in
      let d : ℕ = p.weights.v0 - p.weights.v1 in
      let s : IsSplittable n t = weighted-splittable in
      let low = h.address.low in
      let less = h.off_v0 in
      weighted-made n total r q (2 * t) (2 * p.weights.v1) p.weights.apex d at apex first second
      (IsAddress-down n (2 * n - level_of t - 1) (2 * t)
      (IsDown-left n (2 * n - level_of t - 1) t (IsDown-splittable n t s)))
      (subst (λ z. IsMean total z r (2 * p.weights.v1) p.weights.apex d) (sym (corners_of-left n t low))
      (IsMean-left total c r p.weights.apex p.weights.v0 p.weights.v1 d (HasEvenBase-corners_of n t s.coarse)
      (omega arith) weighted-mean))
      (twice-lesser p.weights.v1 off nearer (omega arith)) h.off_apex (omega arith)

  -- and else the right one
  pub weighted-right : (q : Place) → p.weights.v0 ≤ p.weights.v1 → (IsCentred p → ⊥) →
      q.triangle ≡ 2 * p.triangle + 1 → q.weights.apex ≡ 2 * p.weights.v0 →
      q.weights.v0 ≡ p.weights.v1 - p.weights.v0 → q.weights.v1 ≡ p.weights.apex → IsWeighted n total r q
  weighted-right q nearer off at apex first second =
      let t : ℕ = p.triangle in
      let c : Corners = corners_of n t in
      let d : ℕ = p.weights.v1 - p.weights.v0 in
      let s : IsSplittable n t = weighted-splittable in
      let low = h.address.low in
      let less = h.off_v1 in
      weighted-made n total r q (2 * t + 1) (2 * p.weights.v0) d p.weights.apex at apex first second
      (IsAddress-down n (2 * n - level_of t - 1) (2 * t + 1)
      (IsDown-right n (2 * n - level_of t - 1) t (IsDown-splittable n t s)))
      (subst (λ z. IsMean total z r (2 * p.weights.v0) d p.weights.apex) (sym (corners_of-right n t low))
      (IsMean-right total c r p.weights.apex p.weights.v0 p.weights.v1 d (HasEvenBase-corners_of n t s.coarse)
      (omega arith) weighted-mean))
      (twice-lesser p.weights.v0 off (omega arith) nearer) (omega arith) h.off_apex

  -- with nothing at the apex, and as much at the one end of the base as at the other, the point is the midpoint
  pub weighted-centre : IsCentred p → centre_of n p.triangle ≡ r
  weighted-centre is =
      let c : Corners = corners_of n p.triangle in
      let even = HasEvenBase-corners_of n p.triangle weighted-splittable.coarse in
      let sum = h.sum in
      let off = h.off_v0 in
      let some : 0 < p.weights.v0 = (let nothing = is.0 in let same = is.1 in omega arith) in
      same_point ((c.v0.x + c.v1.x) / 2) ((c.v0.y + c.v1.y) / 2) r.x r.y
      (middle p.weights.v0 total r.x p.weights.apex p.weights.v1 c.apex.x c.v0.x c.v1.x some sum is h.x even.x)
      (middle p.weights.v0 total r.y p.weights.apex p.weights.v1 c.apex.y c.v0.y c.v1.y some sum is h.y even.y)
