-- The steps of a triangle's plane are whole numbers, and by them its height at a held point follows from that at the apex.
use Rattle.std.proofs.Common.{◌≡◌, ℕ, ◌+◌, ◌-◌, ◌*◌, ◌/◌, ◌%◌, ◌^◌, ◌<◌, ◌≤◌, true, List, refl, sym, ◌∙◌, ap, subst, arith, pow-add}
use Rattle.mesh_defs.specs.declared.point.Point.{Point}
use Rattle.mesh_defs.specs.declared.point.Corners.{Corners}
use Rattle.mesh_defs.specs.Triangle.{level_of, IsAddress, corners_of}
use Rattle.mesh_defs.specs.Thickness.{height_of}
use Rattle.mesh_defs.specs.BoundingBox.{point, is_in_closed, holds_point}
use Rattle.bintree_laws.proofs.LatticeLemmas.{scaled, lattice, halved, halved-half, step_of, step_of-power}
use Rattle.bintree_laws.proofs.LatticeLemmas.{corners_of-lattice}
use Rattle.bintree_laws.proofs.LevelLemmas.{level-le}
use Rattle.bintree_laws.proofs.MateLemmas.{cancel}
use Rattle.bintree_laws.proofs.WeightLemmas.{HasArea, HasArea-corners_of}
use Rattle.fit_laws.specs.PlaneHeight.{area_of, weighted, plane_height}
use Rattle.fit_laws.proofs.PlaneLemmas.{area_of-some, plane_height-exact}
use Rattle.mesh_measure.specs.declared.line.Plane.{Plane}
use Rattle.mesh_measure.proofs.LineLemmas.{plane-lines}

-- ---- whole steps

-- corners in steps of s, where twice the area is s * t and t divides 2 ^ n
record IsOnLattice (n a s t q : ℕ) (d : Corners) : Type 0 where
  corners : corners_of n a ≡ scaled s d
  area : area_of (corners_of n a) ≡ s * t
  side : 2 ^ n ≡ t * q

IsOnLattice-corners_of : (n a : ℕ) → IsAddress n a →
    IsOnLattice n a (step_of n (level_of a)) (2 ^ (n + halved (level_of a) - level_of a)) (2 ^ (level_of a - halved (level_of a)))
    (lattice (level_of a) a)
IsOnLattice-corners_of n a address =
    let fits : level_of a ≤ 2 * n = level-le n a address in
    let half : halved (level_of a) ≡ (level_of a + 1) / 2 = halved-half (level_of a) in
    let step : step_of n (level_of a) ≡ 2 ^ (n - halved (level_of a)) =
    step_of-power n (level_of a) (n - halved (level_of a)) refl in
    let t : ℕ = n + halved (level_of a) - level_of a in
    let q : ℕ = level_of a - halved (level_of a) in
    let parts : 2 * n - level_of a ≡ (n - halved (level_of a)) + t = omega arith in
    let whole : n ≡ t + q = omega arith in
    let h = HasArea-corners_of n a fits in
    let size : area_of (corners_of n a) ≡ 2 ^ (2 * n - level_of a) = omega (arith, h.area) in
    record {
      corners = corners_of-lattice n a fits;
      area = size ∙ ap (λ z. 2 ^ z) parts ∙ pow-add 2 (n - halved (level_of a)) t ∙ ap (λ z. z * 2 ^ t) (sym step);
      side = ap (λ z. 2 ^ z) whole ∙ pow-add 2 t q;
    }

-- of two sums that are multiples of s, m times the difference is a multiple of the area
whole-step : (area m s t q i j more less : ℕ) → area ≡ s * t → m ≡ t * q → more ≡ s * i → less ≡ s * j →
    area * (q * i) + m * less ≡ area * (q * j) + m * more
whole-step area m s t q i j more less e f g h = rw (e, f, g, h) (omega arith)

-- so is a sum of coordinates, each times a height
scaled-sum : (s i j k u v w z z0 z1 : ℕ) → i ≡ s * u → j ≡ s * v → k ≡ s * w →
    i * z + j * z0 + k * z1 ≡ s * (u * z + v * z0 + w * z1)
scaled-sum s i j k u v w z z0 z1 e f g = rw (e, f, g) (omega arith)

-- ---- from the apex to a point

-- by both steps, each the difference of two numbers
between : (area m height first x y ax ay high low rise fall gain loss ru rd uu ud : ℕ) → 0 < area →
    area * height + m * (low + y * loss + x * fall) ≡ m * (high + y * gain + x * rise) →
    area * first + m * (low + ay * loss + ax * fall) ≡ m * (high + ay * gain + ax * rise) →
    area * ru + m * fall ≡ area * rd + m * rise → area * uu + m * loss ≡ area * ud + m * gain →
    height + x * rd + y * ud + ax * ru + ay * uu ≡ first + x * ru + y * uu + ax * rd + ay * ud
between area m height first x y ax ay high low rise fall gain loss ru rd uu ud some here there right up =
    let e0 : x * (area * ru + m * fall) ≡ x * (area * rd + m * rise) = ap (λ z. x * z) right in
    let e1 : ax * (area * ru + m * fall) ≡ ax * (area * rd + m * rise) = ap (λ z. ax * z) right in
    let e2 : y * (area * uu + m * loss) ≡ y * (area * ud + m * gain) = ap (λ z. y * z) up in
    let e3 : ay * (area * uu + m * loss) ≡ ay * (area * ud + m * gain) = ap (λ z. ay * z) up in
    cancel area (height + x * rd + y * ud + ax * ru + ay * uu) (first + x * ru + y * uu + ax * rd + ay * ud) some
    (omega arith)

-- so modulo 2 ^ 32
by-steps : (height first x y ax ay right up at ru rd uu ud : ℕ) → height < 2 ^ 32 →
    height + x * rd + y * ud + ax * ru + ay * uu ≡ first + x * ru + y * uu + ax * rd + ay * ud →
    (right + rd) % 2 ^ 32 ≡ ru % 2 ^ 32 → (up + ud) % 2 ^ 32 ≡ uu % 2 ^ 32 →
    (at + ax * right + ay * up) % 2 ^ 32 ≡ first → (at + x * right + y * up) % 2 ^ 32 ≡ height
by-steps height first x y ax ay right up at ru rd uu ud small sum is_right is_up is =
    let r0 : ℕ = (right + rd) / 2 ^ 32 in
    let r1 : ℕ = ru / 2 ^ 32 in
    let u0 : ℕ = (up + ud) / 2 ^ 32 in
    let u1 : ℕ = uu / 2 ^ 32 in
    let a0 : ℕ = (at + ax * right + ay * up) / 2 ^ 32 in
    let r : right + rd + 4294967296 * r1 ≡ ru + 4294967296 * r0 = omega arith in
    let u : up + ud + 4294967296 * u1 ≡ uu + 4294967296 * u0 = omega arith in
    let a : at + ax * right + ay * up ≡ first + 4294967296 * a0 = omega arith in
    let e0 : x * (right + rd + 4294967296 * r1) ≡ x * (ru + 4294967296 * r0) = ap (λ z. x * z) r in
    let e1 : ax * (right + rd + 4294967296 * r1) ≡ ax * (ru + 4294967296 * r0) = ap (λ z. ax * z) r in
    let e2 : y * (up + ud + 4294967296 * u1) ≡ y * (uu + 4294967296 * u0) = ap (λ z. y * z) u in
    let e3 : ay * (up + ud + 4294967296 * u1) ≡ ay * (uu + 4294967296 * u0) = ap (λ z. ay * z) u in
    let all : at + x * right + y * up + 4294967296 * (x * r1 + y * u1 + ax * r0 + ay * u0)
    ≡ height + 4294967296 * (a0 + x * r0 + y * u0 + ax * r1 + ay * u1) = omega arith in
    omega arith

-- ---- the plane of a triangle

-- at the apex the sums differ by the area times the height there
at-apex : (c : Corners) (d z z0 z1 : ℕ) → HasArea c d →
    d * z + (c.v0.y * c.v1.x * z + c.v1.y * c.apex.x * z0 + c.apex.y * c.v0.x * z1
    + c.apex.y * (c.v0.x * z + c.v1.x * z0 + c.apex.x * z1) + c.apex.x * (c.v1.y * z + c.apex.y * z0 + c.v0.y * z1))
    ≡ c.v0.x * c.v1.y * z + c.v1.x * c.apex.y * z0 + c.apex.x * c.v0.y * z1
    + c.apex.y * (c.v1.x * z + c.apex.x * z0 + c.v0.x * z1) + c.apex.x * (c.v0.y * z + c.v1.y * z0 + c.apex.y * z1)
at-apex c d z z0 z1 h = omega (arith, ap (λ k. k * z) h.area)

module _ (n : ℕ) (heights : List ℕ) (a : ℕ) (c : Corners) (z z0 z1 log_area : ℕ) (address : IsAddress n a)
    (is : c ≡ corners_of n a) (one : z ≡ height_of n heights c.apex) (two : z0 ≡ height_of n heights c.v0)
    (three : z1 ≡ height_of n heights c.v1) (power : 2 ^ log_area ≡ area_of c) where
  abbrev plane : Plane
  plane = record {
    high = c.v0.x * c.v1.y * z + c.v1.x * c.apex.y * z0 + c.apex.x * c.v0.y * z1;
    low = c.v0.y * c.v1.x * z + c.v1.y * c.apex.x * z0 + c.apex.y * c.v0.x * z1;
    rise = c.v0.y * z + c.v1.y * z0 + c.apex.y * z1;
    fall = c.v1.y * z + c.apex.y * z0 + c.v0.y * z1;
    up = c.v1.x * z + c.apex.x * z0 + c.v0.x * z1;
    down = c.v0.x * z + c.v1.x * z0 + c.apex.x * z1;
  }

  size : 2 ^ log_area ≡ area_of (corners_of n a)
  size = power ∙ ap area_of is

  some : 0 < 2 ^ log_area
  some = let positive = area_of-some n a address in let same = size in omega arith

  -- at a held point
  on-plane : (x y : ℕ) → holds_point n a (point x y) ≡ true →
      2 ^ log_area * plane_height n heights a (point x y) + 2 ^ n * (plane.low + y * plane.down + x * plane.fall)
      ≡ 2 ^ n * (plane.high + y * plane.up + x * plane.rise)
  on-plane x y held =
      let f : Point → ℕ = height_of n heights in
      let inside : is_in_closed c (point x y) ≡ true =
      subst (λ (d : Corners). is_in_closed d (point x y) ≡ true) (sym is) held in
      let lined = plane-lines c f z z0 z1 plane one two three refl refl refl refl refl refl y x inside in
      let same : weighted (corners_of n a) f (point x y) ≡ weighted c f (point x y) =
      ap (λ (d : Corners). weighted d f (point x y)) (sym is) in
      let exactly : area_of (corners_of n a) * plane_height n heights a (point x y)
      ≡ 2 ^ n * weighted (corners_of n a) f (point x y) = plane_height-exact n heights a (point x y) address in
      let here : 2 ^ log_area * plane_height n heights a (point x y) ≡ 2 ^ n * weighted c f (point x y) =
      ap (λ k. k * plane_height n heights a (point x y)) size ∙ exactly ∙ ap (λ k. 2 ^ n * k) same in
      let scaled_line : 2 ^ n * (weighted c f (point x y) + (plane.low + y * plane.down + x * plane.fall))
      ≡ 2 ^ n * (plane.high + y * plane.up + x * plane.rise) = ap (λ k. 2 ^ n * k) lined in
      omega arith

  -- at the apex
  on-apex : 2 ^ log_area * (2 ^ n * z) + 2 ^ n * (plane.low + c.apex.y * plane.down + c.apex.x * plane.fall)
      ≡ 2 ^ n * (plane.high + c.apex.y * plane.up + c.apex.x * plane.rise)
  on-apex =
      let h : HasArea c (2 ^ (2 * n - level_of a)) =
      subst (λ (d : Corners). HasArea d (2 ^ (2 * n - level_of a))) (sym is) (HasArea-corners_of n a (level-le n a address)) in
      let whole : 2 ^ log_area ≡ 2 ^ (2 * n - level_of a) = omega (arith, power, h.area) in
      let there = at-apex c (2 ^ log_area) z z0 z1 (subst (λ k. HasArea c k) (sym whole) h) in
      let scaled_line : 2 ^ n * (2 ^ log_area * z + (plane.low + c.apex.y * plane.down + c.apex.x * plane.fall))
      ≡ 2 ^ n * (plane.high + c.apex.y * plane.up + c.apex.x * plane.rise) = ap (λ k. 2 ^ n * k) there in
      omega arith

  -- the height at a held point, by the steps
  pub height-by-steps : (x y right up at : ℕ) → plane_height n heights a (point x y) < 2 ^ 32 →
      holds_point n a (point x y) ≡ true →
      ((i j : ℕ) → 2 ^ log_area * i + 2 ^ n * plane.fall ≡ 2 ^ log_area * j + 2 ^ n * plane.rise →
      (right + j) % 2 ^ 32 ≡ i % 2 ^ 32) →
      ((i j : ℕ) → 2 ^ log_area * i + 2 ^ n * plane.down ≡ 2 ^ log_area * j + 2 ^ n * plane.up →
      (up + j) % 2 ^ 32 ≡ i % 2 ^ 32) →
      (at + c.apex.x * right + c.apex.y * up) % 2 ^ 32 ≡ 2 ^ n * z →
      (at + x * right + y * up) % 2 ^ 32 ≡ plane_height n heights a (point x y)
  height-by-steps x y right up at small held across above start =
      let s : ℕ = step_of n (level_of a) in
      let t : ℕ = 2 ^ (n + halved (level_of a) - level_of a) in
      let q : ℕ = 2 ^ (level_of a - halved (level_of a)) in
      let d : Corners = lattice (level_of a) a in
      let l = IsOnLattice-corners_of n a address in
      let at_lattice : c ≡ scaled s d = is ∙ l.corners in
      let area : 2 ^ log_area ≡ s * t = size ∙ l.area in
      let ax : c.apex.x ≡ s * d.apex.x = ap (λ (k : Corners). k.apex.x) at_lattice in
      let ay : c.apex.y ≡ s * d.apex.y = ap (λ (k : Corners). k.apex.y) at_lattice in
      let px : c.v0.x ≡ s * d.v0.x = ap (λ (k : Corners). k.v0.x) at_lattice in
      let py : c.v0.y ≡ s * d.v0.y = ap (λ (k : Corners). k.v0.y) at_lattice in
      let qx : c.v1.x ≡ s * d.v1.x = ap (λ (k : Corners). k.v1.x) at_lattice in
      let qy : c.v1.y ≡ s * d.v1.y = ap (λ (k : Corners). k.v1.y) at_lattice in
      let rise : ℕ = d.v0.y * z + d.v1.y * z0 + d.apex.y * z1 in
      let fall : ℕ = d.v1.y * z + d.apex.y * z0 + d.v0.y * z1 in
      let gain : ℕ = d.v1.x * z + d.apex.x * z0 + d.v0.x * z1 in
      let loss : ℕ = d.v0.x * z + d.v1.x * z0 + d.apex.x * z1 in
      let to_right = whole-step (2 ^ log_area) (2 ^ n) s t q rise fall plane.rise plane.fall area l.side
      (scaled-sum s c.v0.y c.v1.y c.apex.y d.v0.y d.v1.y d.apex.y z z0 z1 py qy ay)
      (scaled-sum s c.v1.y c.apex.y c.v0.y d.v1.y d.apex.y d.v0.y z z0 z1 qy ay py) in
      let to_up = whole-step (2 ^ log_area) (2 ^ n) s t q gain loss plane.up plane.down area l.side
      (scaled-sum s c.v1.x c.apex.x c.v0.x d.v1.x d.apex.x d.v0.x z z0 z1 qx ax px)
      (scaled-sum s c.v0.x c.v1.x c.apex.x d.v0.x d.v1.x d.apex.x z z0 z1 px qx ax) in
      by-steps (plane_height n heights a (point x y)) (2 ^ n * z) x y c.apex.x c.apex.y right up at
      (q * rise) (q * fall) (q * gain) (q * loss) small
      (between (2 ^ log_area) (2 ^ n) (plane_height n heights a (point x y)) (2 ^ n * z) x y c.apex.x c.apex.y plane.high
      plane.low plane.rise plane.fall plane.up plane.down (q * rise) (q * fall) (q * gain) (q * loss) some
      (on-plane x y held) on-apex to_right to_up)
      (across (q * rise) (q * fall) to_right) (above (q * gain) (q * loss) to_up) start
