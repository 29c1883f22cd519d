-- How far the surface is from the planes of the triangles at and above a known one, at its centre. The centre is a mean
-- of the corners of each of them: on the way up the weight of a child's apex, the midpoint of the base, goes to the two
-- ends, and the mean of the corners' heights changes by at most half the total times the bend at the midpoint.
use Rattle.std.proofs.Common.{◌≡◌, ℕ, zero, suc, ◌+◌, ◌-◌, ◌*◌, ◌/◌, ◌%◌, ◌^◌, ◌<◌, ◌≤◌, ◌⊎◌, ◌&&◌, inl, inr, max, Bool}
use Rattle.std.proofs.Common.{IsTrue, List, Contains, true, false, sym, ◌∙◌, ap, subst, arith, ⊎_elim, mul-le-mul_left, pow_pos}
use Rattle.std.proofs.Math.Nat.{mul-sub, le_of_mul-le-mul_left}
use Rattle.std.proofs.lemmas.Bool.{cases_lt, cases_Bool, le-leb, and_from, both_ways}
use Rattle.mesh_defs.specs.declared.point.Point.{Point}
use Rattle.mesh_defs.specs.declared.point.Corners.{Corners}
use Rattle.mesh_defs.specs.Triangle.{level_of, corners_of, child, midpoint, IsAddress, IsSplittable, IsCorner}
use Rattle.mesh_defs.specs.ClosedSet.{IsClosed, leaves_of}
use Rattle.mesh_defs.specs.MeshText.{has_corner}
use Rattle.mesh_defs.specs.Thickness.{height_of, apart}
use Rattle.mesh_defs.specs.BoundingBox.{is_left_or_on, is_in_closed, holds_point}
use Rattle.mesh_defs.proofs.ListLemmas.{Contains-in, Any-in}
use Rattle.bintree_laws.specs.Corners.{HasEvenBase}
use Rattle.bintree_laws.proofs.LevelLemmas.{level-le, level_of-parent}
use Rattle.bintree_laws.proofs.CornerLemmas.{corners_of-left, corners_of-right}
use Rattle.bintree_laws.proofs.LatticeLemmas.{HasEvenBase-corners_of}
use Rattle.bintree_laws.proofs.MateLemmas.{cancel}
use Rattle.bintree_laws.proofs.WeightLemmas.{HasArea, HasArea-corners_of, IsMean}
use Rattle.mesh_laws.specs.Vertex.{is_mesh_vertex, centre_of, IsSquareCorner, IsCentre}
use Rattle.mesh_laws.proofs.ConformityLemmas.{IsUnder, self, below}
use Rattle.mesh_laws.proofs.DescentLemmas.{IsAddress-level, IsAddress-splittable}
use Rattle.mesh_laws.proofs.ClosureLemmas.{IsOuter}
use Rattle.mesh_laws.proofs.DiamondLemmas.{leaf_outside, outside_leaf}
use Rattle.mesh_laws.proofs.VertexLemmas.{has-corner, centre-vertex, square-vertex}
use Rattle.fit_laws.specs.PlaneHeight.{doubled_area, area_of, weighted, plane_height, off_plane}
use Rattle.fit_laws.proofs.DescentLemmas.{mean}
use Rattle.fit_laws.proofs.PlaneLemmas.{plane_height-exact}
use Rattle.page_laws.specs.declared.wedge.KnownWedge.{KnownWedge}
use Rattle.page_laws.specs.Pages.{Pages, is_known, IsPyramid}
use Rattle.page_laws.specs.Loaded.{bend, known_wedge, IsAtOrUnder, AreLoadedHeights, IsHalfOff}
use Rattle.page_laws.proofs.LoadedLemmas.{wedge-known, wedge-heights, at-under}
use Rattle.page_laws.proofs.PyramidLemmas.{known-splittable, parent-known}

-- ---- weights and sides

-- by weights at the corners, the doubled area at a side is that of the triangle in the part of the corner across
side : (t u v w d : ℕ) (a p q r : Point) → 0 < t →
    a.x * p.y + p.x * q.y + q.x * a.y ≡ a.y * p.x + p.y * q.x + q.y * a.x + d → u + v + w ≡ t →
    t * r.x ≡ u * a.x + v * p.x + w * q.x → t * r.y ≡ u * a.y + v * p.y + w * q.y →
    (t * doubled_area r p q ≡ u * d) × (is_left_or_on r p q ≡ true)
side t u v w d a p q r some area sum hx hy =
    let high : ℕ = p.x * q.y + q.x * r.y + r.x * p.y in
    let low : ℕ = p.y * q.x + q.y * r.x + r.y * p.x in
    let e : t * high ≡ t * low + u * d = omega (
      arith,
      ap (λ z. z * (p.x * q.y)) sum,
      ap (λ z. z * (p.y * q.x)) sum,
      ap (λ z. z * p.y) hx,
      ap (λ z. z * q.y) hx,
      ap (λ z. z * p.x) hy,
      ap (λ z. z * q.x) hy,
      ap (λ z. u * z) area,
    ) in
    let less : t * low ≤ t * high = omega arith in
    let order : low ≤ high = le_of_mul-le-mul_left {k = t} less some in
    let gap : t * (high - low) ≡ t * high - t * low = mul-sub t high low in
    (omega arith, le-leb low high order)

-- the same at all three sides: the point is in the triangle
module _ (c : Corners) (d total : ℕ) (r : Point) (u v w : ℕ) (some : 0 < total) (area : HasArea c d)
    (h : IsMean total c r u v w) where
  at_apex : (total * doubled_area r c.v0 c.v1 ≡ u * d) × (is_left_or_on r c.v0 c.v1 ≡ true)
  at_apex = side total u v w d c.apex c.v0 c.v1 r some area.area h.sum h.x h.y

  at_v0 : (total * doubled_area r c.v1 c.apex ≡ v * d) × (is_left_or_on r c.v1 c.apex ≡ true)
  at_v0 = let e = area.area in let f = h.sum in let x = h.x in let y = h.y in
      side total v w u d c.v0 c.v1 c.apex r some (omega arith) (omega arith) (omega arith) (omega arith)

  at_v1 : (total * doubled_area r c.apex c.v0 ≡ w * d) × (is_left_or_on r c.apex c.v0 ≡ true)
  at_v1 = let e = area.area in let f = h.sum in let x = h.x in let y = h.y in
      side total w u v d c.v1 c.apex c.v0 r some (omega arith) (omega arith) (omega arith) (omega arith)

  mean-held : is_in_closed c r ≡ true
  mean-held = and_from (is_left_or_on r c.apex c.v0) (is_left_or_on r c.v0 c.v1 && is_left_or_on r c.v1 c.apex) at_v1.1
      (and_from (is_left_or_on r c.v0 c.v1) (is_left_or_on r c.v1 c.apex) at_apex.1 at_v0.1)

  mean-weighted : (f : Point → ℕ) → total * weighted c f r ≡ d * mean f c u v w
  mean-weighted f = omega (
    arith,
    ap (λ z. z * f c.apex) at_apex.0,
    ap (λ z. z * f c.v0) at_v0.0,
    ap (λ z. z * f c.v1) at_v1.0,
  )

-- ---- near a plane

-- the point is a mean of the corners, and twice the difference of its height from that of theirs is at most the
-- thickness, times the total of the weights
pub record IsNear (f : Point → ℕ) (thick : ℕ) (c : Corners) (r : Point) : Type 0 where
  pub total : ℕ
  pub u : ℕ
  pub v : ℕ
  pub w : ℕ
  pub some : 0 < total
  pub mean_of : IsMean total c r u v w
  pub bound : 2 * apart (total * f r) (mean f c u v w) ≤ total * thick

-- a difference times k
apart-times : (k i j : ℕ) → k * apart i j ≡ apart (k * i) (k * j)
apart-times k i j = omega (arith, mul-sub k i j, mul-sub k j i)

apart-cases : (i j : ℕ) → (i + apart i j ≡ j) ⊎ (j + apart i j ≡ i)
apart-cases i j = ⊎_elim (λ less. inl (omega arith)) (λ more. inr (omega arith)) (cases_lt i j)

module _ (n : ℕ) (heights : List ℕ) (a : ℕ) (r : Point) (thick : ℕ) (address : IsAddress n a)
    (near : IsNear (height_of n heights) thick (corners_of n a) r) where
  -- then the triangle holds the point
  pub near-held : holds_point n a r ≡ true
  near-held = mean-held (corners_of n a) (2 ^ (2 * n - level_of a)) near.total r near.u near.v near.w near.some
      (HasArea-corners_of n a (level-le n a address)) near.mean_of

  -- its plane there is the mean of the heights
  near-plane : near.total * plane_height n heights a r
      ≡ 2 ^ n * mean (height_of n heights) (corners_of n a) near.u near.v near.w
  near-plane =
      let c : Corners = corners_of n a in
      let d : ℕ = 2 ^ (2 * n - level_of a) in
      let m : ℕ = mean (height_of n heights) c near.u near.v near.w in
      let h : HasArea c d = HasArea-corners_of n a (level-le n a address) in
      let area : area_of c ≡ d = (let e = h.area in omega arith) in
      let whole : near.total * weighted c (height_of n heights) r ≡ d * m =
      mean-weighted c d near.total r near.u near.v near.w near.some h near.mean_of (height_of n heights) in
      let exact : d * plane_height n heights a r ≡ 2 ^ n * weighted c (height_of n heights) r =
      ap (λ z. z * plane_height n heights a r) (sym area) ∙ plane_height-exact n heights a r address in
      cancel d (near.total * plane_height n heights a r) (2 ^ n * m) (pow_pos (2 * n - level_of a))
      (omega (arith, ap (λ z. near.total * z) exact, ap (λ z. 2 ^ n * z) whole))

  -- and the surface is off it by at most half the thickness
  pub near-off : 2 * off_plane n heights a r ≤ 2 ^ n * thick
  near-off =
      let t : ℕ = near.total in
      let m : ℕ = 2 ^ n in
      let s : ℕ = height_of n heights r in
      let z : ℕ = plane_height n heights a r in
      let k : ℕ = mean (height_of n heights) (corners_of n a) near.u near.v near.w in
      let more : m * (2 * apart (t * s) k) ≤ m * (t * thick) = mul-le-mul_left m near.bound in
      let one : m * apart (t * s) k ≡ apart (m * (t * s)) (m * k) = apart-times m (t * s) k in
      let two : t * apart (m * s) z ≡ apart (t * (m * s)) (t * z) = apart-times t (m * s) z in
      let plane : t * z ≡ m * k = near-plane in
      let same : apart (t * (m * s)) (t * z) ≡ apart (m * (t * s)) (m * k) = omega arith in
      le_of_mul-le-mul_left {k = t} (omega arith) near.some

-- ---- from a child to its parent

-- in one coordinate: the weight u of the base's midpoint m goes to its ends p and q
to_ends : (t u v w a p q m : ℕ) → p + q ≡ 2 * m → t ≡ u * m + v * a + w * p →
    2 * t ≡ 2 * v * a + (u + 2 * w) * p + u * q
to_ends t u v w a p q m e h = omega (arith, h, ap (λ z. u * z) e)

-- the mean changes by at most that weight times the bend
to_heights : (t u s m p q rest d thick other : ℕ) → u ≤ t → thick ≤ other →
    (2 * m + d ≡ p + q) ⊎ (p + q + d ≡ 2 * m) → 2 * apart (t * s) (u * m + rest) ≤ t * thick →
    2 * apart (2 * t * s) (u * p + u * q + 2 * rest) ≤ 2 * t * (other + d)
to_heights t u s m p q rest d thick other half thin differ bound =
    let more : t * thick ≤ t * other = mul-le-mul_left t thin in
    let own : d * u ≤ d * t = mul-le-mul_left d half in
    let whole : 2 * apart (2 * t * s) (u * p + u * q + 2 * rest) ≤ 2 * (t * other) + 2 * (d * t) =
    ⊎_elim
    (λ e. let f : 2 * (u * m) + d * u ≡ u * p + u * q = omega (arith, ap (λ z. u * z) e) in omega arith)
    (λ e. let f : u * p + u * q + d * u ≡ 2 * (u * m) = omega (arith, ap (λ z. u * z) e) in omega arith)
    differ in
    omega arith

module _ (f : Point → ℕ) (c : Corners) (r : Point) (thick other : ℕ) (even : HasEvenBase c) (thin : thick ≤ other) where
  near-left : IsNear f thick (child 0 c) r → IsNear f (other + bend f c) c r
  near-left h =
      let x = even.x in let y = even.y in let k = h.mean_of in let sum = k.sum in let some = h.some in
      record {
        total = 2 * h.total;
        u = 2 * h.v;
        v = h.u + 2 * h.w;
        w = h.u;
        some = omega arith;
        mean_of = record {
          sum = omega arith;
          x = let e = to_ends (h.total * r.x) h.u h.v h.w c.apex.x c.v0.x c.v1.x ((c.v0.x + c.v1.x) / 2) (omega arith) k.x in
              omega arith;
          y = let e = to_ends (h.total * r.y) h.u h.v h.w c.apex.y c.v0.y c.v1.y ((c.v0.y + c.v1.y) / 2) (omega arith) k.y in
              omega arith;
        };
        bound = let e = to_heights h.total h.u (f r) (f (midpoint c.v0 c.v1)) (f c.v0) (f c.v1)
            (h.v * f c.apex + h.w * f c.v0) (bend f c) thick other (omega arith) thin
            (apart-cases (2 * f (midpoint c.v0 c.v1)) (f c.v0 + f c.v1)) (let g = h.bound in omega arith) in omega arith;
      }

  near-right : IsNear f thick (child 1 c) r → IsNear f (other + bend f c) c r
  near-right h =
      let x = even.x in let y = even.y in let k = h.mean_of in let sum = k.sum in let some = h.some in
      record {
        total = 2 * h.total;
        u = 2 * h.w;
        v = h.u;
        w = h.u + 2 * h.v;
        some = omega arith;
        mean_of = record {
          sum = omega arith;
          x = let e = to_ends (h.total * r.x) h.u h.w h.v c.apex.x c.v1.x c.v0.x ((c.v0.x + c.v1.x) / 2) (omega arith)
              (let g = k.x in omega arith) in omega arith;
          y = let e = to_ends (h.total * r.y) h.u h.w h.v c.apex.y c.v1.y c.v0.y ((c.v0.y + c.v1.y) / 2) (omega arith)
              (let g = k.y in omega arith) in omega arith;
        };
        bound = let e = to_heights h.total h.u (f r) (f (midpoint c.v0 c.v1)) (f c.v1) (f c.v0)
            (h.w * f c.apex + h.v * f c.v1) (bend f c) thick other (omega arith) thin
            (let z = apart-cases (2 * f (midpoint c.v0 c.v1)) (f c.v0 + f c.v1) in
            ⊎_elim (λ i. inl (omega arith)) (λ i. inr (omega arith)) z) (let g = h.bound in omega arith) in omega arith;
      }

-- ---- up from a known triangle

module _ (n : ℕ) (f : Point → ℕ) (known : ℕ → Bool) (splits : (x : ℕ) → IsTrue (known x) → IsSplittable n x)
    (up : (x : ℕ) → IsTrue (known x) → 4 ≤ x → IsTrue (known (x / 2))) where
  abbrev thick : ℕ → ℕ
  thick x = (known_wedge n f known x).thickness

  thick-joined : (x : ℕ) → IsTrue (known x) →
      thick x ≡ max (thick (2 * x)) (thick (2 * x + 1)) + bend f (corners_of n x)
  thick-joined x is = ap (λ (k : KnownWedge). k.thickness) (wedge-known n f known x (splits x is) is)

  even : (x : ℕ) → IsTrue (known x) → HasEvenBase (corners_of n x)
  even x is = HasEvenBase-corners_of n x (splits x is).coarse

  -- its own centre
  near-centre : (x : ℕ) → IsTrue (known x) → IsNear f (thick x) (corners_of n x) (centre_of n x)
  near-centre x is =
      let c : Corners = corners_of n x in
      let e = thick-joined x is in
      let h = even x is in
      let p = h.x in
      let q = h.y in
      record {
        total = 2;
        u = 0;
        v = 1;
        w = 1;
        some = omega arith;
        mean_of = record { sum = omega arith; x = omega arith; y = omega arith };
        bound = rw e (omega arith);
      }

  near-parent : (x : ℕ) (r : Point) → 4 ≤ x → IsTrue (known (x / 2)) → IsNear f (thick x) (corners_of n x) r →
      IsNear f (thick (x / 2)) (corners_of n (x / 2)) r
  near-parent x r big is near =
      let y : ℕ = x / 2 in
      let c : Corners = corners_of n y in
      let most : ℕ = max (thick (2 * y)) (thick (2 * y + 1)) in
      subst (λ k. IsNear f k c r) (sym (thick-joined y is)) (⊎_elim
      (λ (left : x % 2 < 1).
      let same : x ≡ 2 * y = omega arith in
      near-left f c r (thick (2 * y)) most (even y is) (omega arith)
      (subst (λ z. IsNear f (thick (2 * y)) z r) (corners_of-left n y (omega arith))
      (subst (λ z. IsNear f (thick z) (corners_of n z) r) same near)))
      (λ (right : 1 ≤ x % 2).
      let same : x ≡ 2 * y + 1 = omega arith in
      near-right f c r (thick (2 * y + 1)) most (even y is) (omega arith)
      (subst (λ z. IsNear f (thick (2 * y + 1)) z r) (corners_of-right n y (omega arith))
      (subst (λ z. IsNear f (thick z) (corners_of n z) r) same near)))
      (cases_lt (x % 2) 1))

  near-up : (a x : ℕ) (r : Point) → IsUnder a x → IsTrue (known x) → IsNear f (thick x) (corners_of n x) r →
      IsNear f (thick a) (corners_of n a) r
  near-up a _ r self is near = near
  near-up a _ r (below x big u) is near =
      near-up a (x / 2) r u (up x is big) (near-parent x r big (up x is big) near)

  known-up : (a x : ℕ) → IsUnder a x → IsTrue (known x) → IsTrue (known a)
  known-up a _ self is = is
  known-up a _ (below x big u) is = known-up a (x / 2) u (up x is big)

  -- and those at or above it
  pub near-above : (a x : ℕ) → IsUnder a x → IsTrue (known x) → IsNear f (thick a) (corners_of n a) (centre_of n x)
  near-above a x u is = near-up a x (centre_of n x) u is (near-centre x is)

-- ---- at a corner

near-corner : (f : Point → ℕ) (c : Corners) (r : Point) → IsCorner c r → IsNear f 0 c r
near-corner f c r (inl e) = rw e record {
  total = 1;
  u = 1;
  v = 0;
  w = 0;
  some = omega arith;
  mean_of = record { sum = omega arith; x = omega arith; y = omega arith };
  bound = omega arith;
}
near-corner f c r (inr (inl e)) = rw e record {
  total = 1;
  u = 0;
  v = 1;
  w = 0;
  some = omega arith;
  mean_of = record { sum = omega arith; x = omega arith; y = omega arith };
  bound = omega arith;
}
near-corner f c r (inr (inr e)) = rw e record {
  total = 1;
  u = 0;
  v = 0;
  w = 1;
  some = omega arith;
  mean_of = record { sum = omega arith; x = omega arith; y = omega arith };
  bound = omega arith;
}

-- ---- in a mesh

-- a leaf that is x or lies above it
abbrev LeafAbove : ℕ → (ℕ → Bool) → ℕ → Type 0
LeafAbove n has x = (a : ℕ) × IsUnder a x × IsOuter n has a

-- a triangle that is not split is a leaf, or its parent is not split either
leaf-or-parent : (n : ℕ) (has : ℕ → Bool) (x : ℕ) → IsAddress n x → (IsTrue (has x) → ⊥) →
    (4 ≤ x → has (x / 2) ≡ false → LeafAbove n has (x / 2)) → LeafAbove n has x
leaf-or-parent n has x address out up = ⊎_elim
    (λ (first : x < 4). (x, self, record { address = address; outside = out; parent = λ big. absurd (omega arith) }))
    (λ (big : 4 ≤ x). ⊎_elim
    (λ is. (x, self, record { address = address; outside = out; parent = λ _. is }))
    (λ none. let h = up big none in (h.0, below x big h.1, h.2))
    (cases_Bool (has (x / 2))))
    (cases_lt x 4)

-- so it lies in a leaf
leaf-above : (n : ℕ) (has : ℕ → Bool) (levels x : ℕ) → level_of x ≤ levels → IsAddress n x → (IsTrue (has x) → ⊥) →
    LeafAbove n has x
leaf-above n has zero x fits address out = leaf-or-parent n has x address out
    (λ big none. let e = level_of-parent x big in absurd (omega arith))
leaf-above n has (suc levels) x fits address out = leaf-or-parent n has x address out
    (λ big none.
    let e = level_of-parent x big in
    let most = level-le n x address in
    leaf-above n has levels (x / 2) (omega arith) (IsAddress-level n (x / 2) (omega arith) (omega arith))
    (λ is. both_ways (has (x / 2)) none is))

module _ (w : Pages) (s : IsPyramid w) (height : Point → ℕ) (heights : List ℕ)
    (agree : AreLoadedHeights w height heights) where
  -- at a triangle at or above a known one, by the heights that are loaded
  known-near : (a b : ℕ) → IsUnder a b → IsTrue (is_known w b) →
      IsNear (height_of w.large heights) (known_wedge w.large height (is_known w) a).thickness (corners_of w.large a)
      (centre_of w.large b)
  known-near a b u is = subst (λ k. IsNear (height_of w.large heights) k (corners_of w.large a) (centre_of w.large b))
      (ap (λ (k : KnownWedge). k.thickness) (wedge-heights w s (height_of w.large heights) height agree a
      (known-up w.large (height_of w.large heights) (is_known w) (known-splittable w s) (parent-known w s) a b u is)))
      (near-above w.large (height_of w.large heights) (is_known w) (known-splittable w s) (parent-known w s) a b u is)

  known-address : (a b : ℕ) → IsUnder a b → IsTrue (is_known w b) → IsAddress w.large a
  known-address a b u is = IsAddress-splittable w.large a (known-splittable w s a
      (known-up w.large height (is_known w) (known-splittable w s) (parent-known w s) a b u is))

  -- it holds the centre, and the surface is off its plane there by at most half its thickness
  pub centre-near : (a b : ℕ) → IsAtOrUnder a b → IsTrue (is_known w b) →
      IsHalfOff w height heights a (centre_of w.large b)
  centre-near a b under is =
      let u = at-under a b under in
      let near = known-near a b u is in
      let address = known-address a b u is in (
        near-held w.large heights a (centre_of w.large b) _ address near,
        near-off w.large heights a (centre_of w.large b) _ address near,
      )

  module _ (has : ℕ → Bool) (closed : IsClosed w.large has) where
    -- a leaf with this point, and the surface half its thickness off at most
    abbrev HasHalfOff : Point → Type 0
    HasHalfOff r = (a : ℕ) × Contains (leaves_of w.large has) a × IsHalfOff w height heights a r

    -- at a vertex it is not off at all
    vertex-near : (r : Point) → is_mesh_vertex w.large (leaves_of w.large has) r ≡ true → HasHalfOff r
    vertex-near r is =
        let e = Any-in (λ a. has_corner (corners_of w.large a) r) (leaves_of w.large has) is in
        let listed = Contains-in e.0 (leaves_of w.large has) e.1 in
        let address = (leaf_outside w.large has e.0 closed listed).address in
        let near = near-corner (height_of w.large heights) (corners_of w.large e.0) r
        (has-corner (corners_of w.large e.0) r e.2) in
        let none = near-off w.large heights e.0 r 0 address near in
        (e.0, listed, (near-held w.large heights e.0 r 0 address near, omega arith))

    -- where a triangle is not split, its centre is in a leaf at or above it
    centre-in-leaf : (b : ℕ) → IsTrue (is_known w b) → has b ≡ false → HasHalfOff (centre_of w.large b)
    centre-in-leaf b is whole =
        let leaf = leaf-above w.large has (level_of b) b (omega arith) (known-address b b self is)
        (λ split. both_ways (has b) whole split) in
        let near = known-near leaf.0 b leaf.1 is in (
          leaf.0,
          outside_leaf w.large has leaf.0 closed leaf.2,
          (
            near-held w.large heights leaf.0 (centre_of w.large b) _ leaf.2.address near,
            near-off w.large heights leaf.0 (centre_of w.large b) _ leaf.2.address near,
          ),
        )

    -- so each corner of the terrain and each centre of a known triangle has one
    pub mesh-near : (r : Point) → IsSquareCorner (2 ^ w.large) r ⊎ IsCentre w.large (is_known w) r → HasHalfOff r
    mesh-near r (inl corner) = vertex-near r (square-vertex w.large has r closed corner)
    mesh-near r (inr (b, is, same)) = ⊎_elim
        (λ (split : has b ≡ true). vertex-near r (centre-vertex w.large has b r closed split same))
        (λ (whole : has b ≡ false). subst HasHalfOff same (centre-in-leaf b is whole))
        (cases_Bool (has b))
