-- The midpoint of a base: the triangle holds it, and there its plane is halfway between the heights at the ends.
use Rattle.std.proofs.Common.{◌≡◌, ℕ, suc, ◌+◌, ◌-◌, ◌*◌, ◌^◌, ◌<◌, ◌≤◌, true, List, sym, ◌∙◌, ap, subst, arith}
use Rattle.std.proofs.Math.Nat.{pow-succ'}
use Rattle.std.proofs.lemmas.Nat.{pow_pos}
use Rattle.std.proofs.lemmas.Bool.{le-leb, and_from}
use Rattle.mesh_defs.specs.declared.point.Point.{Point}
use Rattle.mesh_defs.specs.declared.point.Corners.{Corners}
use Rattle.mesh_defs.specs.Triangle.{level_of, IsAddress, corners_of, midpoint}
use Rattle.mesh_defs.specs.Thickness.{height_of, apart}
use Rattle.mesh_defs.specs.BoundingBox.{is_left_or_on, is_in_closed, greatest}
use Rattle.bintree_laws.specs.Corners.{HasEvenBase}
use Rattle.bintree_laws.proofs.LatticeLemmas.{HasEvenBase-corners_of}
use Rattle.bintree_laws.proofs.MateLemmas.{cancel}
use Rattle.bintree_laws.proofs.WeightLemmas.{HasArea, HasArea-corners_of}
use Rattle.fit_laws.specs.PlaneHeight.{doubled_area, area_of, weighted, plane_height, off_plane, offs_in}
use Rattle.fit_laws.proofs.PlaneLemmas.{plane_height-exact, apart-scaled, held-le}

module _ (c : Corners) (d : ℕ) (even : HasEvenBase c) (h : HasArea c d) where
  abbrev m : Point
  m = midpoint c.v0 c.v1

  x : 2 * m.x ≡ c.v0.x + c.v1.x
  x = let e = even.x in omega arith

  y : 2 * m.y ≡ c.v0.y + c.v1.y
  y = let e = even.y in omega arith

  area-whole : area_of c ≡ d
  area-whole = let e = h.area in omega arith

  -- it lies on the base, and as far left of one leg as of the other
  area-base : doubled_area m c.v0 c.v1 ≡ 0
  area-base = omega (
    arith,
    ap (λ k. c.v1.y * k) x,
    ap (λ k. k * c.v0.x) y,
    ap (λ k. c.v1.x * k) y,
    ap (λ k. k * c.v0.y) x,
  )

  area-right : 2 * doubled_area m c.v1 c.apex ≡ d
  area-right = let e = h.area in omega (
    arith,
    ap (λ k. c.apex.y * k) x,
    ap (λ k. k * c.v1.x) y,
    ap (λ k. c.apex.x * k) y,
    ap (λ k. k * c.v1.y) x,
  )

  area-left : 2 * doubled_area m c.apex c.v0 ≡ d
  area-left = let e = h.area in omega (
    arith,
    ap (λ k. c.v0.y * k) x,
    ap (λ k. k * c.apex.x) y,
    ap (λ k. c.v0.x * k) y,
    ap (λ k. k * c.apex.y) x,
  )

  middle-held : is_in_closed c m ≡ true
  middle-held =
      let e = h.area in
      and_from (is_left_or_on m c.apex c.v0) _
      (le-leb (c.apex.y * c.v0.x + c.v0.y * m.x + m.y * c.apex.x) (c.apex.x * c.v0.y + c.v0.x * m.y + m.x * c.apex.y)
      (omega (
        arith,
        ap (λ k. c.v0.y * k) x,
        ap (λ k. k * c.apex.x) y,
        ap (λ k. c.v0.x * k) y,
        ap (λ k. k * c.apex.y) x,
      )))
      (and_from (is_left_or_on m c.v0 c.v1) (is_left_or_on m c.v1 c.apex)
      (le-leb (c.v0.y * c.v1.x + c.v1.y * m.x + m.y * c.v0.x) (c.v0.x * c.v1.y + c.v1.x * m.y + m.x * c.v0.y)
      (omega (
        arith,
        ap (λ k. c.v1.y * k) x,
        ap (λ k. k * c.v0.x) y,
        ap (λ k. c.v1.x * k) y,
        ap (λ k. k * c.v0.y) x,
      )))
      (le-leb (c.v1.y * c.apex.x + c.apex.y * m.x + m.y * c.v1.x) (c.v1.x * c.apex.y + c.apex.x * m.y + m.x * c.v1.y)
      (omega (
        arith,
        ap (λ k. c.apex.y * k) x,
        ap (λ k. k * c.v1.x) y,
        ap (λ k. c.apex.x * k) y,
        ap (λ k. k * c.v1.y) x,
      ))))

  middle-weighted : (f : Point → ℕ) → 2 * weighted c f m ≡ d * (f c.v0 + f c.v1)
  middle-weighted f = omega (
    arith,
    ap (λ k. k * f c.apex) area-base,
    ap (λ k. k * f c.v0) area-right,
    ap (λ k. k * f c.v1) area-left,
  )

-- how far the surface is off there
pub off-middle : (n : ℕ) (heights : List ℕ) (a : ℕ) (c : Corners) → IsAddress n a → level_of a < 2 * n →
    c ≡ corners_of n a →
    2 ^ (n - 1) * apart (2 * height_of n heights (midpoint c.v0 c.v1)) (height_of n heights c.v0 + height_of n heights c.v1)
    ≤ greatest (offs_in n heights a)
off-middle n heights a c address coarse is =
    let f : Point → ℕ = height_of n heights in
    let e : Corners = corners_of n a in
    let even = HasEvenBase-corners_of n a coarse in
    let d : ℕ = 2 ^ (2 * n - level_of a) in
    let h : HasArea e d = HasArea-corners_of n a (omega arith) in
    let r : Point = midpoint e.v0 e.v1 in
    let some : 0 < 2 ^ (2 * n - level_of a) = pow_pos (2 * n - level_of a) in
    let exactly : area_of e * plane_height n heights a r ≡ 2 ^ n * weighted e f r = plane_height-exact n heights a r address in
    let whole : area_of e * plane_height n heights a r ≡ d * plane_height n heights a r =
    ap (λ k. k * plane_height n heights a r) (area-whole e d even h) in
    let twice : 2 ^ n * (2 * weighted e f r) ≡ 2 ^ n * (d * (f e.v0 + f e.v1)) =
    ap (λ k. 2 ^ n * k) (middle-weighted e d even h f) in
    let plane : 2 * plane_height n heights a r ≡ 2 ^ n * (f e.v0 + f e.v1) =
    cancel d (2 * plane_height n heights a r) (2 ^ n * (f e.v0 + f e.v1)) some (omega arith) in
    let next : suc (n - 1) ≡ n = omega arith in
    let power : 2 ^ n ≡ 2 * 2 ^ (n - 1) = ap (λ k. 2 ^ k) (sym next) ∙ pow-succ' 2 (n - 1) in
    let near : 2 ^ n * apart (2 * f r) (f e.v0 + f e.v1) ≡ apart (2 ^ n * (2 * f r)) (2 ^ n * (f e.v0 + f e.v1)) =
    apart-scaled (2 ^ n) (2 * f r) (f e.v0 + f e.v1) in
    let half : 2 ^ n * apart (2 * f r) (f e.v0 + f e.v1) ≡ 2 * 2 ^ (n - 1) * apart (2 * f r) (f e.v0 + f e.v1) =
    ap (λ k. k * apart (2 * f r) (f e.v0 + f e.v1)) power in
    let off : off_plane n heights a r ≤ greatest (offs_in n heights a) =
    held-le (off_plane n heights a) n a r address (middle-held e d even h) in
    let here : 2 ^ (n - 1) * apart (2 * f r) (f e.v0 + f e.v1) ≤ greatest (offs_in n heights a) = omega arith in
    subst (λ (z : Corners). 2 ^ (n - 1) * apart (2 * f (midpoint z.v0 z.v1)) (f z.v0 + f z.v1)
    ≤ greatest (offs_in n heights a)) (sym is) here
