-- Errors in tiles: a tile's own heights have the errors of the large grid, over 2 ^ p.
use Rattle.std.proofs.Common.{◌≡◌, ℕ, ◌+◌, ◌-◌, ◌*◌, ◌^◌, ◌<◌, ◌≤◌, Bool, true}
use Rattle.std.proofs.Common.{◌&&◌, max, List, [], ◌∷◌, map, sym, ◌∙◌, ap, ap₂, subst, arith, ⊎_elim, pow-add}
use Rattle.std.proofs.Common.{leb, mul-le-mul_left}
use Rattle.std.specs.List.{filter}
use Rattle.std.proofs.lemmas.Bool.{cases_lt, leb-true, le-leb}
use Rattle.mesh_defs.specs.declared.point.Point.{Point}
use Rattle.mesh_defs.specs.declared.point.Corners.{Corners}
use Rattle.mesh_defs.specs.Triangle.{corners_of, IsAddress}
use Rattle.mesh_defs.specs.Thickness.{height_of, apart}
use Rattle.mesh_defs.specs.BoundingBox.{points_of, is_left_or_on, is_in_closed, holds_point, greatest}
use Rattle.mesh_defs.proofs.TestLemmas.{same_tests}
use Rattle.mesh_defs.proofs.PointLemmas.{greatest-le, le-greatest, IsPointIn-points_of}
use Rattle.bintree_laws.specs.Areas.{IsInRectangle}
use Rattle.bintree_laws.specs.Corners.{IsWithin}
use Rattle.bintree_laws.proofs.LatticeLemmas.{same_point}
use Rattle.bintree_laws.proofs.CornerLemmas.{IsWithin-corners_of}
use Rattle.bintree_laws.proofs.WeightLemmas.{IsInRectangle-mean}
use Rattle.bintree_laws.proofs.MateLemmas.{cancel}
use Rattle.fit_laws.specs.PlaneHeight.{doubled_area, area_of, weighted, plane_height, off_plane}
use Rattle.fit_laws.proofs.PlaneLemmas.{area_of-some, plane_height-exact, IsMean-held, apart-scaled}
use Rattle.fit_laws.specs.Error.{error_of, IsExactAtFinest}
use Rattle.mosaic_laws.specs.Tile.{IsTile, in_tile, placed, moved}
use Rattle.mosaic_laws.specs.Heights.{AreTileHeights}
use Rattle.mosaic_laws.proofs.AddressLemmas.{in_tile-address, in_tile-level}
use Rattle.mosaic_laws.proofs.MateLemmas.{level-big}
use Rattle.mosaic_laws.proofs.CornerLemmas.{in_tile-corners}

-- areas

-- the two sides of an area
abbrev right_sum : Point → Point → Point → ℕ
right_sum r p q = p.y * q.x + q.y * r.x + r.y * p.x

abbrev left_sum : Point → Point → Point → ℕ
left_sum r p q = p.x * q.y + q.x * r.y + r.x * p.y

-- the other three points enclose the same area, on the same side
abbrev SameArea : Point → Point → Point → Point → Point → Point → Type 0
SameArea r p q s t u = left_sum s t u + right_sum r p q ≡ left_sum r p q + right_sum s t u

-- a move
abbrev shifted : ℕ → ℕ → Point → Point
shifted i j p = record { x = i + p.x; y = j + p.y }

SameArea-shifted : (i j : ℕ) (r p q : Point) → SameArea r p q (shifted i j r) (shifted i j p) (shifted i j q)
SameArea-shifted i j r p q = omega arith

-- the point lies in the square of side m
record IsIn (m : ℕ) (p : Point) : Type 0 where
  x : p.x ≤ m
  y : p.y ≤ m

module _ (m : ℕ) (square : Point) where
  abbrev image : Point → Point
  image p = placed m square p

  SameArea-placed : (r p q : Point) → IsIn m r → IsIn m p → IsIn m q → SameArea r p q (image r) (image p) (image q)
  SameArea-placed r p q a b c = SameArea-shifted (m * square.x) (m * square.y) r p q

  -- so areas and sides stay
  area-placed : (r p q : Point) → IsIn m r → IsIn m p → IsIn m q →
      doubled_area (image r) (image p) (image q) ≡ doubled_area r p q
  area-placed r p q a b c =
      difference-same (left_sum r p q) (right_sum r p q) (left_sum (image r) (image p) (image q))
      (right_sum (image r) (image p) (image q)) (SameArea-placed r p q a b c)
    where
      difference-same : (i j k l : ℕ) → k + j ≡ i + l → k - l ≡ i - j
      difference-same i j k l e = omega arith

  left-placed : (r p q : Point) → IsIn m r → IsIn m p → IsIn m q →
      is_left_or_on (image r) (image p) (image q) ≡ is_left_or_on r p q
  left-placed r p q a b c =
      side-same (left_sum r p q) (right_sum r p q) (left_sum (image r) (image p) (image q))
      (right_sum (image r) (image p) (image q)) (SameArea-placed r p q a b c)
    where
      side-same : (i j k l : ℕ) → k + j ≡ i + l → leb l k ≡ leb j i
      side-same i j k l e = same_tests (leb l k) (leb j i)
          (λ h. let le = leb-true l k h in le-leb j i (omega arith))
          (λ h. let le = leb-true j i h in le-leb l k (omega arith))

  module _ (c : Corners) (within : IsWithin m c) where
    apex_in : IsIn m c.apex
    apex_in = record { x = within.apex_x; y = within.apex_y }

    v0_in : IsIn m c.v0
    v0_in = record { x = within.v0_x; y = within.v0_y }

    v1_in : IsIn m c.v1
    v1_in = record { x = within.v1_x; y = within.v1_y }

    -- a point is in the moved triangle exactly if it was in the triangle
    closed-placed : (r : Point) → IsIn m r → is_in_closed (moved m square c) (image r) ≡ is_in_closed c r
    closed-placed r h =
        ap₂ (λ (s t : Bool). s && t) (left-placed r c.apex c.v0 h apex_in v0_in)
        (ap₂ (λ (s t : Bool). s && t) (left-placed r c.v0 c.v1 h v0_in v1_in)
        (left-placed r c.v1 c.apex h v1_in apex_in))

    total-placed : area_of (moved m square c) ≡ area_of c
    total-placed = area-placed c.apex c.v0 c.v1 apex_in v0_in v1_in

    weighted-placed : (f g : Point → ℕ) → ((s : Point) → IsIn m s → f s ≡ g (image s)) → (r : Point) → IsIn m r →
        weighted (moved m square c) g (image r) ≡ weighted c f r
    weighted-placed f g same r h =
        let x = area-placed r c.v0 c.v1 h v0_in v1_in in
        let y = area-placed r c.v1 c.apex h v1_in apex_in in
        let z = area-placed r c.apex c.v0 h apex_in v0_in in
        ap₂ (λ (s t : ℕ). s + t)
        (ap₂ (λ (s t : ℕ). s + t) (ap₂ (λ (s t : ℕ). s * t) x (sym (same c.apex apex_in)))
        (ap₂ (λ (s t : ℕ). s * t) y (sym (same c.v0 v0_in))))
        (ap₂ (λ (s t : ℕ). s * t) z (sym (same c.v1 v1_in)))

    -- the corners lie in the tile's square
    rectangle-placed : (s : Point) → IsInRectangle (moved m square c) s →
        (m * square.x ≤ s.x) × (s.x ≤ m * square.x + m) × (m * square.y ≤ s.y) × (s.y ≤ m * square.y + m)
    rectangle-placed s h =
        let a = apex_in in
        let b = v0_in in
        let d = v1_in in
        let ax = a.x in let ay = a.y in let bx = b.x in let by = b.y in let dx = d.x in let dy = d.y in
        let l = h.left in let r = h.right in let o = h.bottom in let t = h.top in
        (omega arith, omega arith, omega arith, omega arith)

-- each point of the tile's square is the image of one
image-found : (m : ℕ) (square s : Point) → m * square.x ≤ s.x → s.x ≤ m * square.x + m → m * square.y ≤ s.y →
    s.y ≤ m * square.y + m → (r : Point) × IsIn m r × (placed m square r ≡ s)
image-found m square s a b c d = (
  record { x = s.x - m * square.x; y = s.y - m * square.y },
  record { x = omega arith; y = omega arith },
  same_point (m * square.x + (s.x - m * square.x)) (m * square.y + (s.y - m * square.y)) s.x s.y (omega arith)
      (omega arith),
)

-- held points

-- a held point lies in the bounding rectangle
held-rectangle : (n a : ℕ) (r : Point) → IsAddress n a → holds_point n a r ≡ true → IsInRectangle (corners_of n a) r
held-rectangle n a r address held =
    IsInRectangle-mean (area_of (corners_of n a)) (corners_of n a) r
    (doubled_area r (corners_of n a).v0 (corners_of n a).v1) (doubled_area r (corners_of n a).v1 (corners_of n a).apex)
    (doubled_area r (corners_of n a).apex (corners_of n a).v0) (area_of-some n a address)
    (IsMean-held n a r address held)

-- and so in the square
held-in : (n a : ℕ) (r : Point) → IsAddress n a → holds_point n a r ≡ true → IsIn (2 ^ n) r
held-in n a r address held =
    let w = IsWithin-corners_of n a in
    let h = held-rectangle n a r address held in
    let right = h.right in let top = h.top in
    let ax = w.apex_x in let ay = w.apex_y in let bx = w.v0_x in let by = w.v0_y in let cx = w.v1_x in let cy =
    w.v1_y in
    record { x = omega arith; y = omega arith }

-- a multiple of the greatest value
greatest-scaled : (k : ℕ) (f : Point → ℕ) (xs : List Point) →
    greatest (map (λ r. k * f r) xs) ≡ k * greatest (map f xs)
greatest-scaled k f [] = omega arith
greatest-scaled k f (x ∷ xs) =
    let rest = greatest-scaled k f xs in
    ap (λ z. max (k * f x) z) rest ∙ scaled-max k (f x) (greatest (map f xs))
  where
    scaled-max : (k i j : ℕ) → max (k * i) (k * j) ≡ k * max i j
    scaled-max k i j = ⊎_elim
        (λ (less : i < j).
        let e : max i j ≡ j = omega arith in
        let le : k * i ≤ k * j = mul-le-mul_left k (omega arith) in
        let f : max (k * i) (k * j) ≡ k * j = omega arith in f ∙ ap (λ z. k * z) (sym e))
        (λ (more : j ≤ i).
        let e : max i j ≡ i = omega arith in
        let le : k * j ≤ k * i = mul-le-mul_left k (omega arith) in
        let f : max (k * i) (k * j) ≡ k * i = omega arith in f ∙ ap (λ z. k * z) (sym e))
        (cases_lt i j)

module _ (n p : ℕ) (t : Point) (small large : List ℕ) (tile : IsTile (2 ^ p) (2 ^ p) t)
    (heights : AreTileHeights n p t small large) (a : ℕ) (big : 4 ≤ a) (address : IsAddress n a) where
  abbrev put : Point → Point
  put r = placed (2 ^ n) t r

  corners : corners_of (n + p) (in_tile p t a)
      ≡ moved (2 ^ n) t (corners_of n a)
  corners = in_tile-corners p t tile n a big address

  inside : IsAddress (n + p) (in_tile p t a)
  inside = in_tile-address p t n a big address

  -- a point is held by the triangle exactly if its image is by the triangle in the large grid
  held-put : (r : Point) → IsIn (2 ^ n) r → holds_point (n + p) (in_tile p t a) (put r) ≡ holds_point n a r
  held-put r h =
      ap (λ c. is_in_closed c (put r)) corners
      ∙ closed-placed (2 ^ n) t (corners_of n a) (IsWithin-corners_of n a) r h

  -- the plane's height there
  plane-put : (r : Point) → IsIn (2 ^ n) r →
      plane_height (n + p) large (in_tile p t a) (put r) ≡ 2 ^ p * plane_height n small a r
  plane-put r h =
      let area : ℕ = area_of (corners_of n a) in
      let within = IsWithin-corners_of n a in
      let same : area_of (corners_of (n + p) (in_tile p t a)) ≡ area_of (corners_of n a) =
      ap (λ c. area_of c) corners
      ∙ total-placed (2 ^ n) t (corners_of n a) within in
      let weights : weighted (corners_of (n + p) (in_tile p t a)) (height_of (n + p) large) (put r)
      ≡ weighted (corners_of n a) (height_of n small) r =
      ap (λ c. weighted c (height_of (n + p) large) (put r)) corners
      ∙ weighted-placed (2 ^ n) t (corners_of n a) within (height_of n small)
      (height_of (n + p) large) (λ s k. heights.each s k.x k.y) r h in
      let far = plane_height-exact (n + p) large (in_tile p t a) (put r) inside in
      let near = plane_height-exact n small a r address in
      scaled-plane (area_of (corners_of n a)) (area_of (corners_of (n + p) (in_tile p t a))) (2 ^ n) (2 ^ p)
      (2 ^ (n + p)) (weighted (corners_of n a) (height_of n small) r)
      (weighted (corners_of (n + p) (in_tile p t a)) (height_of (n + p) large) (put r))
      (plane_height n small a r) (plane_height (n + p) large (in_tile p t a) (put r))
      (area_of-some n a address) same (pow-add 2 n p) weights near far
    where
      scaled-plane : (area area' m k mk w w' z z' : ℕ) → 0 < area → area' ≡ area → mk ≡ m * k → w' ≡ w →
          area * z ≡ m * w → area' * z' ≡ mk * w' → z' ≡ k * z
      scaled-plane area area' m k mk w w' z z' some same power weights near far =
          let far' : area * z' ≡ m * k * w =
          ap (λ t. t * z') (sym same) ∙ far ∙ ap (λ t. t * w') power ∙ ap (λ t. m * k * t) weights in
          let near' : area * (k * z) ≡ m * k * w = omega (arith, ap (λ t. k * t) near) in
          cancel area z' (k * z) some (far' ∙ sym near')

  -- how far the surface is from it
  off-put : (r : Point) → IsIn (2 ^ n) r →
      off_plane (n + p) large (in_tile p t a) (put r) ≡ 2 ^ p * off_plane n small a r
  off-put r h =
      let surface : 2 ^ (n + p) * height_of (n + p) large (put r) ≡ 2 ^ p * (2 ^ n * height_of n small r) =
      ap (λ t. 2 ^ (n + p) * t) (sym (heights.each r h.x h.y))
      ∙ ap (λ t. t * height_of n small r) (pow-add 2 n p) ∙ omega arith in
      ap₂ (λ (s t : ℕ). apart s t) surface (plane-put r h)
      ∙ sym (apart-scaled (2 ^ p) (2 ^ n * height_of n small r) (plane_height n small a r))

  -- the error in the large grid is 2 ^ p times that in the small one
  pub error-in_tile : error_of (n + p) large (in_tile p t a) ≡ 2 ^ p * error_of n small a
  unfolding error_of
  error-in_tile = both-le (greatest-le (2 ^ p * error_of n small a) (off_plane (n + p) large (in_tile p t a))
      (holds_point (n + p) (in_tile p t a)) (λ s held. far s held) (points_of (n + p)))
      (near-all)
    where
      both-le : {i j : ℕ} → i ≤ j → j ≤ i → i ≡ j
      both-le le ge = omega arith

      far : (s : Point) → holds_point (n + p) (in_tile p t a) s ≡ true →
          off_plane (n + p) large (in_tile p t a) s ≤ 2 ^ p * error_of n small a
      far s held =
          let rectangle : IsInRectangle (moved (2 ^ n) t (corners_of n a)) s =
          subst (λ c. IsInRectangle c s) corners (held-rectangle (n + p) (in_tile p t a) s inside held) in
          let q = rectangle-placed (2 ^ n) t (corners_of n a) (IsWithin-corners_of n a) s
          rectangle in
          let r : (r : Point) × IsIn (2 ^ n) r × (placed (2 ^ n) t r ≡ s) =
          image-found (2 ^ n) t s q.0 q.1 q.2 q.3 in
          let held' : holds_point n a r.0 ≡ true =
          sym (held-put r.0 r.1) ∙ ap (holds_point (n + p) (in_tile p t a)) r.2 ∙ held in
          let most = le-greatest (off_plane n small a) (holds_point n a) r.0 held' (points_of n)
          (IsPointIn-points_of n r.0 r.1.x r.1.y) in
          let same : off_plane (n + p) large (in_tile p t a) s ≡ 2 ^ p * off_plane n small a r.0 =
          ap (off_plane (n + p) large (in_tile p t a)) (sym r.2) ∙ off-put r.0 r.1 in
          let le : 2 ^ p * off_plane n small a r.0 ≤ 2 ^ p * error_of n small a = mul-le-mul_left (2 ^ p) most in
          omega arith

      near-all : 2 ^ p * error_of n small a ≤ error_of (n + p) large (in_tile p t a)
      near-all =
          let e = greatest-scaled (2 ^ p) (off_plane n small a) (filter (holds_point n a) (points_of n)) in
          let le = greatest-le (error_of (n + p) large (in_tile p t a)) (λ r. 2 ^ p * off_plane n small a r)
          (holds_point n a) (λ r held.
          let h : IsIn (2 ^ n) r = held-in n a r address held in
          let held' : holds_point (n + p) (in_tile p t a) (put r) ≡ true = held-put r h ∙ held in
          let rectangle : IsInRectangle (corners_of (n + p) (in_tile p t a)) (put r) =
          held-rectangle (n + p) (in_tile p t a) (put r) inside held' in
          let k = held-in (n + p) (in_tile p t a) (put r) inside held' in
          let most = le-greatest (off_plane (n + p) large (in_tile p t a)) (holds_point (n + p) (in_tile p t a))
          (put r) held' (points_of (n + p)) (IsPointIn-points_of (n + p) (put r) k.x k.y) in
          let same = off-put r h in omega arith) (points_of n) in omega arith

-- an error that no finest triangle has

-- no finest triangle of a tile has it
pub tile-exact : (n p : ℕ) (t : Point) (error : ℕ → ℕ) → 1 ≤ n → IsExactAtFinest (n + p) error →
    IsExactAtFinest n (λ a. error (in_tile p t a))
tile-exact n p t error some exact a address fine =
    let big : 4 ≤ a = level-big a address.low (omega arith) in
    let level = in_tile-level p t a big in
    exact (in_tile p t a) (in_tile-address p t n a big address) (omega arith)
