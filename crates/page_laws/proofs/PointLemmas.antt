-- The points of pages: the corners of a page's triangles, the centres of known triangles, the vertices of their meshes.
use Rattle.std.proofs.Common.{◌≡◌, ℕ, zero, suc, ◌+◌, ◌-◌, ◌*◌, ◌%◌, ◌^◌, ◌<◌, ◌≤◌, ◌⊎◌, Bool, IsTrue, inl, inr, refl}
use Rattle.std.proofs.Common.{true, false, sym, ◌∙◌, ap, ap₂, subst, arith, ⊎_elim}
use Rattle.std.proofs.Math.Nat.{mul_assoc, pow-succ'}
use Rattle.std.proofs.Math.Pow.{pow_pos}
use Rattle.std.proofs.lemmas.Bool.{cases_lt}
use Rattle.std.proofs.lemmas.Nat.{pow-add}
use Rattle.mesh_defs.specs.declared.point.Point.{Point}
use Rattle.mesh_defs.specs.declared.point.Corners.{Corners}
use Rattle.mesh_defs.specs.Triangle.{level_of, corners_of, IsAddress}
use Rattle.mesh_defs.specs.ClosedSet.{IsSubset, leaves_of}
use Rattle.bintree_laws.specs.Corners.{IsInSquare}
use Rattle.bintree_laws.proofs.LevelLemmas.{level_of-left, level_of-right, level_of-first, level-le}
use Rattle.bintree_laws.proofs.CornerLemmas.{corners_of-left, corners_of-right, IsWithin-corners_of}
use Rattle.bintree_laws.proofs.LatticeLemmas.{same_point, three, same_by_coordinates, scaled, lattice, halved}
use Rattle.bintree_laws.proofs.LatticeLemmas.{halved-half}
use Rattle.bintree_laws.proofs.LatticeLemmas.{step_of, step_of-power, corners_of-lattice}
use Rattle.mesh_laws.specs.Vertex.{is_mesh_vertex, centre_of, IsSquareCorner, IsCentre}
use Rattle.mesh_laws.proofs.DescentLemmas.{IsAddress-level}
use Rattle.mesh_laws.proofs.VertexLemmas.{vertex-known}
use Rattle.mosaic_laws.specs.Tile.{IsTile, in_tile, quarter, moved}
use Rattle.mosaic_laws.specs.Glue.{tile_of, local_of}
use Rattle.mosaic_laws.proofs.AddressLemmas.{tile-is, local-big, local-level, in_tile-local, in_tile-quarter}
use Rattle.mosaic_laws.proofs.CornerLemmas.{quarter_corners, quarter-first, in_tile-corners}
use Rattle.page_laws.specs.Pages.{half, is_turned, left_quarter, right_quarter, half_corners}
use Rattle.page_laws.proofs.HalfLemmas.{half-low, half-left, half-right, left_quarter-small, right_quarter-small}
use Rattle.page_laws.specs.Pages.{Pages, cuts_to, is_known, page_corners, IsPagePoint, IsLoadedPoint}
use Rattle.page_laws.specs.Pages.{IsPyramid, page_point}
use Rattle.page_laws.proofs.SquareLemmas.{tile-children}
use Rattle.page_laws.proofs.PyramidLemmas.{IsInPage, known-parts, size}

-- a page's side is an even number of its steps
pub side-even : (n : ℕ) → 1 ≤ n → 2 ^ n ≡ 2 * 2 ^ (n - 1)
side-even n some = let e : n ≡ suc (n - 1) = omega arith in ap (λ k. 2 ^ k) e ∙ pow-succ' 2 (n - 1)

-- a grid in a finer one

step_of-finer : (n q level : ℕ) → level ≤ 2 * n → step_of (n + q) level ≡ 2 ^ q * step_of n level
step_of-finer n q level fits =
    let half = halved-half level in
    let e : n + q - halved level ≡ q + (n - halved level) = omega arith in
    step_of-power (n + q) level (q + (n - halved level)) e
    ∙ pow-add 2 q (n - halved level)
    ∙ ap (λ k. 2 ^ q * k) (sym (step_of-power n level (n - halved level) refl))

scaled-twice : (i j : ℕ) (c : Corners) → scaled (i * j) c ≡ scaled i (scaled j c)
scaled-twice i j c = same_by_coordinates _ _ record {
  apex_x = mul_assoc i j c.apex.x;
  apex_y = mul_assoc i j c.apex.y;
  v0_x = mul_assoc i j c.v0.x;
  v0_y = mul_assoc i j c.v0.y;
  v1_x = mul_assoc i j c.v1.x;
  v1_y = mul_assoc i j c.v1.y;
}

-- a triangle of a grid has the same corners in a finer one, in finer steps
pub corners_of-finer : (n q a : ℕ) → level_of a ≤ 2 * n → corners_of (n + q) a ≡ scaled (2 ^ q) (corners_of n a)
corners_of-finer n q a fits =
    corners_of-lattice (n + q) a (omega arith)
    ∙ ap (λ k. scaled k (lattice (level_of a) a)) (step_of-finer n q (level_of a) fits)
    ∙ scaled-twice (2 ^ q) (step_of n (level_of a)) (lattice (level_of a) a)
    ∙ ap (scaled (2 ^ q)) (sym (corners_of-lattice n a fits))

-- a coordinate of a page's point, from the corner of its square
pub page-coordinate : (n q t r : ℕ) → 2 ^ (n + q) * t + 2 ^ q * r ≡ 2 ^ q * (2 ^ n * t + r)
page-coordinate n q t r =
    let e : 2 ^ (n + q) ≡ 2 ^ n * 2 ^ q = pow-add 2 n q in rw e (omega arith)

moved-scaled : (n q : ℕ) (t : Point) (c : Corners) → moved (2 ^ (n + q)) t (scaled (2 ^ q) c) ≡ page_corners n q t c
moved-scaled n q t c = same_by_coordinates _ _ record {
  apex_x = page-coordinate n q t.x c.apex.x;
  apex_y = page-coordinate n q t.y c.apex.y;
  v0_x = page-coordinate n q t.x c.v0.x;
  v0_y = page-coordinate n q t.y c.v0.y;
  v1_x = page-coordinate n q t.x c.v1.x;
  v1_y = page-coordinate n q t.y c.v1.y;
}

-- the corners of a page's triangle in the terrain are points of the page: those of the small grid
pub page-corners : (n q p a : ℕ) (t : Point) → IsTile (2 ^ p) (2 ^ p) t → 4 ≤ a → IsAddress n a →
    corners_of (n + q + p) (in_tile p t a) ≡ page_corners n q t (corners_of n a)
page-corners n q p a t tile big address =
    let fits = level-le n a address in
    in_tile-corners p t tile (n + q) a big (IsAddress-level (n + q) a address.low (omega arith))
    ∙ ap (moved (2 ^ (n + q)) t) (corners_of-finer n q a fits)
    ∙ moved-scaled n q t (corners_of n a)

-- halves

-- the corners of a half by those of its two quarters
half-by-quarters : (h : ℕ) (turned : Bool) (which : ℕ) → which < 2 → half_corners (2 * h) turned which
    ≡ three (quarter_corners h (left_quarter turned which)).v0 (quarter_corners h (left_quarter turned which)).v1
    (quarter_corners h (right_quarter turned which)).v0
half-by-quarters h false zero less = refl
half-by-quarters h false (suc zero) less = refl
half-by-quarters h true zero less = refl
half-by-quarters h true (suc zero) less = refl
half-by-quarters h turned (suc (suc _)) less = absurd (omega (arith, less))

-- the corners of a triangle by those of its two children
corners-by-children : (n a : ℕ) → 2 ≤ a → corners_of n a
    ≡ three (corners_of n (2 * a)).v0 (corners_of n (2 * a)).v1 (corners_of n (2 * a + 1)).v0
corners-by-children n a low =
    let l = corners_of-left n a low in let r = corners_of-right n a low in rw (l, r) refl

-- those of a quarter are points of the page
quarter-page : (n q p : ℕ) (t : Point) (k : ℕ) → IsTile (2 ^ p) (2 ^ p) t → k < 4 →
    corners_of (suc n + q + p) (quarter p t.x t.y k) ≡ page_corners (suc n) q t (quarter_corners (2 ^ n) k)
quarter-page n q p t k tile small =
    let e : (4 + k) % 4 ≡ k = omega arith in
    let one : level_of (4 + k) ≡ 1 = level_of-first (4 + k) (omega arith) (omega arith) in
    ap (λ z. corners_of (suc n + q + p) (quarter p t.x t.y z)) (sym e)
    ∙ ap (corners_of (suc n + q + p)) (sym (in_tile-quarter p t (4 + k) (omega arith) (omega arith)))
    ∙ page-corners (suc n) q p (4 + k) t tile (omega arith)
    (IsAddress-level (suc n) (4 + k) (omega arith) (omega arith))
    ∙ ap (page_corners (suc n) q t) (quarter-first n k small)

-- and those of a half
pub half-page : (n q p : ℕ) (t : Point) (which : ℕ) → 1 ≤ n → which < 2 → IsTile (2 ^ p) (2 ^ p) t →
    corners_of (n + q + p) (half p t which) ≡ page_corners n q t (half_corners (2 ^ n) (is_turned p t) which)
half-page zero q p t which some less tile = absurd (omega (arith, some))
half-page (suc n) q p t which some less tile =
    let left : corners_of (suc n + q + p) (2 * half p t which)
    ≡ page_corners (suc n) q t (quarter_corners (2 ^ n) (left_quarter (is_turned p t) which)) =
    ap (corners_of (suc n + q + p)) (half-left p t which less)
    ∙ quarter-page n q p t (left_quarter (is_turned p t) which) tile (left_quarter-small (is_turned p t) which) in
    let right : corners_of (suc n + q + p) (2 * half p t which + 1)
    ≡ page_corners (suc n) q t (quarter_corners (2 ^ n) (right_quarter (is_turned p t) which)) =
    ap (corners_of (suc n + q + p)) (half-right p t which less)
    ∙ quarter-page n q p t (right_quarter (is_turned p t) which) tile (right_quarter-small (is_turned p t) which) in
    corners-by-children (suc n + q + p) (half p t which) (half-low p t which less)
    ∙ ap₂ (λ (c d : Corners). three c.v0 c.v1 d.v0) left right
    ∙ ap (page_corners (suc n) q t) (sym (half-by-quarters (2 ^ n) (is_turned p t) which less))
    ∙ ap (λ m. page_corners (suc n) q t (half_corners m (is_turned p t) which)) (sym (pow-succ' 2 n))

-- triangles in a square

-- the corners of a triangle below the halves of a square, to the last level of a page there, are points of the page
pub corners-inside : (n q p c : ℕ) → 2 ≤ c → 2 * p < level_of c → level_of c ≤ 2 * (p + n) →
    corners_of (n + q + p) c ≡ page_corners n q (tile_of p c) (corners_of n (local_of p c))
corners-inside n q p c low deep last =
    let big = local-big p c low deep in
    let level = local-level p c low deep in
    ap (corners_of (n + q + p)) (sym (in_tile-local p c low deep))
    ∙ page-corners n q p (local_of p c) (tile_of p c) (tile-is p c low deep) big
    (IsAddress-level n (local_of p c) (omega arith) (omega arith))

-- the centre of a triangle that a page has is a point of the page
pub page-centre : (n q p x : ℕ) → 2 ≤ x → 2 * p ≤ level_of x → level_of x < 2 * (p + n) →
    IsPagePoint n q (tile_of p (2 * x)) (centre_of (n + q + p) x)
page-centre n q p x low first last =
    let l = level_of-left x low in
    let within = IsWithin-corners_of n (local_of p (2 * x)) in (
      (corners_of n (local_of p (2 * x))).apex,
      record { x = within.apex_x; y = within.apex_y },
      ap (λ (c : Corners). c.apex) (sym (corners_of-left (n + q + p) x low)
          ∙ corners-inside n q p (2 * x) (omega arith) (omega arith) (omega arith)),
    )

-- the corners of squares

-- the square with this corner on one axis, and whether it is its first or its last point there
axis-square : (n p i : ℕ) → i ≤ 2 ^ p → (t : ℕ) × (t < 2 ^ p) × (r : ℕ) × (r ≤ 2 ^ n) × (2 ^ n * i ≡ 2 ^ n * t + r)
axis-square n p i within = ⊎_elim
    (λ (less : i < 2 ^ p). (i, less, 0, omega arith, omega arith))
    (λ (more : 2 ^ p ≤ i).
    let some : 0 < 2 ^ p = pow_pos p in
    let e : i ≡ i - 1 + 1 = omega arith in
    (i - 1, omega arith, 2 ^ n, omega arith, ap (λ k. 2 ^ n * k) e ∙ omega arith))
    (cases_lt i (2 ^ p))

-- a corner of a square is a point of a page there
corner-point : (n q p : ℕ) (c : Point) → IsInSquare (2 ^ p) c →
    (t : Point) × IsTile (2 ^ p) (2 ^ p) t
    × IsPagePoint n q t (record { x = 2 ^ (n + q) * c.x; y = 2 ^ (n + q) * c.y })
corner-point n q p c within =
    let a = axis-square n p c.x within.x in
    let b = axis-square n p c.y within.y in (
      record { x = a.0; y = b.0 },
      record { column = a.1; row = b.1 },
      (
        record { x = a.2; y = b.2 },
        record { x = a.3; y = b.3 },
        same_point (2 ^ (n + q) * c.x) (2 ^ (n + q) * c.y) (2 ^ q * (2 ^ n * a.0 + a.2)) (2 ^ q * (2 ^ n * b.0 + b.2))
            (times c.x (2 ^ n * a.0 + a.2) a.4) (times c.y (2 ^ n * b.0 + b.2) b.4),
      ),
    )
  where
    times : (i k : ℕ) → 2 ^ n * i ≡ k → 2 ^ (n + q) * i ≡ 2 ^ q * k
    times i k same =
        let e : 2 ^ (n + q) ≡ 2 ^ n * 2 ^ q = pow-add 2 n q in
        rw e (let f : 2 ^ n * 2 ^ q * i ≡ 2 ^ q * (2 ^ n * i) = omega arith in f ∙ ap (λ j. 2 ^ q * j) same)

-- the corners of a triangle are loaded points
pub record AreLoaded (w : Pages) (c : Corners) : Type 0 where
  pub apex : IsLoadedPoint w c.apex
  pub v0 : IsLoadedPoint w c.v0
  pub v1 : IsLoadedPoint w c.v1

module _ (w : Pages) (s : IsPyramid w) where
  -- the corners of the coarsest squares are loaded
  loaded-corner : (c : Point) → IsInSquare (2 ^ cuts_to w w.top) c →
      IsLoadedPoint w (record { x = 2 ^ (w.n + w.top) * c.x; y = 2 ^ (w.n + w.top) * c.y })
  loaded-corner c within =
      let k = corner-point w.n w.top (cuts_to w w.top) c within in
      record { q = w.top; square = k.0; coarse = omega arith; page = s.coarsest k.0 k.1; point = k.2 }

  -- so are those of the triangles above these squares
  above-loaded : (c : ℕ) → level_of c ≤ 2 * cuts_to w w.top → AreLoaded w (corners_of w.large c)
  above-loaded c less =
      let e : w.large ≡ cuts_to w w.top + (w.n + w.top) = size w s w.top (omega arith) ∙ omega arith in
      let within = IsWithin-corners_of (cuts_to w w.top) c in
      subst (AreLoaded w)
      (sym (ap (λ k. corners_of k c) e ∙ corners_of-finer (cuts_to w w.top) (w.n + w.top) c less)) record {
        apex = loaded-corner (corners_of (cuts_to w w.top) c).apex record { x = within.apex_x; y = within.apex_y };
        v0 = loaded-corner (corners_of (cuts_to w w.top) c).v0 record { x = within.v0_x; y = within.v0_y };
        v1 = loaded-corner (corners_of (cuts_to w w.top) c).v1 record { x = within.v1_x; y = within.v1_y };
      }

  -- and of those below the halves of a loaded page
  page-loaded : (q c : ℕ) → q ≤ w.top → 2 ≤ c → 2 * cuts_to w q < level_of c →
      level_of c ≤ 2 * (cuts_to w q + w.n) → IsTrue (w.loaded q (tile_of (cuts_to w q) c)) →
      AreLoaded w (corners_of w.large c)
  page-loaded q c coarse low deep last page =
      let is : corners_of w.large c
      ≡ page_corners w.n q (tile_of (cuts_to w q) c) (corners_of w.n (local_of (cuts_to w q) c)) =
      ap (λ k. corners_of k c) (size w s q coarse) ∙ corners-inside w.n q (cuts_to w q) c low deep last in
      let within = IsWithin-corners_of w.n (local_of (cuts_to w q) c) in
      subst (AreLoaded w) (sym is) record {
        apex = at (corners_of w.n (local_of (cuts_to w q) c)).apex record { x = within.apex_x; y = within.apex_y };
        v0 = at (corners_of w.n (local_of (cuts_to w q) c)).v0 record { x = within.v0_x; y = within.v0_y };
        v1 = at (corners_of w.n (local_of (cuts_to w q) c)).v1 record { x = within.v1_x; y = within.v1_y };
      }
    where
      at : (r : Point) → IsInSquare (2 ^ w.n) r → IsLoadedPoint w (page_point w.n q (tile_of (cuts_to w q) c) r)
      at r inside = record {
        q = q;
        square = tile_of (cuts_to w q) c;
        coarse = coarse;
        page = page;
        point = (r, inside, refl);
      }

  -- and of the children of a known triangle
  pub children-loaded : (x : ℕ) → IsTrue (is_known w x) →
      AreLoaded w (corners_of w.large (2 * x)) × AreLoaded w (corners_of w.large (2 * x + 1))
  children-loaded x h =
      let k = known-parts w x h in
      let low = k.0 in
      let l = level_of-left x low in
      let r = level_of-right x low in
      ⊎_elim
      (λ (above : level_of x < 2 * cuts_to w w.top).
      (above-loaded (2 * x) (omega arith), above-loaded (2 * x + 1) (omega arith)))
      (λ (p : (q : ℕ) × (q ≤ w.top) × IsInPage w q x).
      let first = p.2.first in
      let last = p.2.last in (
        page-loaded p.0 (2 * x) p.1 (omega arith) (omega arith) (omega arith) p.2.page,
        page-loaded p.0 (2 * x + 1) p.1 (omega arith) (omega arith) (omega arith)
            (subst (λ t. IsTrue (w.loaded p.0 t)) (sym (tile-children (cuts_to w p.0) x low first)) p.2.page),
      ))
      k.1

  -- its centre
  pub known-centre : (x : ℕ) → IsTrue (is_known w x) → IsLoadedPoint w (centre_of w.large x)
  known-centre x h = subst (IsLoadedPoint w)
      (ap (λ (c : Corners). c.apex) (corners_of-left w.large x (known-parts w x h).0)) (children-loaded x h).0.apex

  -- and its corners
  pub known-corners : (x : ℕ) → IsTrue (is_known w x) → AreLoaded w (corners_of w.large x)
  known-corners x h =
      let c = children-loaded x h in
      subst (AreLoaded w) (sym (corners-by-children w.large x (known-parts w x h).0))
      record { apex = c.0.v0; v0 = c.0.v1; v1 = c.1.v0 }

  side-corner : (i : ℕ) → (i ≡ 0) ⊎ (i ≡ 2 ^ w.large) →
      (k : ℕ) × (k ≤ 2 ^ cuts_to w w.top) × (i ≡ 2 ^ (w.n + w.top) * k)
  side-corner i (inl none) = (0, omega arith, omega arith)
  side-corner i (inr all) = (
    2 ^ cuts_to w w.top,
    omega arith,
    all ∙ ap (λ k. 2 ^ k) (size w s w.top (omega arith)) ∙ pow-add 2 (w.n + w.top) (cuts_to w w.top),
  )

  -- and each vertex of a mesh that splits known triangles alone
  pub vertex-loaded : (has : ℕ → Bool) (r : Point) → IsSubset has (is_known w) →
      IsTrue (is_mesh_vertex w.large (leaves_of w.large has) r) → IsLoadedPoint w r
  vertex-loaded has r inside vertex = ⊎_elim
      (λ (corner : IsSquareCorner (2 ^ w.large) r).
      let a = side-corner r.x corner.0 in
      let b = side-corner r.y corner.1 in
      subst (IsLoadedPoint w)
      (same_point (2 ^ (w.n + w.top) * a.0) (2 ^ (w.n + w.top) * b.0) r.x r.y (sym a.2) (sym b.2))
      (loaded-corner (record { x = a.0; y = b.0 }) record { x = a.1; y = b.1 }))
      (λ (centre : IsCentre w.large has r).
      subst (IsLoadedPoint w) centre.2 (known-centre centre.0 (inside centre.0 centre.1)))
      (vertex-known w.large has r vertex)
