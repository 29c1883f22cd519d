-- Worked numbers of pages. They were made by geometry alone, from the corners and the centres of triangles, by a
-- program that shares nothing with the definitions; the check computes each of them here.
-- The terrain has 5 points a side, and pages have 3: one page of every second point is the whole terrain, and one of
-- every point is its lower left quarter. The height of (x, y) is 3 x + y y.
use Rattle.std.proofs.Common.{◌≡◌, ℕ, ◌+◌, ◌*◌, ◌/◌, ◌^◌, ◌≤◌, ◌&&◌, IsTrue, nat_eq, nat_le, filter, [], ◌∷◌, refl}
use Rattle.std.proofs.Common.{subst, arith}
use Rattle.std.proofs.lemmas.Bool.{and_from, and_parts, le-leb, eq-eqb, eqb-true}
use Rattle.std.specs.List.{range_with_len}
use Rattle.mesh_defs.specs.declared.point.Point.{Point}
use Rattle.mesh_defs.specs.Triangle.{level_of, corners_of}
use Rattle.mesh_laws.specs.Edge.{mate_of}
use Rattle.mosaic_laws.specs.Tile.{IsTile}
use Rattle.page_laws.specs.Opened.{with_known_mate}
use Rattle.page_laws.specs.Pages.{Pages, cuts_to, half, is_known, page_point, IsPyramid}
use Rattle.page_laws.specs.declared.wedge.KnownWedge.{KnownWedge}
use Rattle.page_laws.specs.Loaded.{known_wedge}
use Rattle.mesh_defs.specs.BoundingBox.{point}

abbrev two_pages : Pages
two_pages = record {
  large = 2;
  n = 1;
  top = 1;
  loaded = λ q t. nat_le q 1 && (nat_eq t.x 0 && nat_eq t.y 0);
}

abbrev height : Point → ℕ
height p = 3 * p.x + p.y * p.y

abbrev wedge : ℕ → ℕ → ℕ → KnownWedge
wedge thickness low high = record { thickness = thickness; low = low; high = high }

-- the halves of the whole, of a quarter of it at the lower left and of one at the lower right
halves_of_squares :
    (half 0 (point 0 0) 0 ≡ 2) × (half 0 (point 0 0) 1 ≡ 3) × (half 1 (point 0 0) 0 ≡ 8) × (half 1 (point 0 0) 1 ≡ 11)
    × (half 1 (point 1 0) 0 ≡ 9) × (half 1 (point 1 0) 1 ≡ 14)
halves_of_squares = (refl, refl, refl, refl, refl, refl)

-- the point in the middle of the page at the lower right, which has no page here
points_of_pages :
    (page_point 1 0 (point 1 0) (point 1 1) ≡ point 3 1) × (page_point 1 1 (point 0 0) (point 1 1) ≡ point 2 2)
points_of_pages = (refl, refl)

-- two levels of each page
known_triangles : filter (is_known two_pages) (range_with_len 2 30)
    ≡ 2 ∷ (3 ∷ (4 ∷ (5 ∷ (6 ∷ (7 ∷ (8 ∷ (11 ∷ (16 ∷ (17 ∷ (22 ∷ (23 ∷ [])))))))))))
unfolding level_of
known_triangles = refl

-- 16 and 23 have mates beyond the sides of the finer page, 19 and 20
open_triangles : filter (with_known_mate (is_known two_pages)) (range_with_len 2 30)
    ≡ 2 ∷ (3 ∷ (4 ∷ (5 ∷ (6 ∷ (7 ∷ (8 ∷ (11 ∷ (17 ∷ (22 ∷ [])))))))))
unfolding level_of mate_of
open_triangles = refl

-- 9 is not known, and 3 has no finer page below it
wedges : (known_wedge 2 height (is_known two_pages) 2 ≡ wedge 20 0 16)
    × (known_wedge 2 height (is_known two_pages) 3 ≡ wedge 16 10 28)
    × (known_wedge 2 height (is_known two_pages) 4 ≡ wedge 4 0 12)
    × (known_wedge 2 height (is_known two_pages) 5 ≡ wedge 12 0 16)
    × (known_wedge 2 height (is_known two_pages) 16 ≡ wedge 2 4 10)
    × (known_wedge 2 height (is_known two_pages) 9 ≡ wedge 0 6 12)
unfolding level_of corners_of known_wedge
wedges = (refl, refl, refl, refl, refl, refl)

-- the two pages are nested

at_corner : (q : ℕ) (t : Point) → q ≤ 1 → t.x ≡ 0 → t.y ≡ 0 → IsTrue (two_pages.loaded q t)
at_corner q t fits x y = and_from (nat_le q 1) (nat_eq t.x 0 && nat_eq t.y 0) (le-leb q 1 fits)
    (and_from (nat_eq t.x 0) (nat_eq t.y 0) (eq-eqb t.x 0 x) (eq-eqb t.y 0 y))

corner_of : (q : ℕ) (t : Point) → IsTrue (two_pages.loaded q t) → (t.x ≡ 0) × (t.y ≡ 0)
corner_of q t h =
    let a = and_parts (nat_le q 1) (nat_eq t.x 0 && nat_eq t.y 0) h in
    let b = and_parts (nat_eq t.x 0) (nat_eq t.y 0) a.1 in
    (eqb-true t.x 0 b.0, eqb-true t.y 0 b.1)

pages_are_nested : IsPyramid two_pages
pages_are_nested = record {
  some = omega arith;
  fits = omega arith;
  coarsest = λ t tile.
      let column = tile.column in let row = tile.row in at_corner 1 t (omega arith) (omega arith) (omega arith);
  nested = λ q t less h.
      let c = corner_of q t h in let x = c.0 in let y = c.1 in
      at_corner (q + 1) (record { x = t.x / 2; y = t.y / 2 }) (omega arith) (omega arith) (omega arith);
  beside = λ q t u less h tile next.
      let first : q ≡ 0 = omega arith in
      let one : IsTile (2 ^ 0) (2 ^ 0) u =
      subst (λ k. IsTile (2 ^ cuts_to two_pages (k + 1)) (2 ^ cuts_to two_pages (k + 1)) u) first tile in
      let column = one.column in let row = one.row in
      at_corner (q + 1) u (omega arith) (omega arith) (omega arith);
}
