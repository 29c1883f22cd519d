-- Which triangles are open where pages are nested: the known ones, but for the last border triangles at gaps.
use Rattle.std.proofs.Common.{◌≡◌, ◌≢◌, ℕ, zero, suc, ◌+◌, ◌-◌, ◌*◌, ◌/◌, ◌%◌, ◌^◌, ◌<◌, ◌≤◌, ◌⊎◌, inl, inr, sym}
use Rattle.std.proofs.Common.{◌∙◌, ap, subst, arith, ⊎_elim, Bool, false, ◌&&◌, ◌||◌, IsTrue, nat_le, nat_lt}
use Rattle.std.proofs.lemmas.Bool.{cases_lt, cases_Bool, and_parts, and_from, or_left, or_right, or_cases, both_ways}
use Rattle.std.proofs.lemmas.Bool.{ltb-true, lt-ltb, le-ltb, leb-true, le-leb, false_from_ne_true}
use Rattle.std.proofs.lemmas.Nat.{shr-shr}
use Rattle.mesh_defs.specs.declared.point.Point.{Point}
use Rattle.mesh_defs.specs.Triangle.{level_of, IsAddress, IsSplittable, IsMate}
use Rattle.mesh_defs.specs.ClosedSet.{IsClosed}
use Rattle.mesh_defs.proofs.TestLemmas.{same_tests}
use Rattle.bintree_laws.proofs.LevelLemmas.{level_of-left, level_of-parent, level-le}
use Rattle.bintree_laws.proofs.LatticeLemmas.{same_point}
use Rattle.bintree_laws.proofs.CentreLemmas.{mate_symmetric, mate_unique}
use Rattle.mesh_laws.proofs.DescentLemmas.{IsAddress-splittable}
use Rattle.mosaic_laws.specs.Tile.{IsTile, in_tile}
use Rattle.mosaic_laws.specs.Glue.{tile_of}
use Rattle.mosaic_laws.proofs.AddressLemmas.{tile-is, in_tile-level, in_tile-big}
use Rattle.mosaic_laws.proofs.ClosedLemmas.{cases_point}
use Rattle.page_laws.specs.Opened.{IsOpen, with_known_mate}
use Rattle.page_laws.specs.Pages.{Pages, cuts_to, square_at, is_in_page, is_in_pages, is_known, square_above, AreBeside}
use Rattle.page_laws.specs.Pages.{IsPyramid, IsAtGap}
use Rattle.page_laws.proofs.OpenLemmas.{mate-parts, mate-known, mate-from}
use Rattle.page_laws.proofs.SquareLemmas.{in_tile-square, tile-self, tile-parent, tile-above}
use Rattle.page_laws.proofs.BesideLemmas.{mates-half, mates-beside, beside-above}

-- tests

-- what is known of a triangle in a page
pub record IsInPage (w : Pages) (q x : ℕ) : Type 0 where
  pub first : 2 * cuts_to w q ≤ level_of x
  pub last : level_of x < 2 * (cuts_to w q + w.n)
  pub page : IsTrue (w.loaded q (square_at w q x))

module _ (w : Pages) where
  pub page-parts : (q x : ℕ) → IsTrue (is_in_page w q x) → IsInPage w q x
  page-parts q x h =
      let a = and_parts (nat_le (2 * cuts_to w q) (level_of x))
      (nat_lt (level_of x) (2 * (cuts_to w q + w.n)) && w.loaded q (square_at w q x)) h in
      let b = and_parts (nat_lt (level_of x) (2 * (cuts_to w q + w.n))) (w.loaded q (square_at w q x)) a.1 in
      record {
        first = leb-true (2 * cuts_to w q) (level_of x) a.0;
        last = ltb-true (level_of x) (2 * (cuts_to w q + w.n)) b.0;
        page = b.1;
      }

  pub page-from : (q x : ℕ) → IsInPage w q x → IsTrue (is_in_page w q x)
  page-from q x i = and_from (nat_le (2 * cuts_to w q) (level_of x))
      (nat_lt (level_of x) (2 * (cuts_to w q + w.n)) && w.loaded q (square_at w q x))
      (le-leb (2 * cuts_to w q) (level_of x) i.first)
      (and_from (nat_lt (level_of x) (2 * (cuts_to w q + w.n))) (w.loaded q (square_at w q x))
      (lt-ltb (level_of x) (2 * (cuts_to w q + w.n)) i.last) i.page)

  pages-parts : (q x : ℕ) → IsTrue (is_in_pages w q x) → (r : ℕ) × (r ≤ q) × IsTrue (is_in_page w r x)
  pages-parts zero x h = (0, omega arith, h)
  pages-parts (suc q) x h = ⊎_elim
      (λ here. (suc q, omega arith, here))
      (λ finer. let r = pages-parts q x finer in let le = r.1 in (r.0, omega arith, r.2))
      (or_cases (is_in_page w (suc q) x) (is_in_pages w q x) h)

  pages-from : (q r x : ℕ) → r ≤ q → IsTrue (is_in_page w r x) → IsTrue (is_in_pages w q x)
  pages-from zero r x le h = let e : r ≡ 0 = omega arith in subst (λ k. IsTrue (is_in_page w k x)) e h
  pages-from (suc q) r x le h = ⊎_elim
      (λ (less : r < suc q).
      or_right (is_in_page w (suc q) x) (is_in_pages w q x) (pages-from q r x (omega arith) h))
      (λ (more : suc q ≤ r).
      let e : r ≡ suc q = omega arith in
      or_left (is_in_page w (suc q) x) (is_in_pages w q x) (subst (λ k. IsTrue (is_in_page w k x)) e h))
      (cases_lt r (suc q))

  -- the test in words
  pub known-in : (x : ℕ) → IsTrue (is_known w x) → (2 ≤ x) × ((level_of x < 2 * cuts_to w w.top)
      ⊎ ((q : ℕ) × (q ≤ w.top) × IsTrue (is_in_page w q x)))
  known-in x h =
      let a = and_parts (nat_le 2 x) (nat_lt (level_of x) (2 * cuts_to w w.top) || is_in_pages w w.top x) h in (
        leb-true 2 x a.0,
        ⊎_elim
            (λ above. inl (ltb-true (level_of x) (2 * cuts_to w w.top) above))
            (λ some. inr (pages-parts w.top x some))
            (or_cases (nat_lt (level_of x) (2 * cuts_to w w.top)) (is_in_pages w w.top x) a.1),
      )

  -- a known triangle is above the coarsest pages or in a page
  pub known-parts : (x : ℕ) → IsTrue (is_known w x) → (2 ≤ x) × ((level_of x < 2 * cuts_to w w.top)
      ⊎ ((q : ℕ) × (q ≤ w.top) × IsInPage w q x))
  known-parts x h = let k = known-in x h in (
    k.0,
    ⊎_elim (λ above. inl above) (λ r. inr (r.0, r.1, page-parts r.0 x r.2)) k.1,
  )

  pub known-above : (x : ℕ) → 2 ≤ x → level_of x < 2 * cuts_to w w.top → IsTrue (is_known w x)
  known-above x low less =
      and_from (nat_le 2 x) (nat_lt (level_of x) (2 * cuts_to w w.top) || is_in_pages w w.top x) (le-leb 2 x low)
      (or_left (nat_lt (level_of x) (2 * cuts_to w w.top)) (is_in_pages w w.top x)
      (lt-ltb (level_of x) (2 * cuts_to w w.top) less))

  pub known-page : (q x : ℕ) → 2 ≤ x → q ≤ w.top → IsInPage w q x → IsTrue (is_known w x)
  known-page q x low coarse i =
      and_from (nat_le 2 x) (nat_lt (level_of x) (2 * cuts_to w w.top) || is_in_pages w w.top x) (le-leb 2 x low)
      (or_right (nat_lt (level_of x) (2 * cuts_to w w.top)) (is_in_pages w w.top x)
      (pages-from w.top q x coarse (page-from q x i)))

  pub known-of : (x : ℕ) → (2 ≤ x) × ((level_of x < 2 * cuts_to w w.top)
      ⊎ ((q : ℕ) × (q ≤ w.top) × IsTrue (is_in_page w q x))) → IsTrue (is_known w x)
  known-of x h = ⊎_elim
      (λ (above : level_of x < 2 * cuts_to w w.top). known-above x h.0 above)
      (λ (r : (q : ℕ) × (q ≤ w.top) × IsTrue (is_in_page w q x)).
      known-page r.0 x h.0 r.1 (page-parts r.0 x r.2))
      h.1

module _ (w : Pages) (s : IsPyramid w) where
  -- the large grid as one of squares of a resolution
  pub size : (q : ℕ) → q ≤ w.top → w.large ≡ w.n + q + cuts_to w q
  size q coarse = let fits = s.fits in omega arith

  pub cut-more : (q : ℕ) → q < w.top → suc (cuts_to w (q + 1)) ≡ cuts_to w q
  cut-more q less = let fits = s.fits in omega arith

  -- the square of the next resolution is the one above
  pub square-above : (q x : ℕ) → q < w.top → 2 ≤ x → 2 * cuts_to w q ≤ level_of x →
      square_at w (q + 1) x ≡ square_above (square_at w q x)
  square-above q x less low deep =
      let e = cut-more q less in
      let l = level_of-left x low in
      tile-above (cuts_to w (q + 1)) (2 * x) (omega arith) (omega arith)
      ∙ ap (λ k. square_above (tile_of k (2 * x))) e

  -- and so on
  pub square-up : (k q x : ℕ) → q + k ≤ w.top → 2 ≤ x → 2 * cuts_to w q ≤ level_of x →
      square_at w (q + k) x ≡ record { x = (square_at w q x).x / 2 ^ k; y = (square_at w q x).y / 2 ^ k }
  square-up zero q x fits low deep =
      let e : q + 0 ≡ q = omega arith in
      ap (λ j. square_at w j x) e
      ∙ same_point (square_at w q x).x (square_at w q x).y ((square_at w q x).x / 2 ^ 0) ((square_at w q x).y / 2 ^ 0)
      (omega arith) (omega arith)
  square-up (suc k) q x fits low deep =
      let e : q + suc k ≡ q + k + 1 = omega arith in
      let f : k + 1 ≡ suc k = omega arith in
      ap (λ j. square_at w j x) e
      ∙ square-above (q + k) x (omega arith) low (omega arith)
      ∙ ap square_above (square-up k q x (omega arith) low deep)
      ∙ same_point ((square_at w q x).x / 2 ^ k / 2) ((square_at w q x).y / 2 ^ k / 2)
      ((square_at w q x).x / 2 ^ suc k) ((square_at w q x).y / 2 ^ suc k)
      (shr-shr (square_at w q x).x k 1 ∙ ap (λ j. (square_at w q x).x / 2 ^ j) f)
      (shr-shr (square_at w q x).y k 1 ∙ ap (λ j. (square_at w q x).y / 2 ^ j) f)

  -- a square of a triangle is one of the terrain
  pub square-tile : (q x : ℕ) → 2 ≤ x → 2 * cuts_to w q ≤ level_of x →
      IsTile (2 ^ cuts_to w q) (2 ^ cuts_to w q) (square_at w q x)
  square-tile q x low deep = let l = level_of-left x low in tile-is (cuts_to w q) (2 * x) (omega arith) (omega arith)

  -- a page lies in loaded pages of all coarser resolutions
  loaded-more : (k q x : ℕ) → q + k ≤ w.top → 2 ≤ x → 2 * cuts_to w q ≤ level_of x →
      IsTrue (w.loaded q (square_at w q x)) → IsTrue (w.loaded (q + k) (square_at w (q + k) x))
  loaded-more zero q x fits low deep h =
      let e : q ≡ q + 0 = omega arith in subst (λ j. IsTrue (w.loaded j (square_at w j x))) e h
  loaded-more (suc k) q x fits low deep h =
      let e : q + k + 1 ≡ q + suc k = omega arith in
      let up = loaded-more k q x (omega arith) low deep h in
      subst (λ j. IsTrue (w.loaded j (square_at w j x))) e
      (subst (λ t. IsTrue (w.loaded (q + k + 1) t))
      (sym (square-above (q + k) x (omega arith) low (omega arith)))
      (s.nested (q + k) (square_at w (q + k) x) (omega arith) up))

  pub loaded-up : (r q x : ℕ) → r ≤ q → q ≤ w.top → 2 ≤ x → 2 * cuts_to w r ≤ level_of x →
      IsTrue (w.loaded r (square_at w r x)) → IsTrue (w.loaded q (square_at w q x))
  loaded-up r q x more coarse low deep h =
      let e : r + (q - r) ≡ q = omega arith in
      subst (λ j. IsTrue (w.loaded j (square_at w j x))) e (loaded-more (q - r) r x (omega arith) low deep h)

  -- and beside loaded pages of the next resolution
  pub loaded-beside : (q x y : ℕ) → q < w.top → 2 ≤ x → 2 ≤ y → 2 * cuts_to w q ≤ level_of x →
      2 * cuts_to w q ≤ level_of y → IsTrue (w.loaded q (square_at w q x)) →
      AreBeside (square_at w q x) (square_at w q y) → IsTrue (w.loaded (q + 1) (square_at w (q + 1) y))
  loaded-beside q x y less low low' deep deep' h beside =
      let e = cut-more q less in
      let up = square-above q y less low' deep' in
      subst (λ t. IsTrue (w.loaded (q + 1) t)) (sym up) (⊎_elim
      (λ (same : square_above (square_at w q x) ≡ square_above (square_at w q y)).
      subst (λ t. IsTrue (w.loaded (q + 1) t)) same (s.nested q (square_at w q x) less h))
      (λ (next : AreBeside (square_above (square_at w q x)) (square_above (square_at w q y))).
      s.beside q (square_at w q x) (square_above (square_at w q y)) less h
      (subst (IsTile (2 ^ cuts_to w (q + 1)) (2 ^ cuts_to w (q + 1))) up
      (square-tile (q + 1) y low' (omega arith))) next)
      (beside-above (square_at w q x) (square_at w q y) beside))

  -- a known triangle can be split
  pub known-splittable : (x : ℕ) → IsTrue (is_known w x) → IsSplittable w.large x
  known-splittable x h =
      let k = known-parts w x h in
      let fits = s.fits in
      ⊎_elim
      (λ (above : level_of x < 2 * cuts_to w w.top). record { low = k.0; coarse = omega arith })
      (λ (p : (q : ℕ) × (q ≤ w.top) × IsInPage w q x).
      let coarse = p.1 in let last = p.2.last in record { low = k.0; coarse = omega arith })
      k.1

  -- mates lie in one square, or in two that are beside each other and then at an odd level
  pub mates-square : (q x y : ℕ) → q ≤ w.top → 2 * cuts_to w q ≤ level_of x → IsAddress w.large x → IsMate w.large x y →
      (square_at w q x ≡ square_at w q y)
      ⊎ (AreBeside (square_at w q x) (square_at w q y) × (level_of x % 2 ≡ 1))
  mates-square q x y coarse deep address mate = ⊎_elim
      (λ same. inl same)
      (λ (other : square_at w q x ≢ square_at w q y).
      let e = size q coarse in
      let some = s.some in
      let address' : IsAddress (w.n + q + cuts_to w q) x = subst (λ k. IsAddress k x) e address in
      let mate' : IsMate (w.n + q + cuts_to w q) x y = subst (λ k. IsMate k x y) e mate in
      let level = mate.level in
      ⊎_elim
      (λ (more : 2 * cuts_to w q < level_of x).
      let here = tile-self (cuts_to w q) x address.low more in
      let there = tile-self (cuts_to w q) y mate.address.low (omega arith) in
      let r = mates-beside (w.n + q) (cuts_to w q) x y more address' mate'
      (λ same. other (here ∙ same ∙ sym there)) in
      inr (
        subst (λ t. AreBeside t (square_at w q y)) (sym here)
            (subst (λ u. AreBeside (tile_of (cuts_to w q) x) u) (sym there) r.0),
        r.1,
      ))
      (λ (less : level_of x ≤ 2 * cuts_to w q).
      absurd (other (mates-half (w.n + q) (cuts_to w q) x y (omega arith) (omega arith) address' mate')))
      (cases_lt (2 * cuts_to w q) (level_of x)))
      (cases_point (square_at w q x) (square_at w q y))

  -- gaps

  module _ (x y : ℕ) (here : IsTrue (is_known w x)) (mate : IsMate w.large x y) where
    address : IsAddress w.large x
    address = IsAddress-splittable w.large x (known-splittable x here)

    -- the mate is known where its square has a page of that resolution
    known-there : (q : ℕ) → q ≤ w.top → IsInPage w q x → IsTrue (w.loaded q (square_at w q y)) → IsTrue (is_known w y)
    known-there q coarse i page =
        let level = mate.level in let first = i.first in let last = i.last in
        known-page w q y mate.address.low coarse record { first = omega arith; last = omega arith; page = page }

    -- or of the next one, but for the last level
    known-next : (q : ℕ) → q ≤ w.top → IsInPage w q x → AreBeside (square_at w q x) (square_at w q y) →
        level_of x + 3 ≤ 2 * (cuts_to w q + w.n) → IsTrue (is_known w y)
    known-next q coarse i beside room =
        let level = mate.level in
        let first = i.first in
        ⊎_elim
        (λ (less : q < w.top).
        let e = cut-more q less in
        known-page w (q + 1) y mate.address.low (omega arith) record {
          first = omega arith;
          last = omega arith;
          page = loaded-beside q x y less address.low mate.address.low first (omega arith) i.page beside;
        })
        (λ (most : w.top ≤ q).
        let same : w.top ≡ q = omega arith in
        known-there q coarse i (subst (λ k. IsTrue (w.loaded k (square_at w k y))) same
        (s.coarsest (square_at w w.top y)
        (square-tile w.top y mate.address.low (rw same (omega arith))))))
        (cases_lt q w.top)

    -- where a known triangle has a mate that is not known, there is a gap
    pub gap-forth : is_known w y ≡ false → IsAtGap w x y
    gap-forth none =
        let k = known-parts w x here in
        let level = mate.level in
        ⊎_elim
        (λ (above : level_of x < 2 * cuts_to w w.top).
        absurd (both_ways (is_known w y) none (known-above w y mate.address.low (omega arith))))
        (λ (p : (q : ℕ) × (q ≤ w.top) × IsInPage w q x).
        let last = p.2.last in
        ⊎_elim
        (λ (same : square_at w p.0 x ≡ square_at w p.0 y).
        absurd (both_ways (is_known w y) none
        (known-there p.0 p.1 p.2 (subst (λ t. IsTrue (w.loaded p.0 t)) same p.2.page))))
        (λ (r : AreBeside (square_at w p.0 x) (square_at w p.0 y) × (level_of x % 2 ≡ 1)).
        let odd = r.1 in
        ⊎_elim
        (λ there. absurd (both_ways (is_known w y) none (known-there p.0 p.1 p.2 there)))
        (λ missing. ⊎_elim
        (λ (more : level_of x + 1 < 2 * (cuts_to w p.0 + w.n)).
        absurd (both_ways (is_known w y) none (known-next p.0 p.1 p.2 r.0 (omega arith))))
        (λ (end : 2 * (cuts_to w p.0 + w.n) ≤ level_of x + 1). record {
          q = p.0;
          coarse = p.1;
          last = omega arith;
          page = p.2.page;
          across = r.0;
          missing = missing;
        })
        (cases_lt (level_of x + 1) (2 * (cuts_to w p.0 + w.n))))
        (cases_Bool (w.loaded p.0 (square_at w p.0 y))))
        (mates-square p.0 x y p.1 p.2.first address mate))
        k.1

  -- and the other way round
  pub gap-back : (x y : ℕ) → IsMate w.large x y → IsAtGap w x y → is_known w y ≡ false
  gap-back x y mate g = false_from_ne_true (is_known w y) (λ there.
      let k = known-parts w y there in
      let level = mate.level in
      let last = g.last in
      let coarse = g.coarse in
      let some = s.some in
      let fits = s.fits in
      ⊎_elim
      (λ (above : level_of y < 2 * cuts_to w w.top). absurd (omega arith))
      (λ (p : (r : ℕ) × (r ≤ w.top) × IsInPage w r y).
      let coarse' = p.1 in
      let last' = p.2.last in
      both_ways (w.loaded g.q (square_at w g.q y)) g.missing
      (loaded-up p.0 g.q y (omega arith) coarse mate.address.low p.2.first p.2.page))
      k.1)

  -- the open set

  -- the parent of a known triangle is known
  pub parent-known : (x : ℕ) → IsTrue (is_known w x) → 4 ≤ x → IsTrue (is_known w (x / 2))
  parent-known x here big =
      let k = known-parts w x here in
      let up = level_of-parent x big in
      let fits = s.fits in
      let some = s.some in
      ⊎_elim
      (λ (above : level_of x < 2 * cuts_to w w.top). known-above w (x / 2) (omega arith) (omega arith))
      (λ (p : (q : ℕ) × (q ≤ w.top) × IsInPage w q x).
      let first = p.2.first in
      let last = p.2.last in
      ⊎_elim
      (λ (more : 2 * cuts_to w p.0 < level_of x).
      known-page w p.0 (x / 2) (omega arith) p.1 record {
        first = omega arith;
        last = omega arith;
        page = subst (λ t. IsTrue (w.loaded p.0 t)) (sym (tile-parent (cuts_to w p.0) x big more)) p.2.page;
      })
      (λ (least : level_of x ≤ 2 * cuts_to w p.0). ⊎_elim
      (λ (less : p.0 < w.top).
      let e = cut-more p.0 less in
      known-page w (p.0 + 1) (x / 2) (omega arith) (omega arith) record {
        first = omega arith;
        last = omega arith;
        page = subst (λ t. IsTrue (w.loaded (p.0 + 1) t)) (sym (tile-parent (cuts_to w (p.0 + 1)) x big (omega arith)))
            (subst (λ t. IsTrue (w.loaded (p.0 + 1) t)) (sym (square-above p.0 x less (omega arith) first))
            (s.nested p.0 (square_at w p.0 x) less p.2.page));
      })
      (λ (most : w.top ≤ p.0).
      let same : p.0 ≡ w.top = omega arith in
      known-above w (x / 2) (omega arith) (omega arith))
      (cases_lt p.0 w.top))
      (cases_lt (2 * cuts_to w p.0) (level_of x)))
      k.1

  -- a triangle at a gap has no known children
  gap-childless : (x y : ℕ) → 4 ≤ x → IsTrue (is_known w x) → IsMate w.large (x / 2) y → IsAtGap w (x / 2) y → ⊥
  gap-childless x y big here mate g =
      let k = known-parts w x here in
      let up = level_of-parent x big in
      let last = g.last in
      let coarse = g.coarse in
      let some = s.some in
      let fits = s.fits in
      let level = mate.level in
      ⊎_elim
      (λ (above : level_of x < 2 * cuts_to w w.top). absurd (omega arith))
      (λ (p : (r : ℕ) × (r ≤ w.top) × IsInPage w r x).
      let coarse' = p.1 in
      let first' = p.2.first in
      let last' = p.2.last in
      let less : p.0 < g.q = omega arith in
      let f : g.q - 1 + 1 ≡ g.q = omega arith in
      let page : IsTrue (w.loaded (g.q - 1) (square_at w (g.q - 1) x)) =
      loaded-up p.0 (g.q - 1) x (omega arith) (omega arith) (omega arith) first' p.2.page in
      let above : square_above (square_at w (g.q - 1) x) ≡ square_at w g.q (x / 2) =
      sym (square-above (g.q - 1) x (omega arith) (omega arith) (omega arith))
      ∙ ap (λ j. square_at w j x) f
      ∙ sym (tile-parent (cuts_to w g.q) x big (omega arith)) in
      let beside : AreBeside (square_above (square_at w (g.q - 1) x)) (square_at w g.q y) =
      subst (λ t. AreBeside t (square_at w g.q y)) (sym above) g.across in
      let tile : IsTile (2 ^ cuts_to w (g.q - 1 + 1)) (2 ^ cuts_to w (g.q - 1 + 1)) (square_at w g.q y) =
      subst (λ j. IsTile (2 ^ cuts_to w j) (2 ^ cuts_to w j) (square_at w g.q y)) (sym f)
      (square-tile g.q y mate.address.low (omega arith)) in
      both_ways (w.loaded g.q (square_at w g.q y)) g.missing
      (subst (λ j. IsTrue (w.loaded j (square_at w g.q y))) f
      (s.beside (g.q - 1) (square_at w (g.q - 1) x) (square_at w g.q y) (omega arith) page tile beside)))
      k.1

  -- so the known triangles with a known mate or none are closed
  open-closed : IsClosed w.large (with_known_mate (is_known w))
  open-closed = record {
    splittable = λ x h. known-splittable x (mate-parts (is_known w) x h);
    parent = λ x h big.
        let here = mate-parts (is_known w) x h in
        let up = parent-known x here big in
        mate-from (is_known w) (x / 2) w.large (known-splittable (x / 2) up) up (λ y mate. ⊎_elim
        (λ there. there)
        (λ none. absurd (gap-childless x y big here mate (gap-forth (x / 2) y up mate none)))
        (cases_Bool (is_known w y)));
    mate = λ x y h mate.
        let here = mate-parts (is_known w) x h in
        let splittable = known-splittable x here in
        let address = IsAddress-splittable w.large x splittable in
        let there = mate-known (is_known w) x w.large y splittable h mate in
        mate-from (is_known w) y w.large (known-splittable y there) there (λ z back.
        let same : x ≡ z =
        mate_unique w.large y x z mate.address (mate_symmetric w.large x y address mate) back in
        subst (λ k. IsTrue (is_known w k)) same here);
  }

  -- and they are the open ones
  pub known-open : IsOpen w.large (is_known w) (with_known_mate (is_known w))
  known-open = record {
    closed = open-closed;
    inside = λ x h. mate-parts (is_known w) x h;
    greatest = λ other closed inside x h.
        mate-from (is_known w) x w.large (closed.splittable x h) (inside x h)
        (λ y mate. inside y (closed.mate x y h mate));
  }

  -- the known ones but for those at gaps
  pub open-known : (is_open : ℕ → Bool) → IsOpen w.large (is_known w) is_open → (x : ℕ) → IsTrue (is_open x) →
      IsTrue (is_known w x) × ((y : ℕ) → IsMate w.large x y → IsAtGap w x y → ⊥)
  open-known is_open o x h = (
    o.inside x h,
    (λ y mate g. both_ways (is_known w y) (gap-back x y mate g) (o.inside y (o.closed.mate x y h mate))),
  )

  pub open-from : (is_open : ℕ → Bool) → IsOpen w.large (is_known w) is_open → (x : ℕ) → IsTrue (is_known w x) →
      ((y : ℕ) → IsMate w.large x y → IsAtGap w x y → ⊥) → IsTrue (is_open x)
  open-from is_open o x here none =
      o.greatest (with_known_mate (is_known w)) open-closed (λ z h. mate-parts (is_known w) z h) x
      (mate-from (is_known w) x w.large (known-splittable x here) here (λ y mate. ⊎_elim
      (λ there. there)
      (λ missing. absurd (none y mate (gap-forth x y here mate missing)))
      (cases_Bool (is_known w y))))

  -- the finest page

  -- where x lies in a loaded page, and in no finer one below its last level, the page decides whether x is known
  pub known-finest : (q x : ℕ) → q ≤ w.top → 2 ≤ x → 2 * cuts_to w q ≤ level_of x →
      IsTrue (w.loaded q (square_at w q x)) →
      (1 ≤ q → 2 * (cuts_to w q + w.n) ≤ level_of x → w.loaded (q - 1) (square_at w (q - 1) x) ≡ false) →
      is_known w x ≡ nat_lt (level_of x) (2 * (cuts_to w q + w.n))
  known-finest q x coarse low deep page none =
      let some = s.some in
      let fits = s.fits in
      ⊎_elim
      (λ (less : level_of x < 2 * (cuts_to w q + w.n)).
      known-page w q x low coarse record { first = deep; last = less; page = page }
      ∙ sym (lt-ltb (level_of x) (2 * (cuts_to w q + w.n)) less))
      (λ (more : 2 * (cuts_to w q + w.n) ≤ level_of x).
      false_from_ne_true (is_known w x) (λ here.
      ⊎_elim
      (λ (above : level_of x < 2 * cuts_to w w.top). absurd (omega arith))
      (λ (p : (r : ℕ) × (r ≤ w.top) × IsInPage w r x).
      let coarse' = p.1 in
      let last' = p.2.last in
      let finer : p.0 < q = omega arith in
      both_ways (w.loaded (q - 1) (square_at w (q - 1) x)) (none (omega arith) more)
      (loaded-up p.0 (q - 1) x (omega arith) (omega arith) low p.2.first p.2.page))
      (known-parts w x here).1)
      ∙ sym (le-ltb (level_of x) (2 * (cuts_to w q + w.n)) more))
      (cases_lt (level_of x) (2 * (cuts_to w q + w.n)))

  -- so of the triangles of a page without finer pages just those are known that have their centre there
  pub page-alone : (q : ℕ) (t : Point) (b : ℕ) → q ≤ w.top → IsTile (2 ^ cuts_to w q) (2 ^ cuts_to w q) t →
      IsTrue (w.loaded q t) → 4 ≤ b → IsAddress w.n b →
      (1 ≤ q → level_of b ≡ 2 * w.n →
      w.loaded (q - 1) (square_at w (q - 1) (in_tile (cuts_to w q) t b)) ≡ false) →
      is_known w (in_tile (cuts_to w q) t b) ≡ nat_lt (level_of b) (2 * w.n)
  page-alone q t b coarse tile page big address none =
      let level = in_tile-level (cuts_to w q) t b big in
      let large = in_tile-big (cuts_to w q) t b big in
      let fits = level-le w.n b address in
      known-finest q (in_tile (cuts_to w q) t b) coarse (omega arith) (omega arith)
      (subst (λ u. IsTrue (w.loaded q u)) (sym (in_tile-square (cuts_to w q) t b tile big)) page)
      (λ some end. none some (omega arith))
      ∙ same_tests (nat_lt (level_of (in_tile (cuts_to w q) t b)) (2 * (cuts_to w q + w.n)))
      (nat_lt (level_of b) (2 * w.n))
      (λ h.
      let less = ltb-true (level_of (in_tile (cuts_to w q) t b)) (2 * (cuts_to w q + w.n)) h in
      lt-ltb (level_of b) (2 * w.n) (omega arith))
      (λ h.
      let less = ltb-true (level_of b) (2 * w.n) h in
      lt-ltb (level_of (in_tile (cuts_to w q) t b)) (2 * (cuts_to w q + w.n)) (omega arith))
