-- A triangle of a mesh in the finest loaded page that it lies in: its corners are points of that page's grid.
use Rattle.std.proofs.Common.{◌≡◌, ℕ, zero, suc, ◌+◌, ◌-◌, ◌*◌, ◌/◌, ◌^◌, ◌<◌, ◌≤◌, ◌⊎◌, inl, inr, sym, ◌∙◌, ap, ap₂, subst, arith}
use Rattle.std.proofs.Common.{⊎_elim, refl, true, false, IsTrue, nat_le, nat_lt, cond, Bool, is_some, None, Some, Option}
use Rattle.std.proofs.lemmas.Bool.{cases_Bool, cases_lt, both_ways, and_parts, and_from, leb-true, le-leb, ltb-true, lt-ltb}
use Rattle.mesh_defs.specs.declared.point.Point.{Point}
use Rattle.mesh_defs.specs.declared.point.Corners.{Corners}
use Rattle.mesh_defs.specs.Triangle.{level_of, corners_of}
use Rattle.bintree_laws.specs.Corners.{IsWithin}
use Rattle.bintree_laws.proofs.CornerLemmas.{IsWithin-base, IsWithin-corners_of}
use Rattle.bintree_laws.proofs.LevelLemmas.{level_of-parent, level_of-root}
use Rattle.mosaic_laws.specs.Glue.{quarter_of, prefix_of, tile_of, local_of}
use Rattle.page_laws.specs.Pages.{cuts_to, square_at, half, is_turned, half_corners, page_corners}
use Rattle.page_laws.specs.Pages.{IsPagePoint}
use Rattle.page_laws.proofs.HalfLemmas.{halves}
use Rattle.page_laws.proofs.PointLemmas.{half-page, corners-inside}
use Rattle.page_laws.proofs.PyramidLemmas.{known-page, loaded-up}
use Rattle.page_laws.proofs.SquareLemmas.{tile-self, tile-parent}
use Rattle.page_wedges.specs.Page.{Page}
use Rattle.page_store.specs.Store.{Store, top_of, cuts_of, page_at, pages_of, known_in, IsTable}
use Rattle.page_store.specs.Walk.{IsFound, IsFinest}
use Rattle.page_store.specs.Locate.{IsInReach, is_in_loaded, deepest_in, local_corners, triangle_in, page_triangle, IsPageTriangle}
use Rattle.page_store.proofs.HeightLemmas.{local-page}
use Rattle.page_store.proofs.WalkLemmas.{tile-small}
use Rattle.page_store.proofs.FoundLemmas.{found-cuts, found-loaded, found-end, found-known}

-- corners

-- the corners of the terrain that a page's grid has
pub record HasCorners (n q : ℕ) (t : Point) (terrain : Corners) : Type 0 where
  pub corners : Corners
  pub within : IsWithin (2 ^ n) corners
  pub are : terrain ≡ page_corners n q t corners

-- each of them is a point of the page
module _ {n q : ℕ} {t : Point} {c : Corners} (h : HasCorners n q t c) where
  pub apex-point : IsPagePoint n q t c.apex
  apex-point = (h.corners.apex, record { x = h.within.apex_x; y = h.within.apex_y }, ap (λ (d : Corners). d.apex) h.are)

  pub v0-point : IsPagePoint n q t c.v0
  v0-point = (h.corners.v0, record { x = h.within.v0_x; y = h.within.v0_y }, ap (λ (d : Corners). d.v0) h.are)

  pub v1-point : IsPagePoint n q t c.v1
  v1-point = (h.corners.v1, record { x = h.within.v1_x; y = h.within.v1_y }, ap (λ (d : Corners). d.v1) h.are)

  -- and so they are found again
  pub local-are : local_corners n q t c ≡ h.corners
  local-are =
      let e : local_corners n q t (page_corners n q t h.corners) ≡ h.corners =
      rw (local-page n q t h.corners.apex, local-page n q t h.corners.v0, local-page n q t h.corners.v1) refl in
      ap (local_corners n q t) h.are ∙ e

-- the corners of a half lie in the square
half-within : (m : ℕ) (turned : Bool) (which : ℕ) → IsWithin m (half_corners m turned which)
half-within m false which = IsWithin-base m which
half-within m true zero = grind arith
half-within m true (suc _) = grind arith

-- a triangle from the halves of a square down to the last level of its page's grid
pub square-corners : (n q p x : ℕ) → 1 ≤ n → 2 ≤ x → 2 * p ≤ level_of x → level_of x ≤ 2 * (p + n) →
    HasCorners n q (tile_of p (2 * x)) (corners_of (n + q + p) x)
square-corners n q p x some low first last = ⊎_elim
    (λ (deep : 2 * p < level_of x). record {
      corners = corners_of n (local_of p x);
      within = IsWithin-corners_of n (local_of p x);
      are = corners-inside n q p x low deep last
          ∙ ap (λ u. page_corners n q u (corners_of n (local_of p x))) (sym (tile-self p x low deep));
    })
    (λ (less : level_of x ≤ 2 * p).
    let is-half : (w : ℕ) → w < 2 → x ≡ half p (tile_of p (2 * x)) w →
    HasCorners n q (tile_of p (2 * x)) (corners_of (n + q + p) x) = λ w small is. record {
      corners = half_corners (2 ^ n) (is_turned p (tile_of p (2 * x))) w;
      within = half-within (2 ^ n) (is_turned p (tile_of p (2 * x))) w;
      are = ap (corners_of (n + q + p)) is ∙ half-page n q p (tile_of p (2 * x)) w some small (tile-small p (2 * x));
    } in
    ⊎_elim
    (λ lower. is-half 0 (omega arith) lower)
    (λ upper. is-half 1 (omega arith) upper)
    (halves p x low (omega arith)))
    (cases_lt (2 * p) (level_of x))

-- the page found

module _ {s : Store} {x p k : ℕ} {t : Point} {page : Page} (i : IsTable s) (f : IsFound s x p k t page) (low : 2 ≤ x)
  where
    -- the corners
    pub found-corners : level_of x ≤ 2 * (p + s.n) → HasCorners s.n (top_of s - p) t (corners_of s.large x)
    found-corners last =
        let coarse = f.coarse in
        let fits = i.fits in
        let e : s.n + (top_of s - p) + p ≡ s.large = omega arith in
        subst (λ k. HasCorners s.n (top_of s - p) t (corners_of k x)) e
        (subst (λ u. HasCorners s.n (top_of s - p) u (corners_of (s.n + (top_of s - p) + p) x)) f.square
        (square-corners s.n (top_of s - p) p x i.some low f.deep last))

    -- below the halves they are those of a triangle of the page's grid
    pub found-local : level_of x ≤ 2 * (p + s.n) → 2 * p < level_of x →
        local_corners s.n (top_of s - p) t (corners_of s.large x) ≡ corners_of s.n (local_of p x)
    found-local last deep =
        let coarse = f.coarse in
        let fits = i.fits in
        let e : s.n + (top_of s - p) + p ≡ s.large = omega arith in
        let h : HasCorners s.n (top_of s - p) t (corners_of s.large x) = record {
          corners = corners_of s.n (local_of p x);
          within = IsWithin-corners_of s.n (local_of p x);
          are = subst (λ k. corners_of k x ≡ page_corners s.n (top_of s - p) t (corners_of s.n (local_of p x))) e
              (corners-inside s.n (top_of s - p) p x low deep last
              ∙ ap (λ u. page_corners s.n (top_of s - p) u (corners_of s.n (local_of p x)))
              (sym (tile-self p x low deep) ∙ f.square));
        } in
        local-are h

    -- whether the triangle is in reach

    -- the page of a parent below the halves is that of the child
    parent-found : 4 ≤ x → 2 * p < level_of x →
        IsFound s (x / 2) p (quarter_of p (prefix_of p (2 * (x / 2)))) t page
    parent-found big deep =
        let level = level_of-parent x big in
        record {
          coarse = f.coarse;
          deep = omega arith;
          part = refl;
          square = tile-parent p x big deep ∙ f.square;
          loaded = f.loaded;
        }

    parent-finest : 4 ≤ x → IsFinest s x p → IsFinest s (x / 2) p
    parent-finest big finest = let level = level_of-parent x big in record {
      end = λ less deep.
          ap (page_at s (top_of s - (p + 1))) (tile-parent (p + 1) x big (omega arith))
          ∙ finest.end less (omega arith);
    }

    parent-known : 4 ≤ x → IsFinest s x p → 2 * p < level_of x →
        known_in s (x / 2) ≡ nat_lt (level_of (x / 2)) (2 * (p + s.n))
    parent-known big finest deep =
        found-known i (parent-found big deep)
        (omega arith) (parent-finest big finest)

    -- that of a half is in the page above
    half-parent : 4 ≤ x → level_of x ≡ 2 * p → IsTrue (known_in s (x / 2))
    half-parent big level =
        let up = level_of-parent x big in
        let coarse = f.coarse in
        let fits = i.fits in
        let some = i.some in
        let cuts : cuts_to (pages_of s) (top_of s - p + 1) ≡ p - 1 = omega arith in
        let c = found-cuts i f in
        let above : IsTrue ((pages_of s).loaded (top_of s - p + 1) (square_at (pages_of s) (top_of s - p + 1) x)) =
        loaded-up (pages_of s) i.pyramid (top_of s - p) (top_of s - p + 1) x (omega arith) (omega arith) low
        (omega arith) (found-loaded i f) in
        let same : tile_of (p - 1) (2 * (x / 2)) ≡ tile_of (p - 1) (2 * x) = tile-parent (p - 1) x big (omega arith) in
        known-page (pages_of s) (top_of s - p + 1) (x / 2) (omega arith) (omega arith) record {
          first = omega arith;
          last = omega arith;
          page = subst (λ u. IsTrue ((pages_of s).loaded (top_of s - p + 1) u))
              (sym (ap (λ j. tile_of j (2 * (x / 2))) cuts ∙ same ∙ ap (λ j. tile_of j (2 * x)) (sym cuts))) above;
        }

    pub reach-last : IsFinest s x p → IsInReach s x → level_of x ≤ 2 * (p + s.n)
    reach-last finest (inl small) = let root = level_of-root x low small in omega arith
    reach-last finest (inr known) = ⊎_elim
        (λ (deep : 2 * p < level_of x). ⊎_elim
        (λ (big : 4 ≤ x).
        let level = level_of-parent x big in
        let less : level_of (x / 2) < 2 * (p + s.n) = ltb-true (level_of (x / 2)) (2 * (p + s.n))
        (sym (parent-known big finest deep) ∙ known) in
        omega arith)
        (λ (small : x < 4). let root = level_of-root x low small in omega arith)
        (cases_lt' x))
        (λ (less : level_of x ≤ 2 * p). omega arith)
        (cases_lt (2 * p) (level_of x))
      where
        cases_lt' : (a : ℕ) → (4 ≤ a) ⊎ (a < 4)
        cases_lt' a = ⊎_elim (λ (l : a < 4). inr l) (λ (m : 4 ≤ a). inl m) (cases_lt a 4)

    pub reach-from : IsFinest s x p → level_of x ≤ 2 * (p + s.n) → IsInReach s x
    reach-from finest last = ⊎_elim
        (λ (small : x < 4). inl small)
        (λ (big : 4 ≤ x).
        let level = level_of-parent x big in
        let deep = f.deep in
        inr (⊎_elim
        (λ (more : 2 * p < level_of x).
        parent-known big finest more ∙ lt-ltb (level_of (x / 2)) (2 * (p + s.n)) (omega arith))
        (λ (less : level_of x ≤ 2 * p). half-parent big (omega arith))
        (cases_lt (2 * p) (level_of x))))
        (cases_lt x 4)

    -- no finer page has the triangle

    pub finer-none : IsFinest s x p → (q : ℕ) → q < top_of s - p → 2 * cuts_of s q ≤ level_of x →
        page_at s q (square_at (pages_of s) q x) ≡ None
    finer-none finest q less deep =
        let coarse = f.coarse in
        let fits = i.fits in
        none-of (page_at s q (square_at (pages_of s) q x))
        (λ (there : IsTrue (is_some (page_at s q (square_at (pages_of s) q x)))).
        let cuts : cuts_to (pages_of s) (top_of s - p - 1) ≡ p + 1 = omega arith in
        both_ways ((pages_of s).loaded (top_of s - p - 1) (square_at (pages_of s) (top_of s - p - 1) x))
        (found-end i f finest (omega arith) (omega arith))
        (loaded-up (pages_of s) i.pyramid q (top_of s - p - 1) x (omega arith) (omega arith) low deep there))
      where
        none-of : (o : Option Page) → (IsTrue (is_some o) → ⊥) → o ≡ None
        none-of None not = refl
        none-of (Some page) not = absurd (not refl)

    -- so the page is that of the definition
    deepest-from : IsFinest s x p → (r : ℕ) → p ≤ r → r ≤ top_of s → deepest_in s x r ≡ p
    deepest-from finest zero more coarse = omega arith
    deepest-from finest (suc r) more coarse = ⊎_elim
        (λ (less : p < suc r).
        let not : is_in_loaded s x (suc r) ≡ false = ⊎_elim
        (λ (is : is_in_loaded s x (suc r) ≡ true).
        let fits = i.fits in
        let a = and_parts (nat_le (2 * suc r) (level_of x)) (is_some (page_at s (top_of s - suc r) (tile_of (suc r) (2 * x)))) is in
        let deep : 2 * suc r ≤ level_of x = leb-true (2 * suc r) (level_of x) a.0 in
        let cuts : cuts_to (pages_of s) (top_of s - suc r) ≡ suc r = omega arith in
        absurd (both_ways (is_some (page_at s (top_of s - suc r) (tile_of (suc r) (2 * x))))
        (ap is_some (ap (λ j. page_at s (top_of s - suc r) (tile_of j (2 * x))) (sym cuts)
        ∙ finer-none finest (top_of s - suc r) (omega arith) (omega arith))) a.1))
        (λ no. no)
        (cases_Bool (is_in_loaded s x (suc r))) in
        ap (λ b. cond b (suc r) (deepest_in s x r)) not ∙ deepest-from finest r (omega arith) (omega arith))
        (λ (most : suc r ≤ p).
        let e : p ≡ suc r = omega arith in
        let here : is_in_loaded s x (suc r) ≡ true = subst (λ j. is_in_loaded s x j ≡ true) e
        (and_from (nat_le (2 * p) (level_of x)) (is_some (page_at s (top_of s - p) (tile_of p (2 * x))))
        (le-leb (2 * p) (level_of x) f.deep)
        (ap is_some (ap (page_at s (top_of s - p)) f.square ∙ f.loaded))) in
        ap (λ b. cond b (suc r) (deepest_in s x r)) here ∙ sym e)
        (cases_lt p (suc r))

    pub found-triangle : IsFinest s x p → page_triangle s x ≡ record {
      q = top_of s - p;
      square = t;
      corners = local_corners s.n (top_of s - p) t (corners_of s.large x);
    }
    unfolding page_triangle
    found-triangle finest =
        ap (triangle_in s x) (deepest-from finest (top_of s) f.coarse (omega arith))
        ∙ ap (λ (u : Point). record {
          q = top_of s - p;
          square = u;
          corners = local_corners s.n (top_of s - p) u (corners_of s.large x);
        }) f.square

    pub found-placed : IsFinest s x p → level_of x ≤ 2 * (p + s.n) → IsPageTriangle s x record {
      q = top_of s - p;
      square = t;
      corners = local_corners s.n (top_of s - p) t (corners_of s.large x);
    }
    found-placed finest last =
        let coarse = f.coarse in
        let fits = i.fits in
        let deep = f.deep in
        let cuts : cuts_of s (top_of s - p) ≡ p = omega arith in
        let h = found-corners last in
        let same = local-are h in
        record {
          page = ap is_some f.loaded;
          deep = omega arith;
          square = sym (ap (λ j. tile_of j (2 * x)) cuts ∙ f.square);
          finest = finer-none finest;
          within = subst (IsWithin (2 ^ s.n)) (sym same) h.within;
          corners = h.are ∙ ap (page_corners s.n (top_of s - p) t) (sym same);
        }

-- the same, told by other names for the numbers
module _ {s : Store} {x p k : ℕ} {t : Point} {page : Page} (i : IsTable s) (f : IsFound s x p k t page) (low : 2 ≤ x)
    {large n : ℕ} {terrain : Corners} (large-is : large ≡ s.large) (n-is : n ≡ s.n)
    (terrain-is : terrain ≡ corners_of large x) where
  q-is : large - n - p ≡ top_of s - p
  q-is = omega arith

  pub told-corners : level_of x ≤ 2 * (p + n) → HasCorners n (large - n - p) t terrain
  told-corners last =
      subst (λ m. HasCorners m (large - n - p) t terrain) (sym n-is)
      (subst (λ q. HasCorners s.n q t terrain) (sym q-is)
      (subst (HasCorners s.n (top_of s - p) t) (sym (terrain-is ∙ ap (λ m. corners_of m x) large-is))
      (found-corners i f low (omega arith))))

  -- a known triangle has its corners there
  pub known-last : IsFinest s x p → IsTrue (known_in s x) → level_of x ≤ 2 * (p + n)
  known-last finest known =
      let less : level_of x < 2 * (p + s.n) = ltb-true (level_of x) (2 * (p + s.n))
      (sym (found-known i f low finest) ∙ known) in
      omega arith

  pub told-local : level_of x ≤ 2 * (p + n) → 2 * p < level_of x →
      local_corners n (large - n - p) t terrain ≡ corners_of s.n (local_of p x)
  told-local last deep =
      ap (λ (m : ℕ × Corners). local_corners m.0 (large - n - p) t m.1)
      (ap₂ (λ (m : ℕ) (c : Corners). (m, c)) n-is (terrain-is ∙ ap (λ m. corners_of m x) large-is))
      ∙ ap (λ q. local_corners s.n q t (corners_of s.large x)) q-is
      ∙ found-local i f low (omega arith) deep

  pub told-triangle : IsFinest s x p →
      record { q = large - n - p; square = t; corners = local_corners n (large - n - p) t terrain } ≡ page_triangle s x
  told-triangle finest =
      ap (λ (m : ℕ × Corners). record {
        q = large - n - p;
        square = t;
        corners = local_corners m.0 (large - n - p) t m.1;
      }) (ap₂ (λ (m : ℕ) (c : Corners). (m, c)) n-is (terrain-is ∙ ap (λ m. corners_of m x) large-is))
      ∙ ap (λ q. record { q = q; square = t; corners = local_corners s.n q t (corners_of s.large x) }) q-is
      ∙ sym (found-triangle i f low finest)

  pub told-placed : IsFinest s x p → level_of x ≤ 2 * (p + n) → IsPageTriangle s x (page_triangle s x)
  told-placed finest last = subst (IsPageTriangle s x) (sym (found-triangle i f low finest))
      (found-placed i f low finest (omega arith))
