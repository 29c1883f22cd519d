-- One page more or less: which triangles stay as known as they were, and when the pages stay nested.
use Rattle.std.proofs.Common.{◌≡◌, ℕ, zero, suc, ◌+◌, ◌-◌, ◌*◌, ◌/◌, ◌^◌, ◌<◌, ◌≤◌, ◌⊎◌, inl, inr, refl, sym, ◌∙◌, ap}
use Rattle.std.proofs.Common.{ap₂, subst, arith, ⊎_elim, Bool, false, not, ◌&&◌, ◌||◌, IsTrue, nat_eq, nat_le, nat_lt}
use Rattle.std.proofs.lemmas.Bool.{cases_lt, both_ways, and_parts, and_from, or_left, or_right, or_cases, false_from_ne_true}
use Rattle.std.proofs.lemmas.Bool.{eqb-true, eq-eqb}
use Rattle.mesh_defs.specs.declared.point.Point.{Point}
use Rattle.mesh_defs.specs.Triangle.{level_of}
use Rattle.mesh_defs.specs.MeshText.{is_same_point}
use Rattle.mesh_defs.proofs.PointLemmas.{same_point-eq, eq-same_point}
use Rattle.mesh_defs.proofs.TestLemmas.{same_tests}
use Rattle.bintree_laws.proofs.LevelLemmas.{level_of-parent, level_of-first}
use Rattle.mesh_laws.proofs.ConformityLemmas.{IsUnder, self, below}
use Rattle.mesh_laws.proofs.ConverseLemmas.{level-under}
use Rattle.mosaic_laws.specs.Tile.{IsTile, in_tile}
use Rattle.mosaic_laws.proofs.AddressLemmas.{in_tile-level, in_tile-big}
use Rattle.page_laws.specs.Pages.{Pages, cuts_to, half, square_at, is_in_page, is_in_pages, is_known, square_above}
use Rattle.page_laws.specs.Pages.{AreBeside, IsPyramid, with_page, without_page}
use Rattle.page_laws.specs.Loaded.{known_wedge, IsAtOrUnder}
use Rattle.page_laws.proofs.SquareLemmas.{tile-parent, tile-under, in_tile-square}
use Rattle.page_laws.proofs.HalfLemmas.{halves, half-level, half-low, half-tile}
use Rattle.page_laws.proofs.PyramidLemmas.{page-parts, page-from, square-up, loaded-up}
use Rattle.page_laws.proofs.LoadedLemmas.{at-under, under-at, wedge-same}

-- what is known

module _ (w : Pages) (loaded : ℕ → Point → Bool) (q : ℕ) (t : Point)
    (others : (r : ℕ) (u : Point) → (r ≡ q → u ≡ t → ⊥) → w.loaded r u ≡ loaded r u) where
  -- x does not lie in the page's square, or not at the levels of which the page has centres
  abbrev IsElsewhere : ℕ → Type 0
  IsElsewhere x = 2 * cuts_to w q ≤ level_of x → level_of x < 2 * (cuts_to w q + w.n) → square_at w q x ≡ t → ⊥

  page-other : (r x : ℕ) → IsElsewhere x → is_in_page w r x ≡ is_in_page (record w { loaded = loaded }) r x
  page-other r x else = same_tests (is_in_page w r x) (is_in_page (record w { loaded = loaded }) r x)
      (λ here.
      let i = page-parts w r x here in
      let e = others r (square_at w r x) (apart i.first i.last) in
      page-from (record w { loaded = loaded }) r x record { first = i.first; last = i.last; page = sym e ∙ i.page })
      (λ there.
      let i = page-parts (record w { loaded = loaded }) r x there in
      let e = others r (square_at w r x) (apart i.first i.last) in
      page-from w r x record { first = i.first; last = i.last; page = e ∙ i.page })
    where
      apart : 2 * cuts_to w r ≤ level_of x → level_of x < 2 * (cuts_to w r + w.n) → r ≡ q → square_at w r x ≡ t → ⊥
      apart first last same is = else
          (subst (λ k. 2 * cuts_to w k ≤ level_of x) same first)
          (subst (λ k. level_of x < 2 * (cuts_to w k + w.n)) same last)
          (subst (λ k. square_at w k x ≡ t) same is)

  pages-other : (r x : ℕ) → IsElsewhere x → is_in_pages w r x ≡ is_in_pages (record w { loaded = loaded }) r x
  pages-other zero x else = page-other 0 x else
  pages-other (suc r) x else = ap₂ (λ b c. b || c) (page-other (suc r) x else) (pages-other r x else)

  -- elsewhere the same triangles are known
  pub known-other : (x : ℕ) → IsElsewhere x → is_known w x ≡ is_known (record w { loaded = loaded }) x
  known-other x else =
      ap (λ b. nat_le 2 x && (nat_lt (level_of x) (2 * cuts_to w w.top) || b)) (pages-other w.top x else)

  -- what lies at and under a triangle lies outside of the square, if the triangle does and is not above a half of it
  under-elsewhere : (x b : ℕ) → 2 ≤ x →
      ((which : ℕ) → which < 2 → IsAtOrUnder x (half (cuts_to w q) t which) → ⊥) → IsElsewhere x → IsUnder x b →
      IsElsewhere b
  under-elsewhere x _ low apart else self = else
  under-elsewhere x _ low apart else (below b big u) = λ deep last is.
      let up = level_of-parent b big in
      ⊎_elim
      (λ (more : 2 * cuts_to w q < level_of b).
      under-elsewhere x (b / 2) low apart else u (omega arith) (omega arith)
      (tile-parent (cuts_to w q) b big more ∙ is))
      (λ (less : level_of b ≤ 2 * cuts_to w q). ⊎_elim
      (λ (lower : b ≡ half (cuts_to w q) (square_at w q b) 0).
      apart 0 (omega arith) (subst (IsAtOrUnder x) (lower ∙ ap (λ z. half (cuts_to w q) z 0) is)
      (under-at x b low (below b big u))))
      (λ (upper : b ≡ half (cuts_to w q) (square_at w q b) 1).
      apart 1 (omega arith) (subst (IsAtOrUnder x) (upper ∙ ap (λ z. half (cuts_to w q) z 1) is)
      (under-at x b low (below b big u))))
      (halves (cuts_to w q) b (omega arith) (omega arith)))
      (cases_lt (2 * cuts_to w q) (level_of b))

  -- so its wedge is the same
  pub wedge-other : (height : Point → ℕ) (x : ℕ) → 2 ≤ x →
      ((which : ℕ) → which < 2 → IsAtOrUnder x (half (cuts_to w q) t which) → ⊥) → IsElsewhere x →
      known_wedge w.large height (is_known w) x
      ≡ known_wedge w.large height (is_known (record w { loaded = loaded })) x
  wedge-other height x low apart else =
      wedge-same w.large height (is_known w) (is_known (record w { loaded = loaded })) x low
      (λ b u. known-other b (under-elsewhere x b low apart else (at-under x b u)))

  -- a loaded page keeps the wedges of its quarters, unless the page that comes or goes lies in it
  pub wedge-quarter : (height : Point → ℕ) (r k : ℕ) (u : Point) → IsPyramid w → q ≤ w.top →
      IsTile (2 ^ cuts_to w q) (2 ^ cuts_to w q) t → w.loaded q t ≡ false → r ≤ w.top →
      IsTile (2 ^ cuts_to w r) (2 ^ cuts_to w r) u → IsTrue (w.loaded r u) → k < 4 →
      (q < r → u ≡ record { x = t.x / 2 ^ (r - q); y = t.y / 2 ^ (r - q) } → ⊥) →
      known_wedge w.large height (is_known w) (in_tile (cuts_to w r) u (4 + k))
      ≡ known_wedge w.large height (is_known (record w { loaded = loaded })) (in_tile (cuts_to w r) u (4 + k))
  wedge-quarter height r k u s coarse tile none coarse' tile' page small apart =
      let large = in_tile-big (cuts_to w r) u (4 + k) (omega arith) in
      let level = in_tile-level (cuts_to w r) u (4 + k) (omega arith) in
      let one = level_of-first (4 + k) (omega arith) (omega arith) in
      let here = in_tile-square (cuts_to w r) u (4 + k) tile' (omega arith) in
      let fits = s.fits in
      wedge-other height (in_tile (cuts_to w r) u (4 + k)) (omega arith)
      (λ which less above.
      let under = at-under (in_tile (cuts_to w r) u (4 + k)) (half (cuts_to w q) t which) above in
      let deeper = level-under (in_tile (cuts_to w r) u (4 + k)) (half (cuts_to w q) t which) under in
      let first = half-level (cuts_to w q) t which less in
      let e : q + (r - q) ≡ r = omega arith in
      apart (omega arith)
      (sym (tile-under (cuts_to w r) (in_tile (cuts_to w r) u (4 + k)) (half (cuts_to w q) t which) (omega arith) under
      ∙ here)
      ∙ ap (λ j. square_at w j (half (cuts_to w q) t which)) (sym e)
      ∙ square-up w s (r - q) q (half (cuts_to w q) t which) (omega arith)
      (half-low (cuts_to w q) t which less) (omega arith)
      ∙ ap (λ (z : Point). point (z.x / 2 ^ (r - q)) (z.y / 2 ^ (r - q))) (half-tile (cuts_to w q) t which less tile)))
      (λ deep last is. both_ways (w.loaded q t) none
      (subst (λ z. IsTrue (w.loaded q z)) is
      (loaded-up w s r q (in_tile (cuts_to w r) u (4 + k)) (omega arith) coarse (omega arith) (omega arith)
      (subst (λ z. IsTrue (w.loaded r z)) (sym here) page))))
    where
      point : ℕ → ℕ → Point
      point i j = record { x = i; y = j }

-- the pages with one page more, and without one

other-page : (q r : ℕ) (t u : Point) → (r ≡ q → u ≡ t → ⊥) → (nat_eq r q && is_same_point u t) ≡ false
other-page q r t u other = false_from_ne_true (nat_eq r q && is_same_point u t) (λ is.
    let both = and_parts (nat_eq r q) (is_same_point u t) is in
    other (eqb-true r q both.0) (same_point-eq u t both.1))

this-page : (q : ℕ) (t : Point) → IsTrue (nat_eq q q && is_same_point t t)
this-page q t = and_from (nat_eq q q) (is_same_point t t) (eq-eqb q q refl) (eq-same_point t t refl)

module _ (w : Pages) (q : ℕ) (t : Point) where
  pub with-this : IsTrue ((with_page w q t).loaded q t)
  with-this = or_left (nat_eq q q && is_same_point t t) (w.loaded q t) (this-page q t)

  pub with-other : (r : ℕ) (u : Point) → (r ≡ q → u ≡ t → ⊥) → w.loaded r u ≡ (with_page w q t).loaded r u
  with-other r u other = ap (λ b. b || w.loaded r u) (sym (other-page q r t u other))

  with-old : (r : ℕ) (u : Point) → IsTrue (w.loaded r u) → IsTrue ((with_page w q t).loaded r u)
  with-old r u h = or_right (nat_eq r q && is_same_point u t) (w.loaded r u) h

  with-cases : (r : ℕ) (u : Point) → IsTrue ((with_page w q t).loaded r u) →
      ((r ≡ q) × (u ≡ t)) ⊎ IsTrue (w.loaded r u)
  with-cases r u h = ⊎_elim
      (λ is. let both = and_parts (nat_eq r q) (is_same_point u t) is in
      inl (eqb-true r q both.0, same_point-eq u t both.1))
      (λ old. inr old)
      (or_cases (nat_eq r q && is_same_point u t) (w.loaded r u) h)

  pub without-this : (without_page w q t).loaded q t ≡ false
  without-this = ap (λ b. not b && w.loaded q t) (this-page q t)

  pub without-other : (r : ℕ) (u : Point) → (r ≡ q → u ≡ t → ⊥) → w.loaded r u ≡ (without_page w q t).loaded r u
  without-other r u other = ap (λ b. not b && w.loaded r u) (sym (other-page q r t u other))

  without-old : (r : ℕ) (u : Point) → IsTrue ((without_page w q t).loaded r u) → IsTrue (w.loaded r u)
  without-old r u h = (and_parts (not (nat_eq r q && is_same_point u t)) (w.loaded r u) h).1

  -- with a page that the next resolution has pages for they stay nested
  pub load-nested : IsPyramid w → IsTrue (w.loaded (q + 1) (square_above t)) →
      ((u : Point) → IsTile (2 ^ cuts_to w (q + 1)) (2 ^ cuts_to w (q + 1)) u → AreBeside (square_above t) u →
      IsTrue (w.loaded (q + 1) u)) → IsPyramid (with_page w q t)
  load-nested s above around = record {
    some = s.some;
    fits = s.fits;
    coarsest = λ u tile. with-old w.top u (s.coarsest u tile);
    nested = λ r u less h. with-old (r + 1) (square_above u) (⊎_elim
        (λ (this : (r ≡ q) × (u ≡ t)).
        subst (λ k. IsTrue (w.loaded (k + 1) (square_above u))) (sym this.0)
        (subst (λ z. IsTrue (w.loaded (q + 1) (square_above z))) (sym this.1) above))
        (λ old. s.nested r u less old)
        (with-cases r u h));
    beside = λ r u v less h tile next. with-old (r + 1) v (⊎_elim
        (λ (this : (r ≡ q) × (u ≡ t)).
        subst (λ k. IsTrue (w.loaded (k + 1) v)) (sym this.0)
        (around v (subst (λ k. IsTile (2 ^ cuts_to w (k + 1)) (2 ^ cuts_to w (k + 1)) v) this.0 tile)
        (subst (λ z. AreBeside (square_above z) v) this.1 next)))
        (λ old. s.beside r u v less old tile next)
        (with-cases r u h));
  }

  -- and without a page that no page of the resolution before is in or beside
  pub unload-nested : IsPyramid w → q < w.top → (1 ≤ q → (u : Point) → IsTrue (w.loaded (q - 1) u) →
      (square_above u ≡ t → ⊥) × (AreBeside (square_above u) t → ⊥)) → IsPyramid (without_page w q t)
  unload-nested s coarse free = record {
    some = s.some;
    fits = s.fits;
    coarsest = λ u tile. sym (without-other w.top u (λ same this. omega arith)) ∙ s.coarsest u tile;
    nested = λ r u less h. let old = without-old r u h in
        sym (without-other (r + 1) (square_above u) (λ same this. (apart r u same old).0 this))
        ∙ s.nested r u less old;
    beside = λ r u v less h tile next. let old = without-old r u h in
        sym (without-other (r + 1) v
        (λ same this. (apart r u same old).1 (subst (AreBeside (square_above u)) this next)))
        ∙ s.beside r u v less old tile next;
  }
    where
      apart : (r : ℕ) (u : Point) → r + 1 ≡ q → IsTrue (w.loaded r u) →
          (square_above u ≡ t → ⊥) × (AreBeside (square_above u) t → ⊥)
      apart r u same old =
          let e : r ≡ q - 1 = omega arith in free (omega arith) u (subst (λ k. IsTrue (w.loaded k u)) e old)
