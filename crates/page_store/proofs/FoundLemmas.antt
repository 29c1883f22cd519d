-- What the finest loaded page of a triangle says of it: whether it is known, and whether its mate is.
use Rattle.std.proofs.Common.{◌≡◌, ℕ, ◌+◌, ◌-◌, ◌*◌, ◌%◌, ◌<◌, ◌≤◌, sym, ◌∙◌, ap, subst, arith, ⊎_elim}
use Rattle.std.proofs.Common.{true, false, IsTrue, is_some, nat_lt}
use Rattle.std.proofs.lemmas.Bool.{cases_Bool, both_ways, lt-ltb, le-ltb}
use Rattle.mesh_defs.specs.declared.point.Point.{Point}
use Rattle.mesh_defs.specs.Triangle.{level_of, IsMate, IsAddress, IsSplittable}
use Rattle.mesh_laws.proofs.DescentLemmas.{IsAddress-splittable}
use Rattle.mosaic_laws.specs.Glue.{tile_of}
use Rattle.page_laws.specs.Opened.{with_known_mate}
use Rattle.page_laws.specs.Pages.{Pages, cuts_to, square_at, is_known, AreBeside, IsPyramid, IsAtGap}
use Rattle.page_laws.proofs.OpenLemmas.{mate-parts, mate-known, mate-from}
use Rattle.page_laws.proofs.PyramidLemmas.{known-page, known-finest, known-splittable, loaded-up, loaded-beside}
use Rattle.page_laws.proofs.PyramidLemmas.{mates-square, gap-forth}
use Rattle.page_wedges.specs.Page.{Page}
use Rattle.page_store.specs.Store.{Store, top_of, page_at, pages_of, known_in, IsTable}
use Rattle.page_store.specs.Walk.{IsFound, IsFinest}
use Rattle.page_store.proofs.TableLemmas.{page-loaded}

-- pages of a pyramid

-- above the last level of a page's triangles each mate is known
mate-deep : (w : Pages) (q x y : ℕ) → IsPyramid w → q ≤ w.top → 2 ≤ x → 2 * cuts_to w q ≤ level_of x →
    IsTrue (w.loaded q (square_at w q x)) → level_of x + 1 < 2 * (cuts_to w q + w.n) → IsMate w.large x y →
    IsTrue (is_known w x) → IsTrue (is_known w y)
mate-deep w q x y s coarse low deep page less mate here = ⊎_elim
    (λ there. there)
    (λ (missing : is_known w y ≡ false).
    let g : IsAtGap w x y = gap-forth w s x y here mate missing in
    let last = g.last in
    let far = g.coarse in
    let above : q + 1 ≤ g.q = omega arith in
    let more : g.q - 1 + 1 ≡ g.q = omega arith in
    let fits = s.fits in
    let level = mate.level in
    let address : IsAddress w.large x = IsAddress-splittable w.large x (known-splittable w s x here) in
    let loaded : IsTrue (w.loaded (g.q - 1) (square_at w (g.q - 1) x)) =
    loaded-up w s q (g.q - 1) x (omega arith) (omega arith) low deep page in
    ⊎_elim
    (λ (same : square_at w (g.q - 1) x ≡ square_at w (g.q - 1) y).
    known-page w (g.q - 1) y mate.address.low (omega arith) record {
      first = omega arith;
      last = omega arith;
      page = subst (λ t. IsTrue (w.loaded (g.q - 1) t)) same loaded;
    })
    (λ (r : AreBeside (square_at w (g.q - 1) x) (square_at w (g.q - 1) y) × (level_of x % 2 ≡ 1)).
    absurd (both_ways (w.loaded g.q (square_at w g.q y)) g.missing
    (subst (λ r. IsTrue (w.loaded r (square_at w r y))) more
    (loaded-beside w s (g.q - 1) x y (omega arith) low mate.address.low (omega arith) (omega arith) loaded r.0))))
    (mates-square w s (g.q - 1) x y (omega arith) (omega arith) address mate))
    (cases_Bool (is_known w y))

-- the page found

module _ {s : Store} {x p k : ℕ} {t : Point} {page : Page} (i : IsTable s) (f : IsFound s x p k t page) where
  pub found-cuts : cuts_to (pages_of s) (top_of s - p) ≡ p
  found-cuts = let coarse = f.coarse in let fits = i.fits in omega arith

  found-square : square_at (pages_of s) (top_of s - p) x ≡ t
  found-square = ap (λ j. tile_of j (2 * x)) found-cuts ∙ f.square

  pub found-loaded : IsTrue ((pages_of s).loaded (top_of s - p) (square_at (pages_of s) (top_of s - p) x))
  found-loaded = subst (λ u. IsTrue ((pages_of s).loaded (top_of s - p) u)) (sym found-square)
      (page-loaded s (top_of s - p) t page f.loaded)

  pub found-deep : 2 * cuts_to (pages_of s) (top_of s - p) ≤ level_of x
  found-deep = let e = found-cuts in let deep = f.deep in omega arith

  -- no finer page has x
  pub found-end : IsFinest s x p → 1 ≤ top_of s - p →
      2 * cuts_to (pages_of s) (top_of s - p - 1) ≤ level_of x →
      (pages_of s).loaded (top_of s - p - 1) (square_at (pages_of s) (top_of s - p - 1) x) ≡ false
  found-end finest some deep =
      let fits = i.fits in
      let e : cuts_to (pages_of s) (top_of s - p - 1) ≡ p + 1 = omega arith in
      let q : top_of s - p - 1 ≡ top_of s - (p + 1) = omega arith in
      ap is_some
      (ap (λ j. page_at s (top_of s - p - 1) (tile_of j (2 * x))) e
      ∙ ap (λ r. page_at s r (tile_of (p + 1) (2 * x))) q
      ∙ finest.end (omega arith) (omega arith))

  -- whether x is known
  pub found-known : 2 ≤ x → IsFinest s x p → known_in s x ≡ nat_lt (level_of x) (2 * (p + s.n))
  found-known low finest =
      let some = i.some in
      let fits = i.fits in
      let c = found-cuts in
      known-finest (pages_of s) i.pyramid (top_of s - p) x (omega arith) low found-deep found-loaded
      (λ finer end. found-end finest finer (omega arith))
      ∙ ap (λ j. nat_lt (level_of x) (2 * (j + s.n))) found-cuts

  -- whether it is open

  found-splittable : IsTrue (known_in s x) → IsSplittable s.large x
  found-splittable known = known-splittable (pages_of s) i.pyramid x known

  -- one that is not known is not
  pub closed-unknown : 2 ≤ x → IsFinest s x p → 2 * (p + s.n) ≤ level_of x →
      with_known_mate (known_in s) x ≡ false
  closed-unknown low finest deep = ⊎_elim
      (λ (opened : with_known_mate (known_in s) x ≡ true).
      absurd (both_ways (known_in s x)
      (found-known low finest ∙ le-ltb (level_of x) (2 * (p + s.n)) deep) (mate-parts (known_in s) x opened)))
      (λ closed. closed)
      (cases_Bool (with_known_mate (known_in s) x))

  is-known : 2 ≤ x → IsFinest s x p → level_of x < 2 * (p + s.n) → IsTrue (known_in s x)
  is-known low finest less = found-known low finest ∙ lt-ltb (level_of x) (2 * (p + s.n)) less

  -- one above the last level is
  pub open-deep : 2 ≤ x → IsFinest s x p → level_of x + 1 < 2 * (p + s.n) → IsTrue (with_known_mate (known_in s) x)
  open-deep low finest less =
      let known = is-known low finest (omega arith) in
      let c = found-cuts in
      mate-from (known_in s) x s.large (found-splittable known) known (λ y mate.
      mate-deep (pages_of s) (top_of s - p) x y i.pyramid (omega arith) low found-deep found-loaded (omega arith) mate
      known)

  -- one of the last level where it has no mate
  pub open-border : 2 ≤ x → IsFinest s x p → level_of x < 2 * (p + s.n) → ((y : ℕ) → IsMate s.large x y → ⊥) →
      IsTrue (with_known_mate (known_in s) x)
  open-border low finest less none =
      let known = is-known low finest less in
      mate-from (known_in s) x s.large (found-splittable known) known (λ y mate. absurd (none y mate))

  -- and else where the mate is known
  pub open-mate : (y : ℕ) → 2 ≤ x → IsFinest s x p → level_of x < 2 * (p + s.n) → IsMate s.large x y →
      ((z : ℕ) → IsMate s.large x z → z ≡ y) → with_known_mate (known_in s) x ≡ known_in s y
  open-mate y low finest less mate unique =
      let known = is-known low finest less in
      ⊎_elim
      (λ (there : known_in s y ≡ true).
      mate-from (known_in s) x s.large (found-splittable known) known
      (λ z other. ap (known_in s) (unique z other) ∙ there)
      ∙ sym there)
      (λ (missing : known_in s y ≡ false). ⊎_elim
      (λ (opened : with_known_mate (known_in s) x ≡ true).
      absurd (both_ways (known_in s y) missing
      (mate-known (known_in s) x s.large y (found-splittable known) opened mate)))
      (λ (closed : with_known_mate (known_in s) x ≡ false). closed ∙ sym missing)
      (cases_Bool (with_known_mate (known_in s) x)))
      (cases_Bool (known_in s y))
