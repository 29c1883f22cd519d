-- A page put in its square.
use Rattle.std.proofs.Common.{unwrap_or}
use Rattle.std.proofs.Common.{◌≡◌, ℕ, zero, suc, ◌+◌, ◌-◌, ◌≤◌, ◌⊎◌, sym, ◌∙◌, ap, ap₂, subst, arith, refl}
use Rattle.std.proofs.Common.{⊎_elim, inl, inr, Bool, false, IsTrue, Option, Some, None, is_some, option_map, slice_set}
use Rattle.std.proofs.lemmas.Bool.{both_ways}
use Rattle.std.proofs.Math.ListN.{length-set}
use Rattle.mesh_defs.specs.declared.point.Point.{Point}
use Rattle.mesh_defs.specs.HeightField.{HeightField, IsHeightField}
use Rattle.mesh_defs.specs.Thickness.{height_of}
use Rattle.mosaic_laws.specs.Tile.{in_tile}
use Rattle.page_laws.specs.Pages.{is_turned, square_above, IsPyramid}
use Rattle.page_laws.specs.Pages.{IsLoadedPoint, with_page}
use Rattle.page_laws.specs.Loaded.{AreSamples}
use Rattle.page_laws.proofs.ChangeLemmas.{with-this, with-other, load-nested, wedge-quarter}
use Rattle.page_laws.proofs.LoadedLemmas.{wedge-heights}
use Rattle.page_wedges.specs.Page.{Page, IsAlone}
use Rattle.page_store.specs.Store.{top_of, maxval_of}
use Rattle.page_store.specs.Store.{Store, cuts_of, place, page_at, pages_of, local_point, has_point, height_in, grid_at}
use Rattle.page_store.specs.Store.{AreJoined, IsTable, IsStore}
use Rattle.page_store.specs.Change.{AreOthersJoined, AreOthersSame, AreHeightsSame, AreSameGrids}
use Rattle.page_store.specs.Load.{CanLoad}
use Rattle.page_store.proofs.TableLemmas.{IsSquare, page_at-some, loaded-page, page-loaded}
use Rattle.page_store.proofs.WalkLemmas.{place-in}
use Rattle.page_store.proofs.HeightLemmas.{point-parts, point-has, AreAgreed, agreed-samples}
use Rattle.page_store.proofs.AloneLemmas.{HasNoFiner, quarter-known, quarter-alone}
use Rattle.page_store.proofs.ChangeLemmas.{same-or-other, same-terrain, set-here, set-others}

-- what a page says of a point of it

-- the height of a page that stands right is that of the terrain
pub height-at : (s : Store) (q : ℕ) (t p : Point) (page : Page) →
    AreSamples s.n q t (height_in s) page.field.heights → IsTrue (has_point s.n q t p) →
    height_of s.n page.field.heights (local_point s.n q t p) ≡ height_in s p
height-at s q t p page samples has =
    let i = point-parts s.n q t p has in
    samples (local_point s.n q t p) i.inside ∙ ap (height_in s) i.is

-- and the point is a loaded one
pub point-loaded : (s : Store) (q : ℕ) (t p : Point) (page : Page) → page_at s q t ≡ Some page → s.n ≤ s.large →
    IsTrue (has_point s.n q t p) → IsLoadedPoint (pages_of s) p
point-loaded s q t p page at fits has =
    let i = point-parts s.n q t p has in
    let square = page_at-some s q t page at in
    let coarse = square.coarse in
    record {
      q = q;
      square = t;
      coarse = omega arith;
      page = page-loaded s q t page at;
      point = (local_point s.n q t p, i.inside, sym i.is);
    }

-- a loaded point is one of some page
pub loaded-has : (s : Store) (p : Point) → (l : IsLoadedPoint (pages_of s) p) →
    IsTrue (has_point s.n l.q l.square p)
loaded-has s p l =
    let r = l.point in
    subst (λ z. IsTrue (has_point s.n l.q l.square z)) (sym r.2) (point-has s.n l.q l.square r.0 r.1)

-- a page that may be put in a square
pub record IsReady (s : Store) (q : ℕ) (t : Point) (page : Page) : Type 0 where
  pub store : IsStore s
  pub can : CanLoad s q t page.field
  pub field : IsHeightField page.field
  pub turned : page.turned ≡ is_turned (cuts_of s q) t
  pub alone : IsAlone page

module _ {s : Store} {q : ℕ} {t : Point} {page : Page} (h : IsReady s q t page) where
  abbrev pub put_store : Store
  put_store = record s { pages = slice_set s.pages (place (cuts_of s q) t) (Some page) }

  square : IsSquare s q t
  square = let coarse = h.can.coarse in record { coarse = omega arith; tile = h.can.tile }

  pub put-here : page_at put_store q t ≡ Some page
  put-here =
      let fits = h.store.table.fits in
      let coarse = h.can.coarse in
      set-here s.large s.n s.pages q t (Some page) square (place-in s (cuts_of s q) t h.store.table (omega arith) h.can.tile)

  pub put-others : (r : ℕ) (u : Point) → (r ≡ q → u ≡ t → ⊥) → page_at put_store r u ≡ page_at s r u
  put-others = set-others s.large s.n s.pages q t (Some page) square

  -- pages that were there are
  put-old : (r : ℕ) (u : Point) (old : Page) → page_at s r u ≡ Some old → page_at put_store r u ≡ Some old
  put-old r u old at = ⊎_elim
      (λ (same : (r ≡ q) × (u ≡ t)).
      let e : None ≡ Some old = sym h.can.absent ∙ sym (ap₂ (λ j v. page_at s j v) same.0 same.1) ∙ at in absurd cc)
      (λ (other : r ≡ q → u ≡ t → ⊥). put-others r u other ∙ at)
      (same-or-other q r t u)

  absent : (pages_of s).loaded q t ≡ false
  absent = ap is_some h.can.absent

  loaded-same : (r : ℕ) (u : Point) → (with_page (pages_of s) q t).loaded r u ≡ (pages_of put_store).loaded r u
  loaded-same r u = ⊎_elim
      (λ (same : (r ≡ q) × (u ≡ t)).
      ap₂ (λ j v. (with_page (pages_of s) q t).loaded j v) same.0 same.1
      ∙ with-this (pages_of s) q t
      ∙ sym (ap₂ (λ j v. (pages_of put_store).loaded j v) same.0 same.1 ∙ page-loaded put_store q t page put-here))
      (λ (other : r ≡ q → u ≡ t → ⊥).
      sym (with-other (pages_of s) q t r u other) ∙ sym (ap is_some (put-others r u other)))
      (same-or-other q r t u)

  put-pyramid : IsPyramid (pages_of put_store)
  put-pyramid = subst IsPyramid
      (λ j. record { large = s.large; n = s.n; top = s.large - s.n; loaded = λ r u. loaded-same r u j })
      (load-nested (pages_of s) q t h.store.table.pyramid h.can.above h.can.beside)

  -- the bound is that of before
  put-bound : maxval_of put_store ≡ maxval_of s
  put-bound = ap (λ o. unwrap_or (option_map (λ (g : HeightField). g.maxval) (option_map (λ (g : Page). g.field) o)) 0)
      (put-others (top_of s) (record { x = 0; y = 0 }) (λ top. let coarse = h.can.coarse in omega arith))

  -- any two pages agree

  -- one that was there
  IsOld : (r : ℕ) (u : Point) (pg : Page) → Type 0
  IsOld r u pg = page_at s r u ≡ Some pg

  which-page : (r : ℕ) (u : Point) (pg : Page) → page_at put_store r u ≡ Some pg →
      ((r ≡ q) × (u ≡ t) × (pg ≡ page)) ⊎ (page_at s r u ≡ Some pg)
  which-page r u pg at = ⊎_elim
      (λ (same : (r ≡ q) × (u ≡ t)).
      let e : Some page ≡ Some pg = sym put-here ∙ sym (ap₂ (λ j v. page_at put_store j v) same.0 same.1) ∙ at in
      inl (same.0, same.1, cc))
      (λ (other : r ≡ q → u ≡ t → ⊥). inr (sym (put-others r u other) ∙ at))
      (same-or-other q r t u)

  -- the height of an old page, and of the new one where it meets an old one
  old-height : (r : ℕ) (u p : Point) (pg : Page) → page_at s r u ≡ Some pg → IsTrue (has_point s.n r u p) →
      height_of s.n pg.field.heights (local_point s.n r u p) ≡ height_in s p
  old-height r u p pg at has = height-at s r u p pg (h.store.table.placed r u pg at).heights has

  new-height : (r : ℕ) (u p : Point) (pg : Page) → page_at s r u ≡ Some pg → IsTrue (has_point s.n r u p) →
      IsTrue (has_point s.n q t p) → height_of s.n page.field.heights (local_point s.n q t p) ≡ height_in s p
  new-height r u p pg at has here =
      let z = point-parts s.n q t p here in
      h.can.heights (local_point s.n q t p) z.inside
      (subst (IsLoadedPoint (pages_of s)) (sym z.is) (point-loaded s r u p pg at h.store.table.fits has))
      ∙ ap (height_in s) z.is

  this-height : (r : ℕ) (u p : Point) (pg : Page) → r ≡ q → u ≡ t → pg ≡ page →
      height_of s.n pg.field.heights (local_point s.n r u p) ≡ height_of s.n page.field.heights (local_point s.n q t p)
  this-height r u p pg e f g =
      ap (λ (z : Page). height_of s.n z.field.heights (local_point s.n r u p)) g
      ∙ ap₂ (λ j v. height_of s.n page.field.heights (local_point s.n j v p)) e f

  this-point : (r : ℕ) (u p : Point) → r ≡ q → u ≡ t → IsTrue (has_point s.n r u p) → IsTrue (has_point s.n q t p)
  this-point r u p e f has = sym (ap₂ (λ j v. has_point s.n j v p) e f) ∙ has

  put-agreed : AreAgreed put_store
  put-agreed a r u v pg other p at there has has' = ⊎_elim
      (λ (one : (a ≡ q) × (u ≡ t) × (pg ≡ page)). ⊎_elim
      (λ (two : (r ≡ q) × (v ≡ t) × (other ≡ page)).
      this-height a u p pg one.0 one.1 one.2 ∙ sym (this-height r v p other two.0 two.1 two.2))
      (λ (old : page_at s r v ≡ Some other).
      this-height a u p pg one.0 one.1 one.2
      ∙ new-height r v p other old has' (this-point a u p one.0 one.1 has)
      ∙ sym (old-height r v p other old has'))
      (which-page r v other there))
      (λ (old : page_at s a u ≡ Some pg). ⊎_elim
      (λ (two : (r ≡ q) × (v ≡ t) × (other ≡ page)).
      old-height a u p pg old has
      ∙ sym (new-height a u p pg old has (this-point r v p two.0 two.1 has'))
      ∙ sym (this-height r v p other two.0 two.1 two.2))
      (λ (old' : page_at s r v ≡ Some other).
      old-height a u p pg old has ∙ sym (old-height r v p other old' has'))
      (which-page r v other there))
      (which-page a u pg at)

  -- it is a table
  pub put-table : IsTable put_store
  put-table = record {
    some = h.store.table.some;
    fits = h.store.table.fits;
    small = h.store.table.small;
    places = length-set s.pages (place (cuts_of s q) t) (Some page) ∙ h.store.table.places;
    pyramid = put-pyramid;
    placed = λ r u pg at. ⊎_elim
        (λ (new : (r ≡ q) × (u ≡ t) × (pg ≡ page)). record {
          side = ap (λ (g : Page). g.field.n) new.2 ∙ h.can.side;
          bound = ap (λ (g : Page). g.field.maxval) new.2 ∙ h.can.bound ∙ sym put-bound;
          field = subst (λ (g : Page). IsHeightField g.field) (sym new.2) h.field;
          turned = ap (λ (g : Page). g.turned) new.2 ∙ h.turned
              ∙ sym (ap₂ (λ j v. is_turned (cuts_of s j) v) new.0 new.1);
          heights = agreed-samples put_store r u pg put-agreed at;
        })
        (λ (old : page_at s r u ≡ Some pg).
        let p = h.store.table.placed r u pg old in
        record {
          side = p.side;
          bound = p.bound ∙ sym put-bound;
          field = p.field;
          turned = p.turned;
          heights = agreed-samples put_store r u pg put-agreed at;
        })
        (which-page r u pg at);
  }

  -- heights that were loaded stay
  pub put-heights : (p : Point) → IsLoadedPoint (pages_of s) p → height_in s p ≡ height_in put_store p
  put-heights p l =
      let there = loaded-page s l.q l.square l.page in
      let has = loaded-has s p l in
      sym (old-height l.q l.square p there.0 there.1 has)
      ∙ height-at put_store l.q l.square p there.0 (put-table.placed l.q l.square there.0
      (put-old l.q l.square there.0 there.1)).heights has

  -- no finer page lies in it
  put-finest : HasNoFiner put_store q t
  put-finest u finer above = decide (page_at put_store (q - 1) u) refl
    where
      decide : (o : Option Page) → page_at put_store (q - 1) u ≡ o → o ≡ None
      decide None e = refl
      decide (Some pg) e =
          let old : page_at s (q - 1) u ≡ Some pg = sym (put-others (q - 1) u (λ same. omega arith)) ∙ e in
          let coarse = h.can.coarse in
          let back : q - 1 + 1 ≡ q = omega arith in
          let up = h.store.table.pyramid.nested (q - 1) u (omega arith) (page-loaded s (q - 1) u pg old) in
          absurd (both_ways ((pages_of s).loaded q t) absent
          (subst (λ v. IsTrue ((pages_of s).loaded q v)) above
          (subst (λ j. IsTrue ((pages_of s).loaded j (square_above u))) back up)))

  -- the others keep their quarters, but for those in which it lies
  pub put-joined : AreOthersJoined put_store q t
  put-joined r u pg not at = ⊎_elim
      (λ (new : (r ≡ q) × (u ≡ t) × (pg ≡ page)).
      subst (λ j. AreJoined put_store j u pg) (sym new.0)
      (subst (λ v. AreJoined put_store q v pg) (sym new.1)
      (subst (AreJoined put_store q t) (sym new.2) (λ k small.
      h.alone k small
      ∙ quarter-alone put_store q t page h.store.table.some put-pyramid
      record { coarse = square.coarse; tile = square.tile } put-here h.can.side
      (put-table.placed q t page put-here).heights put-finest k small))))
      (λ (old : page_at s r u ≡ Some pg). λ k small.
      let sq = page_at-some s r u pg old in
      let coarse = sq.coarse in
      let coarse' = h.can.coarse in
      let placed = h.store.table.placed r u pg old in
      h.store.joined r u pg old k small
      ∙ wedge-heights (pages_of s) h.store.table.pyramid (height_in s) (height_in put_store) put-heights
      (in_tile (cuts_of s r) u (4 + k))
      (quarter-known s r u pg h.store.table.some h.store.table.pyramid sq old placed.side placed.heights k small)
      ∙ wedge-quarter (pages_of s) (pages_of put_store).loaded q t
      (λ j v other. sym (ap is_some (put-others j v other))) (height_in put_store) r k u h.store.table.pyramid (omega arith)
      h.can.tile absent (omega arith) sq.tile (page-loaded s r u pg old) small not)
      (which-page r u pg at)

-- a page with another diagonal is alone, too
pub alone-cut : (page : Page) (b : Bool) → IsAlone page → IsAlone (record page { turned = b })
alone-cut page b alone zero small = alone 0 small
alone-cut page b alone (suc zero) small = alone 1 small
alone-cut page b alone (suc (suc zero)) small = alone 2 small
alone-cut page b alone (suc (suc (suc zero))) small = alone 3 small
alone-cut page b alone (suc (suc (suc (suc k)))) small = absurd (omega (arith, small))

-- what holds after a load
pub record IsLoaded (s s' : Store) (q : ℕ) (t : Point) (grid : HeightField) : Type 0 where
  pub here : grid_at s' q t ≡ Some grid
  pub others : AreOthersSame s s' q t
  pub heights : AreHeightsSame s s s'

pub load-done : {s s' : Store} {q : ℕ} {t : Point} {page : Page} (h : IsReady s q t page) →
    AreSameGrids (put_store h) s' → IsLoaded s s' q t page.field
load-done {s' = s'} {q} {t} h g =
    let same = same-terrain (put_store h) s' g.large g.n g.grids in
    record {
      here = g.grids q t ∙ ap (option_map (λ (z : Page). z.field)) (put-here h);
      others = λ r u other. g.grids r u ∙ ap (option_map (λ (z : Page). z.field)) (put-others h r u other);
      heights = λ p l. ap (λ f. f p) same.heights ∙ sym (put-heights h p l);
    }
