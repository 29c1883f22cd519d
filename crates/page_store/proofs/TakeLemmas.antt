-- A page taken out of its square.
use Rattle.std.proofs.Common.{unwrap_or}
use Rattle.std.proofs.Common.{◌≡◌, ℕ, ◌+◌, ◌-◌, ◌<◌, sym, ◌∙◌, ap, ap₂, subst, arith}
use Rattle.std.proofs.Common.{refl, ⊎_elim, IsTrue, Option, Some, None, is_some, option_map}
use Rattle.std.proofs.Common.{slice_set}
use Rattle.std.proofs.Math.ListN.{length-set}
use Rattle.mesh_defs.specs.declared.point.Point.{Point}
use Rattle.mesh_defs.specs.HeightField.{HeightField}
use Rattle.mesh_defs.specs.Thickness.{height_of}
use Rattle.mosaic_laws.specs.Tile.{in_tile}
use Rattle.page_laws.specs.Pages.{IsPyramid, IsLoadedPoint, without_page}
use Rattle.page_laws.proofs.ChangeLemmas.{without-this, without-other, unload-nested, wedge-quarter}
use Rattle.page_laws.proofs.LoadedLemmas.{wedge-heights}
use Rattle.page_wedges.specs.Page.{Page, IsAlone}
use Rattle.page_store.specs.Store.{top_of, maxval_of}
use Rattle.page_store.specs.Store.{Store, cuts_of, place, page_at, grid_at, pages_of, local_point, has_point}
use Rattle.page_store.specs.Store.{height_in, IsTable, IsStore}
use Rattle.page_store.specs.Change.{AreOthersJoined, AreOthersSame, AreHeightsSame, AreSameGrids}
use Rattle.page_store.specs.Unload.{IsFree}
use Rattle.page_store.proofs.TableLemmas.{IsSquare, page_at-some, loaded-page, page-loaded}
use Rattle.page_store.proofs.WalkLemmas.{place-in}
use Rattle.page_store.proofs.HeightLemmas.{AreAgreed, agreed-samples}
use Rattle.page_store.proofs.AloneLemmas.{HasNoFiner, quarter-known, quarter-alone}
use Rattle.page_store.proofs.ChangeLemmas.{same-or-other, same-terrain, set-here, set-others}
use Rattle.page_store.proofs.PutLemmas.{height-at, loaded-has}

-- a page that may be taken out of its square
pub record IsSpare (s : Store) (q : ℕ) (t : Point) (page : Page) : Type 0 where
  pub store : IsStore s
  pub at : page_at s q t ≡ Some page
  pub fine : s.n + q < s.large
  pub free : IsFree s q t

module _ {s : Store} {q : ℕ} {t : Point} {page : Page} (h : IsSpare s q t page) where
  abbrev pub take_store : Store
  take_store = record s { pages = slice_set s.pages (place (cuts_of s q) t) None }

  square : IsSquare s q t
  square = page_at-some s q t page h.at

  take-here : page_at take_store q t ≡ None
  take-here =
      let fits = h.store.table.fits in
      set-here s.large s.n s.pages q t None square (place-in s (cuts_of s q) t h.store.table (omega arith) square.tile)

  pub take-others : (r : ℕ) (u : Point) → (r ≡ q → u ≡ t → ⊥) → page_at take_store r u ≡ page_at s r u
  take-others = set-others s.large s.n s.pages q t None square

  -- a page that is left was there
  take-old : (r : ℕ) (u : Point) (pg : Page) → page_at take_store r u ≡ Some pg → page_at s r u ≡ Some pg
  take-old r u pg there = ⊎_elim
      (λ (same : (r ≡ q) × (u ≡ t)).
      let e : None ≡ Some pg = sym take-here ∙ sym (ap₂ (λ j v. page_at take_store j v) same.0 same.1) ∙ there in
      absurd cc)
      (λ (other : r ≡ q → u ≡ t → ⊥). sym (take-others r u other) ∙ there)
      (same-or-other q r t u)

  loaded-same : (r : ℕ) (u : Point) → (without_page (pages_of s) q t).loaded r u ≡ (pages_of take_store).loaded r u
  loaded-same r u = ⊎_elim
      (λ (same : (r ≡ q) × (u ≡ t)).
      ap₂ (λ j v. (without_page (pages_of s) q t).loaded j v) same.0 same.1
      ∙ without-this (pages_of s) q t
      ∙ sym (ap₂ (λ j v. (pages_of take_store).loaded j v) same.0 same.1 ∙ ap is_some take-here))
      (λ (other : r ≡ q → u ≡ t → ⊥).
      sym (without-other (pages_of s) q t r u other) ∙ sym (ap is_some (take-others r u other)))
      (same-or-other q r t u)

  take-pyramid : IsPyramid (pages_of take_store)
  take-pyramid = subst IsPyramid
      (λ j. record { large = s.large; n = s.n; top = s.large - s.n; loaded = λ r u. loaded-same r u j })
      (unload-nested (pages_of s) q t h.store.table.pyramid (omega (arith, h.fine)) h.free)

  old-height : (r : ℕ) (u p : Point) (pg : Page) → page_at take_store r u ≡ Some pg → IsTrue (has_point s.n r u p) →
      height_of s.n pg.field.heights (local_point s.n r u p) ≡ height_in s p
  old-height r u p pg there has = height-at s r u p pg (h.store.table.placed r u pg (take-old r u pg there)).heights has

  take-agreed : AreAgreed take_store
  take-agreed a r u v pg other p there there' has has' =
      old-height a u p pg there has ∙ sym (old-height r v p other there' has')

  take-bound : maxval_of take_store ≡ maxval_of s
  take-bound = ap (λ o. unwrap_or (option_map (λ (g : HeightField). g.maxval) (option_map (λ (g : Page). g.field) o)) 0)
      (take-others (top_of s) (record { x = 0; y = 0 }) (λ top. omega (arith, h.fine)))

  -- it is a table
  pub take-table : IsTable take_store
  take-table = record {
    some = h.store.table.some;
    fits = h.store.table.fits;
    small = h.store.table.small;
    places = length-set s.pages (place (cuts_of s q) t) None ∙ h.store.table.places;
    pyramid = take-pyramid;
    placed = λ r u pg there.
        let p = h.store.table.placed r u pg (take-old r u pg there) in
        record {
          side = p.side;
          bound = p.bound ∙ sym take-bound;
          field = p.field;
          turned = p.turned;
          heights = agreed-samples take_store r u pg take-agreed there;
        };
  }

  -- heights that are loaded still stay
  pub take-heights : (p : Point) → IsLoadedPoint (pages_of take_store) p → height_in take_store p ≡ height_in s p
  take-heights p l =
      let there = loaded-page take_store l.q l.square l.page in
      let has = loaded-has take_store p l in
      sym (height-at take_store l.q l.square p there.0 (take-table.placed l.q l.square there.0 there.1).heights has)
      ∙ old-height l.q l.square p there.0 there.1 has

  -- the others keep their quarters, but for those in which it lay
  pub take-joined : AreOthersJoined take_store q t
  take-joined r u pg not there k small =
      let old = take-old r u pg there in
      let sq = page_at-some take_store r u pg there in
      let coarse = sq.coarse in
      let placed = take-table.placed r u pg there in
      h.store.joined r u pg old k small
      ∙ sym (wedge-heights (pages_of take_store) take-pyramid (height_in take_store) (height_in s) take-heights
      (in_tile (cuts_of s r) u (4 + k))
      (quarter-known take_store r u pg h.store.table.some take-pyramid sq there placed.side placed.heights k small)
      ∙ wedge-quarter (pages_of take_store) (pages_of s).loaded q t
      (λ j v other. ap is_some (take-others j v other)) (height_in s) r k u take-pyramid (omega (arith, h.fine))
      square.tile (ap is_some take-here) (omega arith) sq.tile (page-loaded take_store r u pg there) small not)

  -- and it is alone again
  finest : HasNoFiner s q t
  finest u finer above = decide (page_at s (q - 1) u) refl
    where
      decide : (o : Option Page) → page_at s (q - 1) u ≡ o → o ≡ None
      decide None e = refl
      decide (Some pg) e = absurd ((h.free finer u (page-loaded s (q - 1) u pg e)).0 above)

  pub take-alone : IsAlone page
  take-alone k small =
      let placed = h.store.table.placed q t page h.at in
      h.store.joined q t page h.at k small
      ∙ sym (quarter-alone s q t page h.store.table.some h.store.table.pyramid square h.at placed.side placed.heights finest k
      small)

-- what holds after a page was unloaded
pub record IsUnloaded (s s' : Store) (q : ℕ) (t : Point) : Type 0 where
  pub gone : grid_at s' q t ≡ None
  pub others : AreOthersSame s s' q t
  pub heights : AreHeightsSame s' s s'

pub unload-done : {s s' : Store} {q : ℕ} {t : Point} {page : Page} (h : IsSpare s q t page) →
    AreSameGrids (take_store h) s' → IsUnloaded s s' q t
unload-done {s' = s'} {q} {t} h g =
    let same = same-terrain (take_store h) s' g.large g.n g.grids in
    record {
      gone = g.grids q t ∙ ap (option_map (λ (z : Page). z.field)) (take-here h);
      others = λ r u other. g.grids r u ∙ ap (option_map (λ (z : Page). z.field)) (take-others h r u other);
      heights = λ p l. ap (λ f. f p) same.heights ∙ take-heights h p (subst (λ w. IsLoadedPoint w p) same.pages l);
    }
