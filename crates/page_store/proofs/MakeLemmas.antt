-- A store with the coarsest page alone.
use Rattle.std.proofs.Common.{unwrap_or, option_map}
use Rattle.std.proofs.Common.{◌≡◌, ◌≢◌, ℕ, ◌+◌, ◌-◌, ◌*◌, ◌/◌, ◌^◌, ◌<◌, ◌≤◌, sym, ◌∙◌, ap, ap₂, subst, arith}
use Rattle.std.proofs.Common.{⊎_elim, false, IsTrue, Option, Some, None, List, length, replicate}
use Rattle.std.proofs.Common.{slice_index_or, slice_set, refl}
use Rattle.std.proofs.lemmas.Bool.{cases_lt}
use Rattle.std.proofs.lemmas.List.{get_or-set_other, get_or-set_same, get_or-replicate, length-replicate, get_or_past}
use Rattle.std.proofs.Math.ListN.{length-set}
use Rattle.mesh_defs.specs.declared.point.Point.{Point}
use Rattle.mesh_defs.specs.HeightField.{HeightField, IsHeightField}
use Rattle.mesh_defs.specs.Thickness.{height_of}
use Rattle.bintree_laws.proofs.LatticeLemmas.{same_point}
use Rattle.mosaic_laws.specs.Tile.{IsTile}
use Rattle.page_laws.specs.Pages.{cuts_to, is_turned, IsPyramid}
use Rattle.page_wedges.specs.Page.{Page, own_wedge, quarter_in, IsAlone}
use Rattle.page_store.specs.Store.{Store, cuts_of, place, page_at, pages_of, AreJoined, IsTable}
use Rattle.page_store.specs.Store.{local_point}
use Rattle.page_store.proofs.PlaceLemmas.{place-first, place-is, third-mono}
use Rattle.page_store.proofs.TableLemmas.{IsSquare, page_at-square, page_at-some, loaded-page, page-loaded}
use Rattle.page_store.proofs.HeightLemmas.{AreAgreed, agreed-samples}
use Rattle.page_store.proofs.AloneLemmas.{quarter-alone}

module _ (large : ℕ) (root : Page) (items : List (Option Page)) (fits : root.field.n ≤ large)
    (empty : items ≡ replicate (2 ^ (2 * (large - root.field.n + 1)) / 3) None) where
  abbrev pub first_store : Store
  first_store = record { large = large; n = root.field.n; pages = slice_set items 0 (Some root) }

  abbrev pub origin : Point
  origin = record { x = 0; y = 0 }

  -- there is a first place
  pub some-places : 0 < length items
  some-places =
      let e = ap length empty ∙ length-replicate (2 ^ (2 * (large - root.field.n + 1)) / 3) None in
      let mono = third-mono 1 (large - root.field.n + 1) (omega arith) in
      omega arith

  pub origin-square : IsSquare first_store (large - root.field.n) origin
  origin-square = record {
    coarse = omega arith;
    tile = let e : large - (root.field.n + (large - root.field.n)) ≡ 0 = omega arith in
        subst (λ k. IsTile (2 ^ k) (2 ^ k) origin) (sym e) record { column = omega arith; row = omega arith };
  }

  place-origin : place (cuts_of first_store (large - root.field.n)) origin ≡ 0
  place-origin =
      let e : large - (root.field.n + (large - root.field.n)) ≡ 0 = omega arith in
      ap (λ k. place k origin) e ∙ place-is 0 origin ∙ omega arith

  -- the coarsest page stands there
  pub root-at : page_at first_store (large - root.field.n) origin ≡ Some root
  root-at =
      page_at-square first_store (large - root.field.n) origin origin-square
      ∙ ap (λ k. slice_index_or (slice_set items 0 (Some root)) k None) place-origin
      ∙ get_or-set_same items 0 (Some root) None some-places

  -- and nowhere else one
  none-else : (k : ℕ) → k ≢ 0 → slice_index_or (slice_set items 0 (Some root)) k None ≡ None
  none-else k other =
      get_or-set_other items 0 k (Some root) None other
      ∙ ap (λ xs. slice_index_or xs k None) empty
      ∙ ⊎_elim
      (λ (less : k < 2 ^ (2 * (large - root.field.n + 1)) / 3).
      get_or-replicate (2 ^ (2 * (large - root.field.n + 1)) / 3) k None None less)
      (λ (more : 2 ^ (2 * (large - root.field.n + 1)) / 3 ≤ k).
      get_or_past (replicate (2 ^ (2 * (large - root.field.n + 1)) / 3) None) k None
      (let e = length-replicate {A = Option Page} (2 ^ (2 * (large - root.field.n + 1)) / 3) None in omega arith))
      (cases_lt k (2 ^ (2 * (large - root.field.n + 1)) / 3))

  pub record IsRoot (q : ℕ) (t : Point) (page : Page) : Type 0 where
    pub top : q ≡ large - root.field.n
    pub square : t ≡ origin
    pub is : page ≡ root

  pub only-root : (q : ℕ) (t : Point) (page : Page) → page_at first_store q t ≡ Some page → IsRoot q t page
  only-root q t page at =
      let square = page_at-some first_store q t page at in
      let coarse = square.coarse in
      let there = sym (page_at-square first_store q t square) ∙ at in
      ⊎_elim
      (λ (less : place (cuts_of first_store q) t < 1).
      let zero-place : place (cuts_of first_store q) t ≡ 0 = omega arith in
      let is = place-first (cuts_of first_store q) t square.tile zero-place in
      let cuts = is.0 in
      let e : Some root ≡ Some page =
      sym (get_or-set_same items 0 (Some root) None some-places)
      ∙ ap (λ k. slice_index_or (slice_set items 0 (Some root)) k None) (sym zero-place)
      ∙ there in
      record { top = omega arith; square = is.1; is = cc })
      (λ (more : 1 ≤ place (cuts_of first_store q) t).
      let e : None ≡ Some page = sym (none-else (place (cuts_of first_store q) t) (omega arith)) ∙ there in absurd cc)
      (cases_lt (place (cuts_of first_store q) t) 1)

  pub other-none : (q : ℕ) (t : Point) → q ≢ large - root.field.n → page_at first_store q t ≡ None
  other-none q t other = decide (page_at first_store q t) refl
    where
      decide : (o : Option Page) → page_at first_store q t ≡ o → o ≡ None
      decide None e = refl
      decide (Some page) e = absurd (other (only-root q t page e).top)

  pub first-pyramid : 1 ≤ root.field.n → IsPyramid (pages_of first_store)
  first-pyramid some = record {
    some = some;
    fits = omega arith;
    coarsest = λ t tile.
        let e : cuts_to (pages_of first_store) (large - root.field.n) ≡ 0 = omega arith in
        let tile' : IsTile (2 ^ 0) (2 ^ 0) t = subst (λ k. IsTile (2 ^ k) (2 ^ k) t) e tile in
        let column = tile'.column in
        let row = tile'.row in
        let is : origin ≡ t = same_point 0 0 t.x t.y (omega arith) (omega arith) in
        subst (λ u. IsTrue ((pages_of first_store).loaded (large - root.field.n) u)) is
        (page-loaded first_store (large - root.field.n) origin root root-at);
    nested = λ q t less loaded.
        let page = loaded-page first_store q t loaded in
        let is = (only-root q t page.0 page.1).top in absurd (omega arith);
    beside = λ q t u less loaded tile beside.
        let page = loaded-page first_store q t loaded in
        let is = (only-root q t page.0 page.1).top in absurd (omega arith);
  }

  first-agreed : AreAgreed first_store
  first-agreed q r t u page other p at there has has' =
      let a = only-root q t page at in
      let b = only-root r u other there in
      ap₂ (λ (g : Page) (z : ℕ × Point). height_of root.field.n g.field.heights (local_point root.field.n z.0 z.1 p))
      (a.is ∙ sym b.is) (ap₂ (λ (i : ℕ) (j : Point). (i, j)) (a.top ∙ sym b.top) (a.square ∙ sym b.square))

  -- it is a table
  pub first-table : 1 ≤ root.field.n → large ≤ 14 → IsHeightField root.field → root.turned ≡ false →
      IsTable first_store
  first-table some small field turned = record {
    some = some;
    fits = fits;
    small = small;
    places = length-set items 0 (Some root)
        ∙ ap length empty
        ∙ length-replicate (2 ^ (2 * (large - root.field.n + 1)) / 3) None;
    pyramid = first-pyramid some;
    placed = λ q t page at.
        let is = only-root q t page at in
        let square = page_at-some first_store q t page at in
        let coarse = square.coarse in
        let top = is.top in
        let cuts : cuts_of first_store q ≡ 0 = omega arith in
        record {
          side = ap (λ (g : Page). g.field.n) is.is;
          bound = ap (λ (g : Page). g.field.maxval) is.is
              ∙ sym (ap (λ o. unwrap_or (option_map (λ (g : HeightField). g.maxval) (option_map (λ (g : Page). g.field) o)) 0) root-at);
          field = subst (λ (g : Page). IsHeightField g.field) (sym is.is) field;
          turned = ap (λ (g : Page). g.turned) is.is ∙ turned ∙ ap (λ k. is_turned k t) (sym cuts);
          heights = agreed-samples first_store q t page first-agreed at;
        };
  }

  -- and a store
  pub first-joined : 1 ≤ root.field.n → IsAlone root → (q : ℕ) (t : Point) (page : Page) →
      page_at first_store q t ≡ Some page → AreJoined first_store q t page
  first-joined some alone q t page at = λ k less.
      let is = only-root q t page at in
      let square = page_at-some first_store q t page at in
      let coarse = square.coarse in
      let top = is.top in
      let side : page.field.n ≡ root.field.n = ap (λ (g : Page). g.field.n) is.is in
      ap (λ (g : Page). quarter_in g k) is.is
      ∙ alone k less
      ∙ ap (λ (g : Page). own_wedge g.field (4 + k)) (sym is.is)
      ∙ quarter-alone first_store q t page some (first-pyramid some) square at side
      (agreed-samples first_store q t page first-agreed at)
      (λ u finer above. other-none (q - 1) u (λ same. omega arith)) k less
