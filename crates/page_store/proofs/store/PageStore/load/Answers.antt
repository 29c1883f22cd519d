-- The page is put, and those above it are joined again.
use Rattle.std.proofs.Common.{◌≡◌, ℕ, ◌-◌, ap, sym, ◌∙◌, subst, arith, refl, Bool, Some, slice_set}
use Rattle.mesh_defs.specs.declared.point.Point.{Point}
use Rattle.mesh_defs.specs.HeightField.{HeightField, IsHeightField}
use Rattle.page_laws.specs.Pages.{is_turned, IsLoadedPoint}
use Rattle.page_wedges.specs.Page.{Page, IsAlone}
use Rattle.page_store.specs.Store.{Store, top_of, cuts_of, place, grid_at, pages_of, height_in, IsTable, IsStore}
use Rattle.page_store.specs.Change.{AreSameGrids, AreOthersJoined}
use Rattle.page_store.specs.Load.{CanLoad}
use Rattle.page_store.proofs.PutLemmas.{IsReady, put_store, put-table, put-joined, alone-cut, IsLoaded, load-done}
use Rattle.page_store.proofs.store.PageStore.load.Goals.{After-cut_by}
use Rattle.page_store.proofs.store.PageStore.load.Goals as goal

-- the page that is put
ready : {s : Store} {q : ℕ} {t : Point} (page : Page) {cut : Page} {b : Bool} {cuts : ℕ} {g : HeightField} → IsStore s →
    g ≡ page.field → CanLoad s q t g → IsHeightField page.field → IsAlone page → cuts ≡ cuts_of s q →
    b ≡ is_turned cuts t → cut ≡ record page { turned = b } → IsReady s q t cut
ready {s} {q} {t} page {cut} {b} i same can field alone depth turned is = record {
  store = i;
  can = subst (CanLoad s q t) (same ∙ sym (ap (λ (z : Page). z.field) is)) can;
  field = subst IsHeightField (sym (ap (λ (z : Page). z.field) is)) field;
  turned = ap (λ (z : Page). z.turned) is ∙ turned ∙ ap (λ k. is_turned k t) depth;
  alone = subst IsAlone (sym is) (alone-cut page b alone);
}

module _ (c : After-cut_by) where
  abbrev s : Store
  s = c.self.inside.table

  abbrev cut : Page
  cut = c.cut_by.new.self

  is-ready : IsReady s c.args.q c.args.square cut
  is-ready = ready c.args.page c.self.invariant c.grid.ensures.value (c.in_default.ensures.none refl) c.grid.ensures.valid
      c.requires.alone c.cuts-cuts.ensures.value c.is_turned.ensures.value c.cut_by.ensures.value

  abbrev was-put : Store
  was-put = record s { pages = slice_set s.pages (place c.cuts-cuts.result c.args.square) (Some cut) }

  is-put : was-put ≡ put_store is-ready
  is-put = ap (λ k. record s { pages = slice_set s.pages (place k c.args.square) (Some cut) }) c.cuts-cuts.ensures.value

  valid : IsTable was-put
  valid = subst IsTable (sym is-put) (put-table is-ready)

  loaded : {z s' : Store} → z ≡ was-put → AreSameGrids z s' → IsLoaded s s' c.args.q c.args.square cut.field
  loaded {s' = s'} e g = load-done is-ready (subst (λ w. AreSameGrids w s') (e ∙ is-put) g)

pub put-requires-clause-valid : goal.put-requires-clause-valid
put-requires-clause-valid c = valid (goal.at.put-requires-clause-valid c).After-cut_by

pub join_above-requires-clause-joined : goal.join_above-requires-clause-joined
join_above-requires-clause-joined c =
    let h = (goal.at.join_above-requires-clause-joined c).After-cut_by in
    let coarse = (is-ready h).can.coarse in
    let depth = c.cuts-cuts.ensures.value in
    let back : c.args.q ≡ top_of c.self.inside.table - c.cuts-cuts.result = omega arith in
    subst (λ w. AreOthersJoined w (top_of w - c.cuts-cuts.result) c.args.square) (sym (c.put.ensures.value ∙ is-put h))
    (subst (λ m. AreOthersJoined (put_store (is-ready h)) m c.args.square) back (put-joined (is-ready h)))

pub join_above-requires-clause-valid : goal.join_above-requires-clause-valid
join_above-requires-clause-valid c =
    subst IsTable (sym c.put.ensures.value) (valid (goal.at.join_above-requires-clause-valid c).After-cut_by)

pub returns-clause-loaded : goal.returns-clause-loaded
returns-clause-loaded c =
    (loaded (goal.at.returns-clause-loaded c).After-cut_by c.put.ensures.value c.join_above.ensures.grids).here
    ∙ ap (λ (z : Page). Some z.field) c.cut_by.ensures.value

pub returns-clause-others : goal.returns-clause-others
returns-clause-others c = λ r u other.
    (loaded (goal.at.returns-clause-others c).After-cut_by c.put.ensures.value c.join_above.ensures.grids).others r u other
    ∙ ap (λ z. grid_at z r u) c.self.view_is

pub returns-clause-heights : goal.returns-clause-heights
returns-clause-heights c = λ p l.
    (loaded (goal.at.returns-clause-heights c).After-cut_by c.put.ensures.value c.join_above.ensures.grids).heights p
    (subst (λ z. IsLoadedPoint (pages_of z) p) (sym c.self.view_is) l)
    ∙ ap (λ z. height_in z p) c.self.view_is
