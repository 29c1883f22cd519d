-- The page is taken, and those above it are joined again.
use Rattle.std.proofs.Common.{◌≡◌, ◌-◌, ◌^◌, ap, sym, ◌∙◌, subst, arith, refl, Some, None, slice_set}
use Rattle.mosaic_laws.specs.Tile.{IsTile}
use Rattle.page_wedges.specs.Page.{Page, IsAlone}
use Rattle.page_store.specs.Store.{Store, top_of, place, page_at, grid_at, height_in, IsTable}
use Rattle.page_store.specs.Change.{AreSameGrids, AreOthersJoined}
use Rattle.page_store.proofs.TableLemmas.{loaded-page, page_at-some}
use Rattle.page_store.proofs.TakeLemmas.{IsSpare, take_store, take-table, take-joined, take-alone, IsUnloaded, unload-done}
use Rattle.page_store.proofs.store.PageStore.unload.Goals.{After-cuts-cuts}
use Rattle.page_store.proofs.store.PageStore.unload.Goals as goal

module _ (c : After-cuts-cuts) where
  abbrev s : Store
  s = c.self.inside.table

  there : (page : Page) × (page_at s c.args.q c.args.square ≡ Some page)
  there = loaded-page s c.args.q c.args.square (c.in_default.ensures.loaded refl)

  spare : IsSpare s c.args.q c.args.square there.0
  spare = record {
    store = c.self.invariant;
    at = there.1;
    fine = c.in_default.ensures.fine refl;
    free = c.in_default.ensures.free refl;
  }

  tile : IsTile (2 ^ c.cuts-cuts.result) (2 ^ c.cuts-cuts.result) c.args.square
  tile = subst (λ k. IsTile (2 ^ k) (2 ^ k) c.args.square) (sym c.cuts-cuts.ensures.value)
      (page_at-some s c.args.q c.args.square there.0 there.1).tile

  abbrev taken : Store
  taken = record s { pages = slice_set s.pages (place c.cuts-cuts.result c.args.square) None }

  is-taken : taken ≡ take_store spare
  is-taken = ap (λ k. record s { pages = slice_set s.pages (place k c.args.square) None }) c.cuts-cuts.ensures.value

  valid : IsTable taken
  valid = subst IsTable (sym is-taken) (take-table spare)

  back : top_of s - c.cuts-cuts.result ≡ c.args.q
  back =
      let fine = c.in_default.ensures.fine refl in
      let depth = c.cuts-cuts.ensures.value in
      omega arith

  unloaded : {z s' : Store} → z ≡ taken → AreSameGrids z s' → IsUnloaded s s' c.args.q c.args.square
  unloaded {s' = s'} e g = unload-done spare (subst (λ w. AreSameGrids w s') (e ∙ is-taken) g)

pub take-requires-clause-in_square : goal.take-requires-clause-in_square
take-requires-clause-in_square c = tile (goal.at.take-requires-clause-in_square c).After-cuts-cuts

pub take-requires-clause-valid : goal.take-requires-clause-valid
take-requires-clause-valid c = valid (goal.at.take-requires-clause-valid c).After-cuts-cuts

pub join_above-requires-clause-in_square : goal.join_above-requires-clause-in_square
join_above-requires-clause-in_square c = tile (goal.at.join_above-requires-clause-in_square c).After-cuts-cuts

pub join_above-requires-clause-joined : goal.join_above-requires-clause-joined
join_above-requires-clause-joined c =
    let h = (goal.at.join_above-requires-clause-joined c).After-cuts-cuts in
    subst (λ w. AreOthersJoined w (top_of w - c.cuts-cuts.result) c.args.square) (sym (c.take.ensures.value ∙ is-taken h))
    (subst (λ m. AreOthersJoined (take_store (spare h)) m c.args.square) (sym (back h)) (take-joined (spare h)))

pub join_above-requires-clause-valid : goal.join_above-requires-clause-valid
join_above-requires-clause-valid c =
    subst IsTable (sym c.take.ensures.value) (valid (goal.at.join_above-requires-clause-valid c).After-cuts-cuts)

pub returns-clause-alone : goal.returns-clause-alone
returns-clause-alone c =
    let h = (goal.at.returns-clause-alone c).After-cuts-cuts in
    let e : Some c.unwrap-page.result ≡ Some (there h).0 =
    sym c.unwrap-page.ensures ∙ c.take.ensures.taken
    ∙ ap (λ r. page_at c.self.inside.table r c.args.square) (back h) ∙ (there h).1 in
    let same : (there h).0 ≡ c.unwrap-page.result = cc in
    subst IsAlone same (take-alone (spare h))

pub returns-clause-gone : goal.returns-clause-gone
returns-clause-gone c =
    (unloaded (goal.at.returns-clause-gone c).After-cuts-cuts c.take.ensures.value c.join_above.ensures.grids).gone

pub returns-clause-others : goal.returns-clause-others
returns-clause-others c = λ r u other.
    (unloaded (goal.at.returns-clause-others c).After-cuts-cuts c.take.ensures.value c.join_above.ensures.grids).others r u
    other
    ∙ ap (λ z. grid_at z r u) c.self.view_is

pub returns-clause-heights : goal.returns-clause-heights
returns-clause-heights c = λ p l.
    (unloaded (goal.at.returns-clause-heights c).After-cuts-cuts c.take.ensures.value c.join_above.ensures.grids).heights p l
    ∙ ap (λ z. height_in z p) c.self.view_is
