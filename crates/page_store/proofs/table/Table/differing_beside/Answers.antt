-- By the page beside, if there is one.
use Rattle.std.proofs.Common.{◌-◌, ap, sym, ◌∙◌, subst, refl, Some, None}
use Rattle.mesh_defs.specs.HeightField.{HeightField}
use Rattle.mosaic_laws.specs.Tile.{IsTile}
use Rattle.page_store.specs.Store.{Store, IsTable, top_of}
use Rattle.page_store.specs.Agreement.{on_side, IsDifferingAt}
use Rattle.page_store.proofs.AgreementLemmas.{page-here, side-shifted, columns-shifted, agreed-border, agreed-missing}
use Rattle.page_store.proofs.AgreementLemmas.{agreed-side, differs-side}
use Rattle.page_store.proofs.table.Table.differing_beside.Goals as goal

pub returns-in_err-other-clause-none : goal.returns-in_err-other-clause-none
returns-in_err-other-clause-none c =
    let i : IsTable c.args.self.now = subst IsTable c.self.view_is c.self.invariant in
    let columns = columns-shifted c.args.self.now i c.args.q (c.self.inside.large - c.self.inside.n)
    (ap top_of c.self.view_is) in
    λ _. agreed-border c.args.self.now i c.args.q c.args.square c.args.grid.now.heights c.args.side
    (λ u tile. c.in_err-other.ensures.none refl u (subst (λ k. IsTile k k u) (sym columns) tile))

pub differing_on_side-requires-clause-same : goal.differing_on_side-requires-clause-same
differing_on_side-requires-clause-same c =
    let i : IsTable c.args.self.now = subst IsTable c.self.view_is c.self.invariant in
    let at = page-here c.args.self.now c.args.q (c.self.inside.large - c.self.inside.n) c.in_ok-other.other
    (Some c.in_ok-page.page.now) (ap top_of c.self.view_is) c.requires.coarse c.in_ok-page.ensures.value in
    ap (λ (g : HeightField). g.n) c.grid.ensures.value
    ∙ (i.placed _ _ c.in_ok-page.page.now at).side
    ∙ sym c.requires.same

pub returns-in_err-page-clause-none : goal.returns-in_err-page-clause-none
returns-in_err-page-clause-none c =
    let i : IsTable c.args.self.now = subst IsTable c.self.view_is c.self.invariant in
    λ _. agreed-missing c.args.self.now i c.args.q c.args.square c.args.grid.now.heights c.args.side
    c.in_ok-other.other c.in_ok-other.ensures.some.1
    (page-here c.args.self.now c.args.q (c.self.inside.large - c.self.inside.n) c.in_ok-other.other None
    (ap top_of c.self.view_is) c.requires.coarse c.in_err-page.ensures.value)

pub returns-in_err-k-clause-none : goal.returns-in_err-k-clause-none
returns-in_err-k-clause-none c =
    let i : IsTable c.args.self.now = subst IsTable c.self.view_is c.self.invariant in
    let at = page-here c.args.self.now c.args.q (c.self.inside.large - c.self.inside.n) c.in_ok-other.other
    (Some c.in_ok-page.page.now) (ap top_of c.self.view_is) c.requires.coarse c.in_ok-page.ensures.value in
    λ _. agreed-side c.args.self.now i c.args.q c.args.square c.args.grid.now.heights c.args.side c.in_ok-other.other
    c.in_ok-page.page.now c.requires.side c.in_ok-other.ensures.some.1 at c.grid.result.now c.args.grid.now.n
    c.grid.ensures.value c.requires.same (c.in_err-k.ensures.none refl)

pub returns-clause-some : goal.returns-clause-some
returns-clause-some c =
    let i : IsTable c.args.self.now = subst IsTable c.self.view_is c.self.invariant in
    let at = page-here c.args.self.now c.args.q (c.self.inside.large - c.self.inside.n) c.in_ok-other.other
    (Some c.in_ok-page.page.now) (ap top_of c.self.view_is) c.requires.coarse c.in_ok-page.ensures.value in
    let side = side-shifted c.args.self.now i c.self.inside.n (ap (λ (s : Store). s.n) c.self.view_is) in
    subst (IsDifferingAt c.args.self.now c.args.q c.args.square c.args.grid.now.heights)
    (sym (c.on_side.ensures.value ∙ ap (λ m. on_side m c.args.side c.in_ok-k.k) side))
    (differs-side c.args.self.now i c.args.q c.args.square c.args.grid.now.heights c.args.side c.in_ok-other.other
    c.in_ok-page.page.now c.requires.side c.in_ok-other.ensures.some.1 at c.grid.result.now c.args.grid.now.n
    c.in_ok-k.k c.grid.ensures.value c.requires.same c.requires.coarse c.in_ok-k.ensures.some.0
    c.in_ok-k.ensures.some.1)
