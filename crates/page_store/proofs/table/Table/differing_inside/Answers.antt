-- By the coarser page.
use Rattle.std.proofs.Common.{◌≡◌, suc, ◌-◌, ◌^◌, ap, sym, ◌∙◌, subst, refl, arith}
use Rattle.mesh_defs.specs.HeightField.{HeightField}
use Rattle.mosaic_laws.specs.Tile.{IsTile}
use Rattle.page_laws.specs.Pages.{square_above}
use Rattle.page_store.specs.Store.{Store, IsTable, top_of, cuts_of}
use Rattle.page_store.proofs.AboveLemmas.{above-tile}
use Rattle.page_store.proofs.AgreementLemmas.{above-page, half-shifted, agreed-inside, differs-inside}
use Rattle.page_store.proofs.table.Table.differing_inside.Goals as goal

pub page_in-requires-clause-in_square : goal.page_in-requires-clause-in_square
page_in-requires-clause-in_square c =
    let finer = c.requires.finer in
    let e : cuts_of c.args.self.now c.args.q ≡ suc (top_of c.args.self.now - c.args.q - 1) = omega arith in
    subst (λ d. IsTile (2 ^ (d - c.args.q - 1)) (2 ^ (d - c.args.q - 1)) (square_above c.args.square))
    (sym (ap top_of c.self.view_is))
    (above-tile (top_of c.args.self.now - c.args.q - 1) c.args.square
    (subst (λ k. IsTile (2 ^ k) (2 ^ k) c.args.square) e c.requires.in_square))

pub differing_in_rows-requires-clause-side : goal.differing_in_rows-requires-clause-side
differing_in_rows-requires-clause-side c =
    let i : IsTable c.args.self.now = subst IsTable c.self.view_is c.self.invariant in
    let at = above-page c.args.self.now c.args.q (c.self.inside.large - c.self.inside.n) c.args.square
    c.page_in.result c.unwrap-coarser.result (ap top_of c.self.view_is) c.requires.finer c.page_in.ensures.value
    c.unwrap-coarser.ensures in
    ap (λ (g : HeightField). g.n) c.grid.ensures.value
    ∙ (i.placed _ _ c.unwrap-coarser.result.now at).side
    ∙ sym c.requires.side

pub returns-in_err-found-clause-none : goal.returns-in_err-found-clause-none
returns-in_err-found-clause-none c =
    let i : IsTable c.args.self.now = subst IsTable c.self.view_is c.self.invariant in
    let at = above-page c.args.self.now c.args.q (c.self.inside.large - c.self.inside.n) c.args.square
    c.page_in.result c.unwrap-coarser.result (ap top_of c.self.view_is) c.requires.finer c.page_in.ensures.value
    c.unwrap-coarser.ensures in
    let half = half-shifted c.args.self.now i c.self.inside.n (ap (λ (s : Store). s.n) c.self.view_is) in
    λ _. agreed-inside c.args.self.now i c.args.q c.args.square c.args.grid.now.heights c.unwrap-coarser.result.now at
    c.grid.result.now c.args.grid.now.n _ c.grid.ensures.value c.requires.side half
    (c.in_err-found.ensures.none refl)

pub returns-clause-some : goal.returns-clause-some
returns-clause-some c =
    let i : IsTable c.args.self.now = subst IsTable c.self.view_is c.self.invariant in
    let at = above-page c.args.self.now c.args.q (c.self.inside.large - c.self.inside.n) c.args.square
    c.page_in.result c.unwrap-coarser.result (ap top_of c.self.view_is) c.requires.finer c.page_in.ensures.value
    c.unwrap-coarser.ensures in
    let half = half-shifted c.args.self.now i c.self.inside.n (ap (λ (s : Store). s.n) c.self.view_is) in
    differs-inside c.args.self.now i c.args.q c.args.square c.args.grid.now.heights c.unwrap-coarser.result.now at
    c.grid.result.now c.args.grid.now.n _ c.in_ok-found.found c.grid.ensures.value c.requires.side half
    c.requires.finer c.in_ok-found.ensures.some.0 c.in_ok-found.ensures.some.1
