-- The square, and those beside it.
use Rattle.std.proofs.Common.{◌-◌, ◌≤◌, ap, sym, arith, subst}
use Rattle.mosaic_laws.specs.Tile.{IsTile}
use Rattle.page_store.specs.Store.{IsTable, top_of}
use Rattle.page_store.proofs.TableLemmas.{loaded-page, page_at-some}
use Rattle.page_store.proofs.AgreementLemmas.{columns-shifted}
use Rattle.page_store.proofs.UnloadLemmas.{square-small, free-from}
use Rattle.page_store.proofs.table.Table.is_needed.Goals as goal

pub overflow_sub-cuts-2 : goal.overflow_sub-cuts-2
overflow_sub-cuts-2 c =
    let page = loaded-page c.args.self.now c.args.q c.args.square c.requires.loaded in
    let coarse = (page_at-some c.args.self.now c.args.q c.args.square page.0 page.1).coarse in
    subst (λ d. c.args.q ≤ d) (sym (ap top_of c.self.view_is)) (omega arith)

pub beside-requires-clause-in_square : goal.beside-requires-clause-in_square
beside-requires-clause-in_square c =
    let i : IsTable c.args.self.now = subst IsTable c.self.view_is c.self.invariant in
    let page = loaded-page c.args.self.now c.args.q c.args.square c.requires.loaded in
    let columns = columns-shifted c.args.self.now i c.args.q (c.self.inside.large - c.self.inside.n)
    (ap top_of c.self.view_is) in
    subst (λ k. IsTile k k c.args.square) (sym columns)
    (page_at-some c.args.self.now c.args.q c.args.square page.0 page.1).tile

pub has_finer-requires-clause-column : goal.has_finer-requires-clause-column
has_finer-requires-clause-column c =
    let i : IsTable c.args.self.now = subst IsTable c.self.view_is c.self.invariant in
    let page = loaded-page c.args.self.now c.args.q c.args.square c.requires.loaded in
    (square-small c.args.self.now c.args.q c.args.square i
    (page_at-some c.args.self.now c.args.q c.args.square page.0 page.1).tile).0

pub has_finer-requires-clause-row : goal.has_finer-requires-clause-row
has_finer-requires-clause-row c =
    let i : IsTable c.args.self.now = subst IsTable c.self.view_is c.self.invariant in
    let page = loaded-page c.args.self.now c.args.q c.args.square c.requires.loaded in
    (square-small c.args.self.now c.args.q c.args.square i
    (page_at-some c.args.self.now c.args.q c.args.square page.0 page.1).tile).1

pub returns-clause-no : goal.returns-clause-no
returns-clause-no c = λ _.
    let page = loaded-page c.args.self.now c.args.q c.args.square c.requires.loaded in
    free-from c.args.self.now c.args.q c.args.square
    (page_at-some c.args.self.now c.args.q c.args.square page.0 page.1).coarse
    (c.has_finer.ensures.no c.if-has_finer.false)
    (λ side other u less at tile above. c.loop-side.invariant side other u (omega (arith, less, c.loop-side-test.false))
    at tile above)
