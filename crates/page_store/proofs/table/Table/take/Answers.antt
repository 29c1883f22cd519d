-- Each square has a place.
use Rattle.std.proofs.Common.{◌∙◌, arith}
use Rattle.page_store.proofs.WalkLemmas.{place-inside, page-read}
use Rattle.page_store.proofs.table.Table.take.Goals as goal

pub index_mut-requires : goal.index_mut-requires
index_mut-requires c =
    let less = place-inside c.args.cuts c.args.square c.self.view_is c.self.invariant c.requires.coarse
    c.requires.in_square c.place.ensures.value in
    omega (arith, c.self.inside.pages.ok.0)

pub returns-clause-taken : goal.returns-clause-taken
returns-clause-taken c =
    c.take.ensures.value
    ∙ page-read c.args.cuts c.args.square c.self.view_is c.self.invariant c.requires.coarse c.requires.in_square
    c.place.ensures.value c.index_mut.ensures.value
