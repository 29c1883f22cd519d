-- Each square has a place, and its page stands there.
use Rattle.std.proofs.Common.{◌∙◌, arith}
use Rattle.page_store.proofs.WalkLemmas.{place-inside, page-read}
use Rattle.page_store.proofs.table.Table.page_in.Goals as goal

pub index-requires : goal.index-requires
index-requires c =
    let less = place-inside c.args.cuts c.args.square c.self.view_is c.self.invariant c.requires.coarse
    c.requires.in_square c.place.ensures.value in
    omega (arith, c.self.inside.pages.ok.0)

pub returns : goal.returns
returns c = record {
  value = c.as_ref.ensures.value
      ∙ page-read c.args.cuts c.args.square c.self.view_is c.self.invariant c.requires.coarse c.requires.in_square
      c.place.ensures.value c.index.ensures;
}
