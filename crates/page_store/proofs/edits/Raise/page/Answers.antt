-- The heights of its part are raised.
use Rattle.std.proofs.Common.{inr}
use Rattle.std.proofs.lemmas.Int.{to_z-of_z}
use Rattle.page_store.proofs.EditLemmas.{raised-page, small-change}
use Rattle.page_store.proofs.edits.Raise.page.Goals as goal

pub returns-clause-raised : goal.returns-clause-raised
returns-clause-raised c =
    let small = small-change c.args.self.dz c.requires.at_least c.requires.at_most in
    let field = simp (to_z-of_z, small) at c.raise.ensures.field in
    raised-page c.args.self.n c.args.q c.args.square _ _ c.args.self.dz c.args.page.now c.raise.new.self
    c.requires.side c.grid-before.ensures.valid c.grid-after.ensures.valid c.in-Some.ensures.some field
    c.raise.ensures.turned (inr c.raise.ensures.alone)
