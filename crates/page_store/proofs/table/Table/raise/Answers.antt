-- All pages are raised.
use Rattle.std.proofs.Common.{ℤ, w32, subst}
use Rattle.std.proofs.lemmas.Int.{to_z-of_z}
use Rattle.wedgie_tree.specs.Edits.{area_between}
use Rattle.page_store.specs.Store.{Store}
use Rattle.page_store.proofs.RaiseLemmas.{IsAllRaised, all-raised, table-sized}
use Rattle.page_store.proofs.table.Table.raise.Goals as goal

pub pages-requires-clause-sized : goal.pages-requires-clause-sized
pages-requires-clause-sized c = table-sized c.self.view_is c.requires.joined.table

module _ (c : goal.After-pages) where
  abbrev after : Store
  after = record { large = c.self.inside.large; n = c.self.inside.n; pages = c.pages.new.pages.items }

  done : IsAllRaised c.args.self.now after
      (area_between c.args.low.x c.args.low.y c.args.high.x c.args.high.y) c.args.dz c.pages.result
  done = subst (λ (z : ℤ). IsAllRaised c.args.self.now after
      (area_between c.args.low.x c.args.low.y c.args.high.x c.args.high.y) z c.pages.result)
      (to_z-of_z w32 c.args.dz c.ranges.dz)
      (all-raised c.self.view_is c.requires.joined c.pages.ensures.raised)

pub invariant_of-self : goal.invariant_of-self
invariant_of-self c = (done c).valid

pub returns-clause-raised : goal.returns-clause-raised
returns-clause-raised c = (done c).terrain

pub returns-clause-found : goal.returns-clause-found
returns-clause-found c = (done c).is_found

pub returns-clause-none : goal.returns-clause-none
returns-clause-none c = (done c).none

pub returns-clause-joined : goal.returns-clause-joined
returns-clause-joined c = (done c).joined

pub returns-clause-valid : goal.returns-clause-valid
returns-clause-valid c = (done c).valid
