-- Pages that are joined again have the same heights.
use Rattle.std.proofs.Common.{ℤ, w32, subst}
use Rattle.std.proofs.lemmas.Int.{to_z-of_z}
use Rattle.wedgie_tree.specs.Edits.{area_between}
use Rattle.page_store.specs.Store.{Store}
use Rattle.page_store.specs.Edit.{IsRaisedTerrain}
use Rattle.page_store.proofs.RaiseLemmas.{raised-again}
use Rattle.page_store.proofs.store.PageStore.raise.Goals as goal

pub returns-clause-raised : goal.returns-clause-raised
returns-clause-raised c =
    subst (λ (s : Store). IsRaisedTerrain s c.join_area.new.self
    (area_between c.args.x0 c.args.y0 c.args.x1 c.args.y1) c.args.dz) c.self.view_is
    (subst (λ (z : ℤ). IsRaisedTerrain c.self.inside.table c.join_area.new.self
    (area_between c.args.x0 c.args.y0 c.args.x1 c.args.y1) z) (to_z-of_z w32 c.args.dz c.ranges.dz)
    (raised-again c.raise.ensures.raised c.join_area.ensures.grids))
