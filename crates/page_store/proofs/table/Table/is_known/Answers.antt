-- By the finest page.
use Rattle.std.proofs.Common.{◌+◌, ◌*◌, ap, sym, ◌∙◌, arith, subst, nat_lt}
use Rattle.mesh_defs.specs.Triangle.{level_of}
use Rattle.page_store.specs.Store.{Store, IsTable}
use Rattle.page_store.proofs.FoundLemmas.{found-known}
use Rattle.page_store.proofs.table.Table.is_known.Goals as goal

pub returns : goal.returns
returns c = record {
  value = ap (λ l. nat_lt l (2 * (c.finest.result.cuts + c.self.inside.n))) c.level.ensures.value
      ∙ ap (λ (s : Store). nat_lt (level_of c.args.tri) (2 * (c.finest.result.cuts + s.n))) c.self.view_is
      ∙ sym (found-known (subst IsTable c.self.view_is c.self.invariant) c.finest.ensures.found
      (omega (arith, c.number-address.ensures.value, c.number-address.ensures.low)) c.finest.ensures.finest);
}
