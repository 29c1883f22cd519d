use Rattle.std.proofs.Common.{◌≡◌, replicate, None}
use Rattle.page_store.proofs.table.empty_table.Given as goal

abbrev pub invariant-loop : goal.invariant-loop
invariant-loop l = l.pages.items ≡ replicate l.counter None
