use Rattle.std.proofs.Common.{◌-◌}
use Rattle.page_store.specs.Store.{top_of}
use Rattle.page_store.specs.Walk.{IsFound}
use Rattle.page_store.proofs.table.Table.finest.Given as goal

abbrev pub invariant-loop-finer : goal.invariant-loop-finer
invariant-loop-finer l = IsFound l.self l.tri l.found.cuts l.found.part.quarter l.found.part.square l.found.page.now

abbrev pub decreases-loop-finer : goal.decreases-loop-finer
decreases-loop-finer l = top_of l.self - l.found.cuts
