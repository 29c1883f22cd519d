use Rattle.std.proofs.Common.{arith}
use Rattle.wedgie_tree.proofs.AreaLemmas.{address_laws}
use Rattle.wedgie_tree.proofs.TableLemmas.{IsTable-filled}
use Rattle.wedgie_tree.proofs.table.fill.Goals as goal

pub returns : goal.returns
returns c = IsTable-filled address_laws c.args.grid.now c.base-below_diagonal.result c.base-above_diagonal.result
    c.fill_under.new.table c.fill_under-2.new.table c.base-below_diagonal.ensures.value
    c.base-above_diagonal.ensures.value
    c.base-below_diagonal.ensures.level c.base-above_diagonal.ensures.level c.fill_under.ensures.under
    c.fill_under-2.ensures.others
    c.fill_under-2.ensures.under c.n-n.ensures.valid (omega arith)
