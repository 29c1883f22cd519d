use Rattle.std.proofs.Common.{arith}
use Rattle.wedgie_tree.proofs.RowLemmas.{IsReadSoFar-none, IsReadSoFar-next, IsReadSoFar-room}
use Rattle.wedgie_tree.proofs.heights.row_of.Goals as goal

pub loop-x-init : goal.loop-x-init
loop-x-init c = IsReadSoFar-none c.args.grid.now c.args.x0 c.args.y c.new-row.result.items c.new-row.ensures

pub push-requires : goal.push-requires
push-requires c = (
  omega arith,
  IsReadSoFar-room c.args.grid.now c.args.x0 c.args.y c.loop-x.row.items c.loop-x.x
      (c.n-small.ensures.valid).n_high (omega arith) c.loop-x.invariant,
)

pub loop-x-preserved : goal.loop-x-preserved
loop-x-preserved c =
    IsReadSoFar-next c.args.grid.now c.args.x0 c.args.y c.loop-x.row.items c.push.new.self.items
    c.loop-x.x c.height.result
    c.push.ensures.items c.height.ensures.value c.height.ensures.bounded c.loop-x.invariant

pub returns-clause-count : goal.returns-clause-count
returns-clause-count c = omega (arith, c.loop-x.invariant.count)

pub returns-clause-each : goal.returns-clause-each
returns-clause-each c = c.loop-x.invariant.each

pub returns-clause-bounded : goal.returns-clause-bounded
returns-clause-bounded c = c.loop-x.invariant.bounded
