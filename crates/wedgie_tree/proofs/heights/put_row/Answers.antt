use Rattle.std.proofs.Common.{ap, arith}
use Rattle.mesh_defs.specs.HeightField.{HeightField}
use Rattle.wedgie_tree.proofs.RowLemmas.{IsPutSoFar-none, IsPutSoFar-next, IsPutSoFar-all}
use Rattle.wedgie_tree.proofs.heights.put_row.Goals as goal

pub loop-k-init : goal.loop-k-init
loop-k-init c = IsPutSoFar-none c.args.grid.now c.args.x c.args.y c.args.row.now c.n-small.ensures.valid

pub put-requires-clause-in_columns : goal.put-requires-clause-in_columns
put-requires-clause-in_columns c = rw c.loop-k.invariant.n (omega arith)

pub put-requires-clause-in_rows : goal.put-requires-clause-in_rows
put-requires-clause-in_rows c = rw c.loop-k.invariant.n c.requires.in_rows

pub put-requires-clause-bounded : goal.put-requires-clause-bounded
put-requires-clause-bounded c = rw c.loop-k.invariant.maxval (c.requires.bounded c.loop-k.k 0 c.loop-k-test.true)

pub loop-k-preserved : goal.loop-k-preserved
loop-k-preserved c =
    IsPutSoFar-next c.args.grid.now c.args.x c.args.y c.args.row.now c.loop-k.k c.loop-k.grid c.put.new.self
    c.loop-k-test.true c.requires.in_columns c.requires.in_rows c.loop-k.invariant
    (ap (λ (g : HeightField). g.n) c.put.ensures.value)
    (ap (λ (g : HeightField). g.maxval) c.put.ensures.value) c.put.ensures.valid
    c.put.ensures.there c.put.ensures.others

pub returns-clause-value : goal.returns-clause-value
returns-clause-value c =
    IsPutSoFar-all c.args.grid.now c.args.x c.args.y c.args.row.now c.loop-k.k c.loop-k.grid (omega arith)
    c.requires.in_columns c.n-small.ensures.valid c.loop-k.invariant

pub returns-clause-there : goal.returns-clause-there
returns-clause-there c = λ k lt. c.loop-k.invariant.there k (omega arith)

pub returns-clause-others : goal.returns-clause-others
returns-clause-others c =
    λ i j i_in j_in out. c.loop-k.invariant.others i j i_in j_in (λ f from to. out f from (omega arith))

pub returns-clause-valid : goal.returns-clause-valid
returns-clause-valid c = c.loop-k.invariant.valid
