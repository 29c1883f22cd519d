use Rattle.std.proofs.Common.{◌∙◌, ap, take, drop, arith, ◌+◌, ◌++◌}
use Rattle.mesh_arrays.specs.Indices.{indices_at}
use Rattle.mesh_arrays.proofs.IndexLemmas.{written_more}
use Rattle.mesh_arrays.proofs.indices.write_indices.Goals as goal

pub loop-t-preserved : goal.loop-t-preserved
loop-t-preserved c =
    let before = c.loop-t.out in
    let written = c.write_corners.ensures ∙ ap (λ k.
    take c.loop-t.at before ++ indices_at c.args.n k ++ drop (c.loop-t.at + 3) before) c.corners.ensures.value in
    record {
      place = omega arith;
      so_far = written_more c.args.n c.loop-t.at c.loop-t.t-index c.args.out.now before c.write_corners.new.out
          c.args.triangles.now c.t-item.result
          c.loop-t-test.true c.t-item.is c.loop-t.invariant.so_far c.loop-t.invariant.place written;
    }
