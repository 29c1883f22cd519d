-- A triangle of the list that is off by so much.
use Rattle.std.proofs.Common.{◌<◌, length, sym, arith}
use Rattle.mesh_defs.proofs.ListLemmas.{IsIn-contains}
use Rattle.mesh_defs.proofs.WorstLemmas.{le-worst}
use Rattle.fit_laws.specs.Error.{error_of}
use Rattle.fit_mesh.proofs.error.is_reached.Goals as goal

pub returns-then-off_middle-from : goal.returns-then-off_middle-from
returns-then-off_middle-from c is =
    let below : c.loop-leaf.leaf-index < length c.args.leaves.now = omega arith in
    let le = le-worst (error_of c.args.grid.now.n c.args.grid.now.heights) c.leaf-item.result c.args.leaves.now
    (IsIn-contains c.leaf-item.result c.args.leaves.now (c.loop-leaf.leaf-index, below, sym c.leaf-item.is)) in
    let middle = c.off_middle.ensures in
    omega arith
