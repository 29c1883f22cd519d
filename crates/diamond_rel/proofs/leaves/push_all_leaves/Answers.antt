-- The leaves below 2, and then those below 3.
use Rattle.std.proofs.Common.{arith}
use Rattle.mesh_defs.specs.ClosedSet.{among}
use Rattle.bintree_laws.proofs.LevelLemmas.{level_of-root}
use Rattle.mesh_laws.proofs.DescentLemmas.{append-leaves_of}
use Rattle.diamond_rel.proofs.leaves.push_all_leaves.Goals as goal

pub push_leaves-requires-clause-deep : goal.push_leaves-requires-clause-deep
push_leaves-requires-clause-deep c =
    let level = level_of-root 2 (omega arith) (omega arith) in
    let n_high = c.requires.in_grid in
    omega arith

pub push_leaves-requires-2-clause-deep : goal.push_leaves-requires-2-clause-deep
push_leaves-requires-2-clause-deep c =
    let level = level_of-root 3 (omega arith) (omega arith) in
    let n_high = c.requires.in_grid in
    omega arith

pub returns : goal.returns
returns c =
    append-leaves_of c.args.n (among c.args.members.now) c.args.out.now.items c.push_leaves.new.out.items
    c.push_leaves-2.new.out.items
    c.in_ok-push_leaves.ensures c.in_ok-push_leaves-2.ensures
