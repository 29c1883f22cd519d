-- The children of one member more.
use Rattle.std.proofs.Common.{arith}
use Rattle.mesh_laws.specs.Sweep.{is_flagged}
use Rattle.fit_laws.specs.Error.{error_of}
use Rattle.fit_mesh.proofs.PendingLemmas.{pending-step, listed-member}
use Rattle.fit_mesh.proofs.grow.push_children.Goals as goal

pub push_pair-requires-clause-splittable : goal.push_pair-requires-clause-splittable
push_pair-requires-clause-splittable c =
    c.requires.grown.closed.splittable c.index-log-place.result
    (listed-member c.args.flags.now c.args.log.now c.loop-place.place c.index-log-place.result c.requires.grown.logged
    c.loop-place-test.true c.index-log-place.is)

pub loop-place-preserved : goal.loop-place-preserved
loop-place-preserved c =
    let i = c.loop-place.invariant in
    let more = c.push_pair.ensures.capacity in
    let two = c.push_pair.ensures.len in
    let below = c.loop-place-test.true in
    record {
      capacity = (let k = i.capacity in omega arith);
      len = (let k = i.len in omega arith);
      pending = pending-step c.args.grid.now.n (error_of c.args.grid.now.n c.args.grid.now.heights)
          (is_flagged c.args.flags.now) c.args.log.now c.loop-place.place
          c.index-log-place.result _ _ c.loop-place-test.true c.index-log-place.is
          (listed-member c.args.flags.now c.args.log.now c.loop-place.place c.index-log-place.result
          c.requires.grown.logged c.loop-place-test.true c.index-log-place.is)
          c.requires.grown.closed c.push_pair.ensures.ordered c.push_pair.ensures.kept c.push_pair.ensures.added c.push_pair.ensures.only
          i.pending;
    }
