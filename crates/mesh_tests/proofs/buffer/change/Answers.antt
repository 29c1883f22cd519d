use Rattle.mesh_tests.proofs.BufferLemmas.{one-goes, one-comes, away}
use Rattle.mesh_tests.proofs.buffer.change.Goals as goal

pub patch-requires-clause-gone : goal.patch-requires-clause-gone
patch-requires-clause-gone c =
    one-goes c.args.buffer.now.triangles c.args.gone (c.has-else-has.ensures.0 c.if-not-has.false)

pub patch-requires-clause-come : goal.patch-requires-clause-come
patch-requires-clause-come c = one-comes c.args.buffer.now.triangles c.args.come c.triangles-once.ensures.once
    (away _ _ c.has.ensures c.if-has.false)
