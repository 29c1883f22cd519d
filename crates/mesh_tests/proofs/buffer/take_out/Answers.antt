use Rattle.mesh_tests.proofs.BufferLemmas.{one-goes, none-comes}
use Rattle.mesh_tests.proofs.buffer.take_out.Goals as goal

pub patch-requires-clause-gone : goal.patch-requires-clause-gone
patch-requires-clause-gone c = one-goes c.args.buffer.now.triangles c.args.gone (c.has.ensures.0 c.if-not-has.false)

pub patch-requires-clause-come : goal.patch-requires-clause-come
patch-requires-clause-come c = none-comes c.args.buffer.now.triangles c.triangles-once.ensures.once
