use Rattle.std.proofs.Common.{ℕ, arith}
use Rattle.mesh_defs.specs.BoundingBox.{CameraAt, box_of}
use Rattle.bintree_laws.proofs.LevelLemmas.{level-le}
use Rattle.roam_bench.proofs.GaugeLemmas.{between-near, stamps-after}
use Rattle.roam_bench.proofs.gauge.gauge_laws.Goals as goal

pub returns-clause-falls : goal.returns-clause-falls
returns-clause-falls c n heights camera = record {
  finest = λ a address e. c.priority_laws.ensures.finest n heights _ a e;
  child = λ a address big. c.priority_laws.ensures.parent n heights _ a big (level-le n a address);
}

pub returns-clause-hold : goal.returns-clause-hold
returns-clause-hold c n heights camera odometer a _ =
    between-near n heights camera camera odometer a (omega arith) (omega arith)

pub returns-clause-stamps : goal.returns-clause-stamps
returns-clause-stamps c n heights from to odometer later before after =
    let moved = λ (one other : CameraAt) (a : ℕ). c.distance_laws.ensures.moved (box_of n heights 30 a) one other
    (c.distance_laws.ensures.ordered n heights 30 a) in
    stamps-after n heights from to odometer later before after (moved from to) (moved to from)
