use Rattle.cull_marks.specs.Cuboid.{as_box}
use Rattle.view_priority.proofs.RootLemmas.{IsRoot-squared_distance, distance_of-root, root-small}
use Rattle.view_priority.proofs.gap.distance.Goals as goal

pub returns-clause-value : goal.returns-clause-value
returns-clause-value c =
    distance_of-root (as_box c.args.c.now) c.args.camera.now c.squared_gaps.result c.square_root.result
    c.squared_gaps.ensures.value c.square_root.ensures.square_within c.square_root.ensures.next_square_above
    (c.roots.ensures _)

pub returns-clause-root : goal.returns-clause-root
returns-clause-root c =
    IsRoot-squared_distance (as_box c.args.c.now) c.args.camera.now c.squared_gaps.result c.square_root.result
    c.squared_gaps.ensures.value c.square_root.ensures.square_within c.square_root.ensures.next_square_above

pub returns-clause-bounded : goal.returns-clause-bounded
returns-clause-bounded c =
    root-small c.squared_gaps.result c.square_root.result c.square_root.ensures.square_within
    c.squared_gaps.ensures.bounded
