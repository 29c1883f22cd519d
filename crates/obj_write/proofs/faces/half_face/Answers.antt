use Rattle.std.proofs.Common.{arith}
use Rattle.obj_write.proofs.FaceLemmas.{level_of-small}
use Rattle.obj_write.proofs.faces.half_face.Goals as goal

pub corners-corners-requires-clause-level : goal.corners-corners-requires-clause-level
corners-corners-requires-clause-level c = let root = level_of-small c.args.half c.requires.half in omega arith

pub corner_between-requires-clause-splittable : goal.corner_between-requires-clause-splittable
corner_between-requires-clause-splittable c =
    let root = level_of-small c.args.half c.requires.half in
    let some = c.requires.in_grid.0 in
    omega arith
