use Rattle.std.proofs.lemmas.List.Elements.{All-replicate}
use Rattle.std.proofs.Common.{◌≡◌}
use Rattle.mesh_defs.specs.Triangle.{corners_of}
use Rattle.obj_write.specs.declared.walk.Step.{Step}
use Rattle.obj_write.proofs.WalkLemmas.{level_of-half}
use Rattle.obj_write.proofs.walk.first_steps.Goals as goal

pub returns-clause-known : goal.returns-clause-known
returns-clause-known c =
    All-replicate (λ (s : Step). s.corners ≡ corners_of c.args.n s.tri) 29 _ c.corners-corners.ensures.value

pub corners-corners-requires-clause-level : goal.corners-corners-requires-clause-level
corners-corners-requires-clause-level c = level_of-half c.args.n c.default-half.result c.default-half.ensures
