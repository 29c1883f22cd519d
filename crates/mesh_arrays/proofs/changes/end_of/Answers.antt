use Rattle.std.proofs.Common.{◌∙◌, ap}
use Rattle.mesh_defs.specs.Triangle.{level_of}
use Rattle.mesh_arrays.proofs.OrderLemmas.{end_of-read}
use Rattle.mesh_arrays.proofs.changes.end_of.Goals as goal

pub returns-in-Some : goal.returns-in-Some
returns-in-Some c = end_of-read c.args.a c.level.result (c.level.ensures.value ∙ ap level_of c.in-Some.ensures.value)
