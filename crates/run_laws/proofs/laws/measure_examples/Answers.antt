use Rattle.std.proofs.Common.{refl}
use Rattle.mesh_defs.specs.Triangle.{level_of, corners_of}
use Rattle.mesh_defs.specs.Thickness.{thickness_of}
use Rattle.mesh_defs.specs.BoundingBox.{points_of}
use Rattle.fit_laws.specs.PlaneHeight.{plane_height, deviation_of, thickest_of}
use Rattle.run_laws.specs.Turns.{left_turns, right_turns}
use Rattle.run_laws.proofs.laws.measure_examples.Goals as goal

pub returns-clause-turns : goal.returns-clause-turns
unfolding left_turns right_turns corners_of level_of
returns-clause-turns c = (refl, refl, refl, refl, refl, refl)

pub returns-clause-measured : goal.returns-clause-measured
unfolding deviation_of thickest_of points_of thickness_of plane_height corners_of level_of
returns-clause-measured c = (refl, refl, refl, refl, refl, refl)
