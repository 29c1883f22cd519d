-- The test of each triangle computes.
use Rattle.std.proofs.Common.{pos, [], refl}
use Rattle.mesh_defs.specs.Triangle.{level_of, corners_of}
use Rattle.mesh_defs.specs.Thickness.{thickness_of}
use Rattle.mesh_defs.specs.BoundingBox.{CameraAt, points_of, low_of, high_of, box_of, root_of, distance_of}
use Rattle.mesh_defs.specs.View.{mark_of}
use Rattle.mesh_defs.specs.Priority.{priority_of}
use Rattle.mesh_laws.specs.Table.{told_by}
use Rattle.laws_tests.specs.declared.worked_frames.TheConstants.{FROM_UPPER_RIGHT, TWO_PEAKS, SPLITTABLE}
use Rattle.laws_tests.proofs.FrameExampleLemmas.{same_at_each}
use Rattle.laws_tests.proofs.worked_frames.the_priorities_are_those_of_two_peaks.Goals as goal

camera : CameraAt
camera = record { x = pos 4; y = pos 4; z = pos 0 }

pub returns : goal.returns
unfolding camera level_of corners_of thickness_of points_of low_of high_of box_of root_of
    distance_of mark_of priority_of
returns c =
    same_at_each (told_by FROM_UPPER_RIGHT)
    (priority_of 2 TWO_PEAKS record { camera = camera; spacing = 1; planes = []; threshold = 0 }) SPLITTABLE refl
