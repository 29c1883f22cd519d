-- Each text is computed, byte by byte.
use Rattle.std.proofs.Common.{refl}
use Rattle.std.specs.Fmt.{digits}
use Rattle.mesh_defs.specs.Triangle.{level_of, corners_of}
use Rattle.mesh_defs.specs.BoundingBox.{points_of, low_of, high_of, box_of}
use Rattle.mesh_defs.specs.View.{mark_of}
use Rattle.mesh_defs.specs.MeshText.{mesh_text, vertices_of}
use Rattle.laws_tests.proofs.worked_numbers.mesh_texts_have_these_bytes.Goals as goal

pub returns : goal.returns
unfolding mesh_text vertices_of level_of corners_of points_of low_of high_of box_of mark_of digits
returns c = record { flat = refl; middle = refl; spaced = refl; upper_left = refl; corner = refl }
