use Rattle.std.proofs.Common.{◌+◌, ◌*◌}
use Rattle.obj_write.proofs.faces.+known.Given as goal

abbrev pub decreases-make_known : goal.decreases-make_known
decreases-make_known l = 2 * l.t + 1

abbrev pub decreases-renew_face : goal.decreases-renew_face
decreases-renew_face l = 2 * l.t
