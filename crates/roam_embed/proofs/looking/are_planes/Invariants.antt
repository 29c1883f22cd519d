-- Those so far are planes.
use Rattle.std.proofs.Common.{take}
use Rattle.std.specs.List.{All}
use Rattle.cull_marks.specs.Plane.{IsPlane}
use Rattle.roam_embed.specs.Looking.{plane_of}
use Rattle.roam_embed.proofs.looking.are_planes.Given as goal

abbrev pub invariant-loop-p : goal.invariant-loop-p
invariant-loop-p l = All (λ p. IsPlane (plane_of p)) (take l.p-index l.planes)
