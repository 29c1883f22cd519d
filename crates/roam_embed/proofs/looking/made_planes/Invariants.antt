-- Those so far are in force.
use Rattle.std.proofs.Common.{◌≡◌, take}
use Rattle.roam_embed.specs.Looking.{planes_of}
use Rattle.roam_embed.proofs.looking.made_planes.Given as goal

abbrev pub invariant-loop-p : goal.invariant-loop-p
invariant-loop-p l = l.all ≡ planes_of (take l.p-index l.planes)
