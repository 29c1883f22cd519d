use Rattle.std.proofs.Common.{◌*◌, ◌-◌, ◌^◌}
use Rattle.mesh_defs.specs.Triangle.{level_of}
use Rattle.address_flags.specs.Weighted.{IsWeighted}
use Rattle.address_flags.proofs.centre.centred_at.Given as goal

abbrev pub invariant-loop-place : goal.invariant-loop-place
invariant-loop-place l = IsWeighted l.n (2 ^ l.n) l.fn.point l.place

abbrev pub decreases-loop-place : goal.decreases-loop-place
decreases-loop-place l = 2 * l.n - level_of l.place.triangle
