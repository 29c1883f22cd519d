-- The corners so far are those of the ancestor that the bits from `below` on name.
use Rattle.std.proofs.Common.{◌≡◌, ◌-◌, ◌/◌, ◌^◌}
use Rattle.mesh_defs.specs.Triangle.{corners_at}
use Rattle.bintree_addr.proofs.tri.Tri.corners.Given as goal

abbrev pub invariant-loop-below : goal.invariant-loop-below
invariant-loop-below l = l.corners ≡ corners_at (l.level - l.below) (2 ^ l.n) (l.self-inside.number / 2 ^ l.below)
