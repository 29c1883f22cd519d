use Rattle.std.proofs.Common.{◌^◌}
use Rattle.mesh_defs.specs.Thickness.{height_of}
use Rattle.mesh_measure.specs.Most.{gap_beyond, IsMost, IsInRows}
use Rattle.mesh_measure.proofs.own.excess_until.Given as goal

abbrev pub invariant-loop-y : goal.invariant-loop-y
invariant-loop-y l =
    IsMost (IsInRows l.fn.facet.corners l.fn.bounds l.y)
    (gap_beyond (2 ^ l.fn.grid.n) l.fn.facet.corners (height_of l.fn.grid.n l.fn.grid.heights)
    (height_of l.fn.grid.n l.fn.tolerances)) l.most
