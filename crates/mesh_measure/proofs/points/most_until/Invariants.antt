use Rattle.fit_laws.specs.PlaneHeight.{off_plane}
use Rattle.mesh_measure.specs.Most.{IsMost, IsInRows}
use Rattle.mesh_measure.proofs.points.most_until.Given as goal

abbrev pub invariant-loop-y : goal.invariant-loop-y
invariant-loop-y l = IsMost (IsInRows l.fn.facet.corners l.fn.bounds l.y) (off_plane l.fn.grid.n l.fn.grid.heights l.fn.t)
    l.most
