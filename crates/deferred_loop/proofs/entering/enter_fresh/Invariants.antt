use Rattle.std.proofs.Common.{◌≡◌, length}
use Rattle.deferred_loop.proofs.EnterLemmas.{IsEntering}
use Rattle.deferred_loop.proofs.entering.enter_fresh.Given as goal

abbrev pub invariant-entering : goal.invariant-entering
invariant-entering g l = record {
  priorities : g.G.Gauge.priorities l.gauge ≡ g.G.Gauge.priorities l.fn.gauge;
  readings : g.G.Gauge.readings l.gauge ≡ g.G.Gauge.readings l.fn.gauge;
  log : g.M.QueuedMesh.log l.mesh ≡ g.M.QueuedMesh.log l.fn.mesh;
  entering : IsEntering g.w (g.G.Gauge.readings l.fn.gauge) l.odometer (g.M.QueuedMesh.seen l.fn.mesh)
      (g.M.QueuedMesh.seen l.mesh) (g.G.Gauge.count l.fn.gauge) (g.G.Gauge.count l.gauge);
}

abbrev pub decreases-entering : goal.decreases-entering
decreases-entering g l = length (g.M.QueuedMesh.seen l.mesh).fresh
