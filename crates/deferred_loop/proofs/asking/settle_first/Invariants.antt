use Rattle.std.proofs.Common.{◌≡◌}
use Rattle.deferred_loop.specs.Kept.{IsAskedOnly}
use Rattle.deferred_loop.proofs.TellLemmas.{unasked}
use Rattle.deferred_loop.proofs.asking.settle_first.Given as goal

abbrev pub invariant-asking : goal.invariant-asking
invariant-asking g l = record {
  priorities : g.G.Gauge.priorities l.gauge ≡ g.G.Gauge.priorities l.fn.gauge;
  readings : g.G.Gauge.readings l.gauge ≡ g.G.Gauge.readings l.fn.gauge;
  log : g.M.QueuedMesh.log l.mesh ≡ g.M.QueuedMesh.log l.fn.mesh;
  asked : IsAskedOnly g.w (g.M.QueuedMesh.seen l.fn.mesh) (g.M.QueuedMesh.seen l.mesh) (g.G.Gauge.count l.fn.gauge)
      (g.G.Gauge.count l.gauge);
}

abbrev pub decreases-asking : goal.decreases-asking
decreases-asking g l = unasked (g.M.QueuedMesh.seen l.mesh)
