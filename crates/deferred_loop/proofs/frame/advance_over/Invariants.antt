use Rattle.std.proofs.Common.{◌≡◌}
use Rattle.deferred_loop.specs.Seen.{IsCountedBy}
use Rattle.mesh_laws.proofs.MeasureLemmas.{steps_left}
use Rattle.deferred_loop.specs.Log.{emptied, IsLogged}
use Rattle.deferred_loop.specs.Kept.{IsSettled, IsCharged, IsStamped}
use Rattle.deferred_loop.proofs.frame.advance_over.Given as goal

abbrev pub ghost-begin_frame : goal.ghost-begin_frame
ghost-begin_frame g a = g.w

abbrev pub ghost-choose : goal.ghost-choose
ghost-choose g a = g.w

abbrev pub ghost-split_at : goal.ghost-split_at
ghost-split_at g a = g.w

abbrev pub ghost-merge_at : goal.ghost-merge_at
ghost-merge_at g a = g.w

abbrev pub invariant-steps : goal.invariant-steps
invariant-steps g l = record {
  priorities : g.G.Gauge.priorities l.gauge ≡ g.G.Gauge.priorities l.fn.gauge;
  readings : g.G.Gauge.readings l.gauge ≡ g.G.Gauge.readings l.fn.gauge;
  settled : IsSettled g.w (g.M.QueuedMesh.seen l.mesh);
  counters : IsCountedBy (g.M.QueuedMesh.seen l.fn.mesh).set (g.M.QueuedMesh.seen l.mesh).set l.splits l.merges;
  log : IsLogged (g.M.QueuedMesh.seen l.fn.mesh).set (g.M.QueuedMesh.seen l.mesh).set
      (emptied (g.M.QueuedMesh.log l.fn.mesh)) (g.M.QueuedMesh.log l.mesh);
  charged : IsCharged g.w (g.G.Gauge.count l.fn.gauge) (g.M.QueuedMesh.seen l.mesh) l.splits l.merges
      (g.G.Gauge.count l.gauge);
  stamped : IsStamped (g.G.Gauge.readings l.fn.gauge) l.odometer (g.M.QueuedMesh.seen l.fn.mesh)
      (g.G.Gauge.count l.fn.gauge) (g.M.QueuedMesh.seen l.mesh) (g.G.Gauge.count l.gauge);
}

abbrev pub decreases-steps : goal.decreases-steps
decreases-steps g l = steps_left g.w.n g.w.budget g.w.priority (g.M.QueuedMesh.seen l.mesh).set.members
