use Rattle.std.proofs.Common.{refl}
use Rattle.mesh_defs.specs.State.{scene_of, with_threshold, priority_in}
use Rattle.mesh_defs.specs.ClosedSet.{leaves_of}
use Rattle.frame_loop.proofs.ThresholdLemmas.{IsLeastClosed-above}
use Rattle.frame_loop.proofs.laws.threshold_laws.Goals as goal

pub returns : goal.returns
returns c = record {
  least = λ s has blocked frame.
      let closure = c.least_laws.ensures.frame s.grid.n s.budget (priority_in s) has blocked frame
      (c.scene_laws.ensures.falls (scene_of s)) in
      c.least_laws.ensures.mesh s.grid.n s.view.threshold (priority_in (with_threshold 0 s)) (leaves_of s.grid.n has)
      (c.scene_laws.ensures.falls (scene_of (with_threshold 0 s)))
      (record { has = has; closure = IsLeastClosed-above s has closure; leaves = refl });
}
