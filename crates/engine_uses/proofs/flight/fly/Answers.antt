-- A place more: the camera is there, and the sight is that of the mesh which was made there.
use Rattle.std.proofs.Common.{◌≡◌, ◌+◌, ◌<◌, ◌∙◌, List, length, take, sym, ap, subst, arith}
use Rattle.mesh_defs.specs.BoundingBox.{CameraAt}
use Rattle.mesh_defs.specs.State.{State, start_state, with_camera}
use Rattle.engine_uses.specs.declared.step.Sight.{Sight}
use Rattle.frame_loop.specs.Engine.{mesh_seen}
use Rattle.engine_uses.specs.Best.{IsBestSeen, IsBestFrom, AreBestFrom}
use Rattle.engine_uses.proofs.FlightLemmas.{all-zip-take}
use Rattle.engine_uses.proofs.flight.fly.Goals as goal

pub loop-place-preserved : goal.loop-place-preserved
loop-place-preserved c =
    let before = c.loop-place.invariant in
    let path = c.args.path.now in
    let index = c.loop-place.place-index in
    let place = c.place-item.result in
    let start : State = start_state c.args.grid 1 c.args.budget in
    let below : c.loop-place.place-index < length c.args.path.now = omega arith in
    let there : with_camera c.place-item.result c.loop-place.engine.state ≡ with_camera c.place-item.result
    (start_state c.args.grid 1 c.args.budget) = ap (with_camera c.place-item.result) before.state in
    let moved = c.frame_from.ensures.state ∙ there in
    let seen : IsBestFrom c.args.grid c.args.budget c.place-item.result c.frame_from.result = record {
      triangles = mesh_seen c.frame_from.new.engine;
      seen = subst (λ (s : State). IsBestSeen s (mesh_seen c.frame_from.new.engine) c.frame_from.result) there
          c.frame_from.ensures.best;
    } in
    record {
      best = subst (λ (sights : List Sight). AreBestFrom c.args.grid c.args.budget (take (index + 1) path) sights)
          (sym c.in_ok-push.ensures.items)
          (all-zip-take (IsBestFrom c.args.grid c.args.budget) path c.loop-place.sights.items index place
          c.frame_from.result below c.place-item.is before.best seen);
      state = moved ∙ ap (λ (p : CameraAt). with_camera p start) (sym (ap (λ (s : State). s.view.camera) moved));
      odometer = omega (arith, c.frame_from.ensures.odometer, before.odometer);
      frames = omega (arith, c.frame_from.ensures.frames, before.frames);
    }
