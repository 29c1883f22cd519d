use Rattle.std.proofs.Common.{◌≡◌, ◌*◌, ◌^◌, ◌≤◌, take}
use Rattle.mesh_defs.specs.State.{start_state, with_camera}
use Rattle.engine_uses.specs.Best.{AreBestFrom}
use Rattle.engine_uses.proofs.flight.fly.Given as goal

-- so many frames were made, each sight is that of a best mesh, and the state differs from that of the beginning by the
-- camera alone
abbrev pub invariant-loop-place : goal.invariant-loop-place
invariant-loop-place l = record {
  best : AreBestFrom l.fn.grid l.budget (take l.place-index l.path) l.sights.items;
  state : l.engine.state ≡ with_camera l.engine.state.view.camera (start_state l.fn.grid 1 l.budget);
  odometer : l.engine.odometer ≤ l.place-index * 2 ^ 33;
  frames : l.engine.frames ≡ l.place-index;
}
