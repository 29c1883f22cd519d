-- An engine in the words of a run: what is seen of it at the end, what a line does to it, and how it follows a walk.
-- All of it is this project's own.
-- Words: engine_seen, IsUnderLimits, IsApplied, HasFollowed.
use Rattle.std.specs.Prelude.{◌≡◌, ◌+◌, ◌^◌, ◌≤◌, List, [], length, sum_by}
use Rattle.view_priority.specs.Camera.{IsCamera}
use Rattle.roam_mesh.specs.Mesh.{pool_members}
use Rattle.frame_loop.specs.Engine.{EngineState}
use Rattle.roam_script.specs.declared.limits.Limits.{Limits}
use Rattle.roam_script.specs.declared.line.Line.{Line}
use Rattle.run_laws.specs.Walk.{Walk, state_after, way_of}
use Rattle.run_laws.specs.Picture.{Picture, last_members}
use Rattle.run_laws.specs.Outcome.{EngineEnd}

-- what an outcome tells of an engine
abbrev pub engine_seen : EngineState → EngineEnd
engine_seen engine = record {
  state = engine.state;
  odometer = engine.odometer;
  frames = engine.frames;
  members = pool_members engine.mesh.pool;
  splits = engine.mesh.pool.splits;
  merges = engine.mesh.pool.merges;
}

-- the limits are of the engine's grid, of so many planes, and of its greatest budget
pub record IsUnderLimits (engine : EngineState) (limits : Limits) : Type 0 where
  pub level : limits.n ≡ engine.state.grid.n
  pub heights : limits.maxval ≡ engine.state.grid.maxval
  pub in_force : limits.planes ≡ length engine.state.view.planes
  pub greatest : limits.budget ≡ engine.most

-- A line that makes no frame was carried out: the state is the next one, the camera went the line's way, which is
-- short, and mesh, counts and greatest budget are as before.
pub record IsApplied (old new : EngineState) (line : Line) : Type 0 where
  pub next : new.state ≡ state_after line old.state
  pub greatest : new.most ≡ old.most
  pub gone : new.odometer ≡ old.odometer + way_of line old.state
  pub short : way_of line old.state ≤ 2 ^ 34
  pub made : new.frames ≡ old.frames
  pub pool : new.mesh.pool ≡ old.mesh.pool
  pub near : IsCamera new.state.view.camera

-- The engine has followed a walk whose frames showed these pictures.
pub record HasFollowed (walk : Walk) (pictures : List Picture) (engine : EngineState) : Type 0 where
  pub at_state : engine.state ≡ walk.state
  pub greatest : engine.most ≡ walk.most
  pub gone : engine.odometer ≡ walk.odometer
  pub made : engine.frames ≡ length walk.frames
  pub set : pool_members engine.mesh.pool ≡ last_members [] pictures
  pub all_splits : engine.mesh.pool.splits ≡ sum_by (λ (p : Picture). p.splits) pictures
  pub all_merges : engine.mesh.pool.merges ≡ sum_by (λ (p : Picture). p.merges) pictures
