-- An engine whose frames are shown, as one that makes the frames of a script. This project's own.
-- Words: EngineHasFollowed, IsUnderEngine, IsEngineReady.
use Rattle.std.specs.Prelude.{◌≡◌, ℕ, ◌*◌, ◌^◌, ◌≤◌, min, true, List, length}
use Rattle.view_priority.specs.Camera.{IsCamera}
use Rattle.frame_loop.specs.Engine.{EngineState}
use Rattle.roam_script.specs.declared.limits.Limits.{Limits}
use Rattle.roam_script.specs.declared.limits.TheConstants.{MOST_FRAMES}
use Rattle.run_laws.specs.Walk.{Walk}
use Rattle.run_words.specs.Words.{Show}
use Rattle.run_laws.specs.Picture.{Picture}
use Rattle.run_words.specs.declared.showing.Showing.{Showing}
use Rattle.run_engine.specs.EngineSeen.{IsUnderLimits, HasFollowed}
use Rattle.run_words.specs.ShowView.{show_seen, IsShowing}
use Rattle.run_engine.specs.ShowView.{is_strip}

-- frames are shown so, and the engine has followed a walk whose frames showed these pictures
pub record EngineHasFollowed (showing : Showing) (engine : EngineState) (show : Show) (walk : Walk)
    (pictures : List Picture) : Type 0 where
  pub same_show : show_seen showing ≡ show
  pub followed : HasFollowed walk pictures engine

-- the limits are of the engine's grid, planes and greatest budget, and of so many frames as were made
pub record IsUnderEngine (engine : EngineState) (limits : Limits) : Type 0 where
  pub under : IsUnderLimits engine limits
  pub made : limits.frames ≡ engine.frames

-- After so many lines: no more frames than may be; the camera in its bounds, and no farther than lines can bring it; a
-- budget in force for which there is room, also for a strip, where frames are shown as strips; and a prefix of an
-- accepted length.
pub record IsEngineReady (showing : Showing) (engine : EngineState) (places : List ℕ) (lines : ℕ) : Type 0 where
  pub shown : IsShowing showing
  pub few_frames : engine.frames ≤ MOST_FRAMES
  pub near : IsCamera engine.state.view.camera
  pub far : engine.odometer ≤ lines * 2 ^ 34
  pub in_force : engine.state.budget ≤ engine.most
  pub room : is_strip showing ≡ true → min engine.most (2 * 4 ^ engine.state.grid.n) ≤ length places
