-- The sums of the code in the words of pictures, and how far the engine of a generated run has gone.
-- Words: made_start, IsSumOf, AreSumsSmall, HasGone, SumsUp.
use Rattle.std.specs.Prelude.{◌≡◌, ℕ, ◌*◌, ◌^◌, ◌≤◌, List, [], length, drop}
use Rattle.mesh_defs.specs.State.{start_state}
use Rattle.view_priority.specs.Camera.{IsCamera}
use Rattle.roam_gen.specs.Generated.{made_grid, made_lines}
use Rattle.frame_loop.specs.Engine.{EngineState}
use Rattle.run_laws.specs.Walk.{Walk, start_walk, walk_along}
use Rattle.run_words.specs.Words.{as_sums}
use Rattle.run_laws.specs.Picture.{Picture, ArePictures}
use Rattle.run_laws.specs.ReportText.{all_triangles, worst_in, count_blocked}
use Rattle.run_laws.specs.Outcome.{made_budget, made_spacing, made_walk}
use Rattle.run_engine.specs.declared.generated.Sums.{Sums}
use Rattle.run_engine.specs.EngineSeen.{HasFollowed}

-- before the first line of the generated script, over the generated grid
abbrev pub made_start : ℕ → ℕ → Walk
made_start n seed = start_walk made_budget (start_state (made_grid n seed) made_spacing made_budget)

-- the sums are those of the pictures
pub record IsSumOf (pictures : List Picture) (sums : Sums) : Type 0 where
  pub frames : sums.frames ≡ length pictures
  pub triangles : sums.triangles ≡ all_triangles pictures
  pub worst : sums.worst ≡ worst_in pictures
  pub blocked : sums.blocked ≡ count_blocked pictures

-- no more frames than lines were carried out, none of more triangles than a number of 32 bits counts; and the camera
-- went at most 2 ^ 34 with each line
pub record AreSumsSmall (k : ℕ) (engine : EngineState) (sums : Sums) : Type 0 where
  pub frames : sums.frames ≤ k
  pub triangles : sums.triangles ≤ k * 2 ^ 33
  pub blocked : sums.blocked ≤ k
  pub made : engine.frames ≤ k
  pub gone : engine.odometer ≤ k * 2 ^ 34

-- The engine has followed the first k lines of the generated script, whose frames lead to these sums, and the other
-- lines lead to the end of the walk.
pub record HasGone (n seed k : ℕ) (engine : EngineState) (sums : Sums) : Type 0 where
  pub walk : Walk
  pub pictures : List Picture
  pub followed : HasFollowed walk pictures engine
  pub leads : walk_along walk (drop k (made_lines n seed)) ≡ made_walk n seed
  pub shown : ArePictures (as_sums n seed) [] walk.frames pictures
  pub summed : IsSumOf pictures sums
  pub few : AreSumsSmall k engine sums
  pub level : engine.state.grid.n ≡ n
  pub heights : engine.state.grid.maxval ≡ 65535
  pub camera : IsCamera engine.state.view.camera

-- the sums are those of the pictures of the generated run, and the engine has followed it
pub record SumsUp (n seed : ℕ) (sums : Sums) (engine : EngineState) : Type 0 where
  pub pictures : List Picture
  pub shown : ArePictures (as_sums n seed) [] (made_walk n seed).frames pictures
  pub summed : IsSumOf pictures sums
  pub followed : HasFollowed (made_walk n seed) pictures engine
