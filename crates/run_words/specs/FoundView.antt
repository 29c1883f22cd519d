-- What is read of words, in the words of a run, and the bounds of its values.
-- Words: found_seen, IsFound.
use Rattle.std.specs.Prelude.{◌≤◌, ◌^◌, unsigned_abs, option_map}
use Rattle.mesh_defs.specs.declared.level.TheConstants.{GREATEST_FILE_LEVEL}
use Rattle.wedgie_tree.specs.declared.wedges.TheConstants.{GREATEST_SPACING}
use Rattle.run_words.specs.Words.{least_budget, greatest_budget, greatest_error}
use Rattle.run_words.specs.Words as words
use Rattle.run_words.specs.declared.found.Found.{Found}
use Rattle.run_words.specs.ShowView.{IsPrefixLength}
use Rattle.run_words.specs.FitView.{goal_seen, IsGoal}

abbrev pub found_seen : Found → words.Found
found_seen f = record {
  kind = f.kind;
  grid = f.grid.now;
  script = f.script.now;
  prefix = f.prefix.now;
  mesh = f.mesh.now;
  certificate = f.certificate.now;
  points = option_map (λ name. name.now) f.points;
  camera = record { x = f.x; y = f.y; z = f.z };
  level = f.level;
  seed = f.seed;
  budget = f.budget;
  tolerance = f.tolerance;
  thousandths = f.thousandths;
  goal = goal_seen f.goal;
  spacing = f.spacing;
}

-- the prefix has an accepted length, and the numbers lie within their bounds
pub record IsFound (f : Found) : Type 0 where
  pub shown : IsPrefixLength f.prefix.now
  pub x_near : unsigned_abs f.x ≤ 2 ^ 30
  pub y_near : unsigned_abs f.y ≤ 2 ^ 30
  pub z_near : unsigned_abs f.z ≤ 2 ^ 30
  pub level_low : 1 ≤ f.level
  pub level_high : f.level ≤ GREATEST_FILE_LEVEL
  pub budget_low : least_budget ≤ f.budget
  pub budget_high : f.budget ≤ greatest_budget
  pub error_high : f.thousandths ≤ greatest_error
  pub bound : IsGoal f.goal
  pub spacing_low : 1 ≤ f.spacing
  pub spacing_high : f.spacing ≤ GREATEST_SPACING
