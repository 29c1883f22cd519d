-- What a flight of the bench may be. Words: IsFlight.
use Rattle.std.specs.Prelude.{ℕ, ◌≤◌}
use Rattle.mesh_defs.specs.declared.level.TheConstants.{GREATEST_FILE_LEVEL}
use Rattle.triangle_pool.specs.declared.pool.TheConstants.{MOST_LEAVES}
use Rattle.roam_bench.specs.declared.flights.Flight.{Flight}

-- a level of a grid, a budget and a step that an engine takes
pub record IsFlight (flight : Flight) : Type 0 where
  pub n_low : 1 ≤ flight.n
  pub n_high : flight.n ≤ GREATEST_FILE_LEVEL
  pub budget_low : 2 ≤ flight.budget
  pub budget_high : flight.budget ≤ MOST_LEAVES
  pub step_high : flight.step ≤ 10000
