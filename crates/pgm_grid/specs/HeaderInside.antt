-- The fields of a reader: what they have come to, and what holds of them.
use Rattle.std.specs.Prelude.{◌≤◌}
use Rattle.pgm_grid.specs.declared.header_reader.TheConstants.{LAST_PLACE}
use Rattle.pgm_grid.specs.declared.header_reader.HeaderReader.TheInside.{Inside}
use Rattle.pgm_grid.specs.HeaderMachine.{IsState}
use Rattle.pgm_grid.specs.HeaderReading.{HeaderProgress}

-- what the fields have come to
abbrev pub header_progress_of : Inside → HeaderProgress
header_progress_of r = record { state = r.state; place = r.place }

-- the numbers are in their ranges, and the place is one that a header may have
pub record IsReader (r : Inside) : Type 0 where
  pub valid : IsState r.state
  pub within : r.place ≤ LAST_PLACE
