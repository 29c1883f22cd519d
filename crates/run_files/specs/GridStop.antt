-- Why there is no grid. This project's own words.
use Rattle.pgm_grid.specs.declared.fault.PgmFault.{PgmFault}
use Rattle.pgm_grid.specs.declared.fault.PgmFault.TheVariants.{NoMemory}
use Rattle.run_files.specs.declared.grid_file.GridStop.{GridStop}
use Rattle.run_files.specs.declared.grid_file.GridStop.TheVariants as stop

-- out of memory is an answer of its own, and every other refusal is one of the bytes
abbrev pub stop_for : PgmFault → GridStop
stop_for NoMemory = stop.NoMemory
stop_for fault = stop.Refused fault
