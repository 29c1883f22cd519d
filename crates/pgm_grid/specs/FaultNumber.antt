-- The numbers of the refusals, which are this project's own.
use Rattle.std.specs.Prelude.{ℕ}
use Rattle.pgm_grid.specs.declared.fault.PgmFault.{PgmFault}
use Rattle.pgm_grid.specs.declared.fault.PgmFault.TheVariants.{BadMagic, BadHeader, HeaderTooLong, BadMaxval, NotSquare}
use Rattle.pgm_grid.specs.declared.fault.PgmFault.TheVariants.{BadSide, Truncated, BadSample, AboveMaxval, Trailing}
use Rattle.pgm_grid.specs.declared.fault.PgmFault.TheVariants.{NoMemory, TooLong}

-- the number of a kind of refusal
abbrev pub grid_fault_number : PgmFault → ℕ
grid_fault_number BadMagic = 1
grid_fault_number (BadHeader _) = 2
grid_fault_number HeaderTooLong = 3
grid_fault_number BadMaxval = 4
grid_fault_number NotSquare = 5
grid_fault_number BadSide = 6
grid_fault_number Truncated = 7
grid_fault_number (BadSample _) = 8
grid_fault_number (AboveMaxval _) = 9
grid_fault_number (Trailing _) = 10
grid_fault_number NoMemory = 11
grid_fault_number TooLong = 12
