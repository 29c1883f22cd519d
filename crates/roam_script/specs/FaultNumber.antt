-- The numbers of the refusals, which are this project's own.
use Rattle.std.specs.Prelude.{ℕ}
use Rattle.roam_script.specs.declared.script_fault.ScriptFault.{ScriptFault}
use Rattle.roam_script.specs.declared.script_fault.ScriptFault.TheVariants.{LineTooLong, UnknownCommand, WrongFields}
use Rattle.roam_script.specs.declared.script_fault.ScriptFault.TheVariants.{BadNumber, OutOfRange, TooManyLines}
use Rattle.roam_script.specs.declared.script_fault.ScriptFault.TheVariants.{TooManyFrames, TooManyPlanes}

-- the number of a kind of refusal
abbrev pub script_fault_number : ScriptFault → ℕ
script_fault_number LineTooLong = 1
script_fault_number UnknownCommand = 2
script_fault_number WrongFields = 3
script_fault_number (BadNumber _) = 4
script_fault_number (OutOfRange _) = 5
script_fault_number TooManyLines = 6
script_fault_number TooManyFrames = 7
script_fault_number TooManyPlanes = 8
