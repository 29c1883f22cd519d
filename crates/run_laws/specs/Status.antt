-- The exit status of the program for each way in which a run ends. This project's own.
use Rattle.std.specs.Prelude.{ℕ}
use Rattle.run_laws.specs.declared.status.Status.{Status}
use Rattle.run_laws.specs.declared.status.Status.TheVariants.{Done, NoMemory, Usage, GridRefused, ScriptRefused}
use Rattle.run_laws.specs.declared.status.Status.TheVariants.{ReadFault, WriteFault, Rejected}

-- 0 where all was carried out, 1 to 4 and 7 for what the run itself ends with, 5 for a failed read, 6 for a failed
-- write
abbrev pub exit_status : Status → ℕ
exit_status Done = 0
exit_status NoMemory = 1
exit_status Usage = 2
exit_status GridRefused = 3
exit_status ScriptRefused = 4
exit_status ReadFault = 5
exit_status WriteFault = 6
exit_status Rejected = 7
