-- What is known of a run of the program, whatever files it was over. This project's own.
-- Words: HasRun.
use Rattle.std.specs.Prelude.{◌≡◌, ◌↔◌, ◌<◌, ◌⊎◌, ℕ, List, Option, None}
use Rattle.run_words.specs.Words.{command_of}
use Rattle.run_laws.specs.declared.status.Status.{Status}
use Rattle.run_laws.specs.declared.status.Status.TheVariants.{Usage, ReadFault, WriteFault}
use Rattle.run_laws.specs.Outcome.{EngineEnd}
use Rattle.run_laws.specs.Moment.{Moment}
use Rattle.run_laws.specs.Statement.{EndsByStatus}

-- Between two moments of its outside these words were carried out, and the run ended with this status: what stands is
-- what `roam` promises of it, and so are its causes.
pub record HasRun (words : List (List ℕ)) (status : Status) : Type 0 where
  pub before : Moment
  pub now : Moment
  pub left : Option EngineEnd
  pub ends : EndsByStatus before now (command_of words) status left
  pub usage : (status ≡ Usage) ↔ (command_of words ≡ None)
  pub read : (status ≡ ReadFault) ↔ (before.shelf_faults < now.shelf_faults)
  pub write : (status ≡ WriteFault)
      ↔ ((before.sinks.mesh_faults < now.sinks.mesh_faults) ⊎ (before.sinks.report_faults < now.sinks.report_faults))
