-- What follows from what a run promises: the same by other cases, which some callers want.
-- Words: OutcomeFollows, EngineFollows, RunFaultFollows, TextFaultFollows, CompleteFollows, FaultsFollow.
use Rattle.std.specs.Prelude.{◌≡◌, ◌⊎◌, ℕ, List, [], ◌∷◌, Option, Some, IsTrue}
use Rattle.mesh_defs.specs.HeightField.{HeightField}
use Rattle.roam_edge.specs.Shelf.{NamedFile, bytes_of}
use Rattle.run_laws.specs.declared.status.Status.{Status}
use Rattle.run_laws.specs.declared.status.Status.TheVariants.{Done, NoMemory, WriteFault}
use Rattle.run_words.specs.Words.{Scripted, Frames, Command, command_of}
use Rattle.run_laws.specs.Act.{ReportText}
use Rattle.run_laws.specs.Cause.{StatusHasCause}
use Rattle.run_laws.specs.Outcome.{EngineEnd, Outcome, IsOutcome}
use Rattle.run_words.specs.Jobs.{MakesNoCertificate}
use Rattle.run_laws.specs.Promise.{AreFiles, EndsRight, IsAccepted, is_complete}
use Rattle.run_laws.specs.Headline.{IsRunOf}
use Rattle.run_laws.specs.CutShort.{is_by_frame, StandsInText, LeavesAtWriteFault}
use Rattle.run_laws.specs.Moment.{Moment}
use Rattle.run_laws.specs.Statement.{EndsByStatus, IsCaused}

-- unless memory ran out or a read failed, the run ends as an outcome of its words and files
abbrev pub OutcomeFollows : Type 0
OutcomeFollows =
    (before now : Moment) (words : List (List ℕ)) (status : Status) (left : Option EngineEnd)
    (files : List NamedFile)
    → EndsByStatus before now (command_of words) status left → AreFiles before.shelf.files (command_of words) files
    → EndsRight before.sinks now.sinks before.shelf now.shelf words files status

-- each outcome of the words and files tells what the engine is that is left
abbrev pub EngineFollows : Type 0
EngineFollows =
    (before now : Moment) (words : List (List ℕ)) (status : Status) (left : Option EngineEnd)
    (files : List NamedFile)
    → EndsByStatus before now (command_of words) status left → AreFiles before.shelf.files (command_of words) files
    → (end : Outcome) → IsOutcome (command_of words) files end → IsTrue (is_complete status) → left ≡ end.engine

-- where a write failed in a run that shows its frames one by one, one of four cases stands
abbrev pub RunFaultFollows : Type 0
RunFaultFollows =
    (before now : Moment) (words : List (List ℕ)) (status : Status) (left : Option EngineEnd)
    (files : List NamedFile)
    (s : Scripted) (grid : HeightField) → EndsByStatus before now (command_of words) status left
    → before.shelf.files ≡ Some files → status ≡ WriteFault
    → IsRunOf words files (Frames s) grid → IsTrue (is_by_frame s.show)
    → LeavesAtWriteFault before.sinks now.sinks s grid (bytes_of files s.script)

-- where a write failed and all that was owed is one text, a prefix of it stands
abbrev pub TextFaultFollows : Type 0
TextFaultFollows =
    (before now : Moment) (words : List (List ℕ)) (status : Status) (left : Option EngineEnd)
    (files : List NamedFile)
    → EndsByStatus before now (command_of words) status left → AreFiles before.shelf.files (command_of words) files
    → status ≡ WriteFault → MakesNoCertificate (command_of words) → (end : Outcome) (text : List ℕ)
    → IsOutcome (command_of words) files end → end.acts ≡ ReportText text ∷ []
    → StandsInText before.sinks now.sinks [] text

-- words and files that are accepted, and no count that rose: Done, or memory ran out
abbrev pub CompleteFollows : Type 0
CompleteFollows =
    (before now : Moment) (words : List (List ℕ)) (status : Status) (left : Option EngineEnd)
    (files : List NamedFile)
    → EndsByStatus before now (command_of words) status left → IsCaused before now (command_of words) status
    → AreFiles before.shelf.files (command_of words) files → IsAccepted (command_of words) files
    → now.shelf_faults ≡ before.shelf_faults → now.sinks.mesh_faults ≡ before.sinks.mesh_faults
    → now.sinks.report_faults ≡ before.sinks.report_faults → (status ≡ Done) ⊎ (status ≡ NoMemory)

-- a count of faults rose only where the status names it, and then by one at least, unless it stands at its greatest
-- value
abbrev pub FaultsFollow : Type 0
FaultsFollow = (before now : Moment) (command : Option Command) (status : Status)
    → IsCaused before now command status
    → StatusHasCause before.shelf_faults now.shelf_faults before.sinks.mesh_faults now.sinks.mesh_faults
    before.sinks.report_faults now.sinks.report_faults status
