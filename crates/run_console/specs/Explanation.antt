-- What standard error speaks of, by how a run ended. This project's own.
-- Words: topic_of.
use Rattle.std.specs.Prelude.{Bool, if◌then◌else◌}
use Rattle.run_laws.specs.declared.status.Status.{Status}
use Rattle.run_laws.specs.declared.status.Status.TheVariants.{Done, NoMemory, Usage, GridRefused, ScriptRefused}
use Rattle.run_laws.specs.declared.status.Status.TheVariants.{ReadFault, WriteFault, Rejected}
use Rattle.run_console.specs.declared.explanation.Topic.{Topic}
use Rattle.run_console.specs.declared.explanation.Topic.TheVariants.{Nothing, Memory, Words, Grid, Frames, File, Output}

-- Nothing is said where the run was carried out and told something, where a refused line or a rejection is told, and
-- where who reads the report went away; else one thing. Whether the report has a line, and whether it was cut off, is
-- `told` and `cut`.
abbrev pub topic_of : Status → Bool → Bool → Topic
topic_of Done told cut = if told then Nothing else Frames
topic_of NoMemory told cut = Memory
topic_of Usage told cut = Words
topic_of GridRefused told cut = Grid
topic_of ScriptRefused told cut = Nothing
topic_of ReadFault told cut = File
topic_of WriteFault told cut = if cut then Nothing else Output
topic_of Rejected told cut = Nothing
