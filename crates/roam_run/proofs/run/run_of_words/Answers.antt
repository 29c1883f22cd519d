use Rattle.std.proofs.Common.{◌≡◌, map, string_bytes, sym, subst, Option}
use Rattle.run_words.specs.Words.{Command, command_of}
use Rattle.run_laws.specs.Leaving.{RunsCommand}
use Rattle.run_laws.proofs.RunLemmas.{usage-runs, command-not-usage}
use Rattle.run_engine.specs.EngineSeen.{engine_seen}
use Rattle.roam_run.proofs.run.run_of_words.Goals as goal

-- words that are no command

pub returns-in-Err-clause-runs : goal.returns-in-Err-clause-runs
returns-in-Err-clause-runs g c =
    usage-runs _ (command_of (map string_bytes c.args.words.now)) c.in-Err.ensures.none

-- words of a command

pub returns-in-Ok-clause-runs : goal.returns-in-Ok-clause-runs
returns-in-Ok-clause-runs g c =
    rw (sym c.in-Ok.ensures.value) at c.run_command.ensures.runs

pub returns-in-Ok-clause-untouched : goal.returns-in-Ok-clause-untouched
returns-in-Ok-clause-untouched g c usage = absurd (command-not-usage _ _ _ _ _ c.run_command.ensures.runs usage)
