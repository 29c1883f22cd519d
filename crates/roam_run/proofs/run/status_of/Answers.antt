use Rattle.std.proofs.Common.{◌∙◌, option_map}
use Rattle.run_engine.specs.EngineSeen.{engine_seen}
use Rattle.roam_run.proofs.run.status_of.Goals as goal

pub returns-clause-best : goal.returns-clause-best
returns-clause-best g c = rw c.into_status.ensures c.roam.ensures.best

pub returns-clause-certified : goal.returns-clause-certified
returns-clause-certified g c = rw c.into_status.ensures c.roam.ensures.certified

pub returns-clause-ends : goal.returns-clause-ends
returns-clause-ends g c = (option_map engine_seen c.roam.result.engine, rw c.into_status.ensures c.roam.ensures.ends)

pub returns-clause-usage : goal.returns-clause-usage
returns-clause-usage g c = rw c.into_status.ensures c.roam.ensures.causes.usage

pub returns-clause-read_cause : goal.returns-clause-read_cause
returns-clause-read_cause g c = rw c.into_status.ensures c.roam.ensures.causes.read

pub returns-clause-write_cause : goal.returns-clause-write_cause
returns-clause-write_cause g c = rw c.into_status.ensures c.roam.ensures.causes.write

pub returns-clause-files : goal.returns-clause-files
returns-clause-files g c = c.roam.ensures.leaves.files

pub returns-clause-idle : goal.returns-clause-idle
returns-clause-idle g c =
    rw c.into_status.ensures (λ not. c.roam.ensures.leaves.idle not ∙ c.requires.idle)
