use Rattle.std.proofs.Common.{Err, ◌∙◌, ap}
use Rattle.run_laws.specs.ReportText.{grid_refusal}
use Rattle.run_laws.proofs.GridLemmas.{next_count-one}
use Rattle.run_laws.proofs.RunLemmas.{grid-failed, grid-refused}
use Rattle.run_files.proofs.grid_file.grid_or_end.Goals as goal

pub returns-in-Err-Failed-clause-err : goal.returns-in-Err-Failed-clause-err
returns-in-Err-Failed-clause-err g c job =
    let read = c.in-Err-Failed.ensures in
    let failed = ap Err c.in-Err-Failed.field-0-is in
    grid-failed _ _ _ job read.only
    (next_count-one _ _ c.requires.opens read.opens) read.in_time (read.failed failed)
    (read.undecided failed)

pub returns-in-Err-Refused-clause-err : goal.returns-in-Err-Refused-clause-err
returns-in-Err-Refused-clause-err g c job =
    let read = c.in-Err-Refused.ensures in
    grid-refused _ _ _ _ job c.in-Err-Refused.fault c.as_slice.result.now _
    (record {
      only = read.only;
      opens = next_count-one _ _ c.requires.opens read.opens;
      faults = read.no_fault (λ e. cc);
      in_time = read.in_time;
    })
    (c.as_slice.ensures.value ∙ c.grid_report.ensures ∙ ap grid_refusal c.in-Err-Refused.fault-is)
    (read.refused c.in-Err-Refused.fault (ap Err c.in-Err-Refused.field-0-is)) c.end_with_text.ensures.tells
