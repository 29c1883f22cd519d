use Rattle.std.proofs.Common.{refl, ◌∙◌, ap}
use Rattle.run_laws.specs.declared.status.Status.TheVariants.{Done}
use Rattle.run_words.specs.Words.{Facts}
use Rattle.run_laws.specs.ReportText.{info_line}
use Rattle.run_laws.specs.Outcome.{text_outcome}
use Rattle.run_laws.proofs.RunLemmas.{line-runs}
use Rattle.run_files.proofs.info.run_info.Goals as goal

pub returns-in-Ok-build-clause-runs : goal.returns-in-Ok-build-clause-runs
returns-in-Ok-build-clause-runs g c =
    line-runs _ _ _ _ Facts c.in-Ok.grid c.as_slice.result.now _ c.in-Ok.ensures.ok refl refl
    (λ files. ap (λ t. text_outcome t Done 1)
    (c.as_slice.ensures.value ∙ c.info_report.ensures ∙ ap info_line c.in-Ok-build.ensures))
    c.end_with_text.ensures.tells

pub returns-in-Err-clause-runs : goal.returns-in-Err-clause-runs
returns-in-Err-clause-runs g c = c.in-Err.ensures.err Facts
