use Rattle.std.proofs.Common.{ℕ, List, [], ◌∷◌, ◌∙◌, ap}
use Rattle.run_laws.specs.Act.{ReportText}
use Rattle.run_laws.proofs.DoesLemmas.{does-same}
use Rattle.run_engine.proofs.shows.write_measure.Goals as goal

pub returns-clause-does : goal.returns-clause-does
returns-clause-does g c note =
    does-same _ _ _ _ c.tell.result (ap (λ (t : List ℕ). ReportText t ∷ [])
    (c.as_slice.ensures.value ∙ c.measure_report.ensures)) c.tell.ensures.does
