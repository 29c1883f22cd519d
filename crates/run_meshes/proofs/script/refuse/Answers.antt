use Rattle.std.proofs.Common.{List, ℕ, [], ◌∷◌, ◌∙◌, ap}
use Rattle.run_laws.specs.Act.{ReportText}
use Rattle.run_laws.proofs.DoesLemmas.{does-same}
use Rattle.run_meshes.proofs.script.refuse.Goals as goal

pub returns-clause-does : goal.returns-clause-does
returns-clause-does g c =
    does-same _ _ _ _ c.tell.result
    (ap (λ (t : List ℕ). ReportText t ∷ []) (c.as_slice.ensures.value ∙ c.line_report.ensures)) c.tell.ensures.does
