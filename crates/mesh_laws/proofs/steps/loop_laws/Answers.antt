-- Each clause is a lemma.
use Rattle.std.proofs.Common.{⊎_elim}
use Rattle.mesh_laws.proofs.MeasureLemmas.{steps_left, split_steps_left, merge_steps_left, run_small}
use Rattle.mesh_laws.proofs.steps.loop_laws.Goals as goal

pub returns-clause-measure : goal.returns-clause-measure
returns-clause-measure c n budget priority falling low = (
  steps_left n budget priority,
  λ before after set step. ⊎_elim
      (λ split. split_steps_left n budget priority falling low before after set split)
      (λ merge. merge_steps_left n budget priority falling low before after set merge)
      step,
)

pub returns-clause-splits : goal.returns-clause-splits
returns-clause-splits c n budget priority start last added removed falling low set run =
    (run_small n budget priority falling low start last added removed set run).0

pub returns-clause-merges : goal.returns-clause-merges
returns-clause-merges c n budget priority start last added removed falling low set run =
    (run_small n budget priority falling low start last added removed set run).1
