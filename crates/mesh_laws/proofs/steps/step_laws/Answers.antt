-- Each clause is a lemma.
use Rattle.std.proofs.Common.{inl, inr}
use Rattle.mesh_laws.proofs.NextLemmas.{splits, merges, ends, next}
use Rattle.mesh_laws.proofs.FrameRunLemmas.{merge_spares, split_chosen}
use Rattle.mesh_laws.proofs.steps.step_laws.Goals as goal

pub returns-clause-next : goal.returns-clause-next
returns-clause-next c n budget priority before set falling low = elim (next n budget priority falling before set low) [
  | splits after step ↦ inl (after, step)
  | merges after step ↦ inr (inl (after, step))
  | ends finished ↦ inr (inr finished)
]

pub returns-clause-merge : goal.returns-clause-merge
returns-clause-merge c = merge_spares

pub returns-clause-split : goal.returns-clause-split
returns-clause-split c = split_chosen
