use Rattle.run_certify.proofs.JudgingLemmas.{leaf-levels}
use Rattle.run_certify.proofs.checking.judge_cert.Goals as goal

pub difference-requires-clause-levels : goal.difference-requires-clause-levels
difference-requires-clause-levels g c =
    rw (c.leaves.ensures.value, c.grid.ensures.value) (leaf-levels _ _ c.requires.leaves)
