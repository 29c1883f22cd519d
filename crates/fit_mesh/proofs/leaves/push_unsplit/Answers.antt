-- What is split does not wait.
use Rattle.std.proofs.Common.{sym, ◌∙◌}
use Rattle.std.proofs.lemmas.Bool.{both_ways}
use Rattle.mesh_laws.specs.Sweep.{is_flagged}
use Rattle.fit_mesh.proofs.leaves.push_unsplit.Goals as goal

pub returns-else-not-is_set-clause-added : goal.returns-else-not-is_set-clause-added
returns-else-not-is_set-clause-added c lacks some =
    absurd (both_ways (is_flagged c.args.flags.now c.args.t) lacks (sym c.is_set.ensures.value ∙ c.if-not-is_set.false))
