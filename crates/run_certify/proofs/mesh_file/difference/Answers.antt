use Rattle.std.proofs.Common.{sym, ◌∙◌}
use Rattle.run_laws.proofs.FileLemmas.{has-ended}
use Rattle.run_certify.proofs.mesh_file.difference.Goals as goal

pub returns-in-Ok-compare_rest-clause-ended : goal.returns-in-Ok-compare_rest-clause-ended
returns-in-Ok-compare_rest-clause-ended g c none =
    has-ended _ _ _ _ _ (c.in-Ok-compare_rest.ensures.ended none) c.in-Ok-compare_rest.ensures.told
    (λ all is_told.
    let same = c.in-Ok-compare_rest.ensures.only.files ∙ c.in-Ok.ensures.only.files in
    (_, c.in-Ok.ensures.opened.chosen all (sym same ∙ is_told)))
    (c.in-Ok-compare_rest.ensures.all_read none)
