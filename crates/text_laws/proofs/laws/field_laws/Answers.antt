use Rattle.text_laws.proofs.FieldLemmas.{fields-of_cut, cut-fields, cr-dropped, last-kept}
use Rattle.text_laws.proofs.laws.field_laws.Goals as goal

pub returns-clause-runs : goal.returns-clause-runs
returns-clause-runs c = fields-of_cut

pub returns-clause-cut : goal.returns-clause-cut
returns-clause-cut c = cut-fields

pub returns-clause-dropped : goal.returns-clause-dropped
returns-clause-dropped c = cr-dropped

pub returns-clause-kept : goal.returns-clause-kept
returns-clause-kept c = last-kept
