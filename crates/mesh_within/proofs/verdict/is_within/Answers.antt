use Rattle.mesh_within.proofs.WorstLemmas.{within-law}
use Rattle.mesh_within.proofs.verdict.is_within.Goals as goal

pub returns-clause-each : goal.returns-clause-each
returns-clause-each c = λ right top surface points heights corners dev.
    let law = within-law right top surface points heights corners c.args.deviation c.args.error dev in
    (λ yes. law.0 (c.is_at_most.ensures.0 yes), λ within. c.is_at_most.ensures.1 (law.1 within))
