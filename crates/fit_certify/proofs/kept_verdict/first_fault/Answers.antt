-- All points are needed.
use Rattle.std.proofs.Common.{List, All, subst}
use Rattle.mesh_defs.specs.declared.point.Point.{Point}
use Rattle.certificate_laws.specs.Keeping.{IsNeed}
use Rattle.fit_certify.proofs.kept_verdict.first_fault.Goals as goal

pub returns-in-None-clause-needs : goal.returns-in-None-clause-needs
returns-in-None-clause-needs c points marked =
    subst (λ (l : List Point). All (IsNeed c.args.marks.now.n points) l) c.needs.ensures.value
    (c.in-None.ensures.all points marked)
