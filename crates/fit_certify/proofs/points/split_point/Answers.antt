-- A corner of the square asks for nothing, and another point for the split of its triangle.
use Rattle.std.proofs.Common.{refl}
use Rattle.mesh_laws.specs.Sweep.{is_flagged}
use Rattle.certificate_laws.proofs.CentreLemmas.{closure-more}
use Rattle.fit_certify.proofs.KeepingLemmas.{corner-closure}
use Rattle.fit_certify.proofs.points.split_point.Goals as goal

pub returns-in-Some-clause-least : goal.returns-in-Some-clause-least
returns-in-Some-clause-least c within points before =
    closure-more c.args.n points c.args.point c.in-Some.t c.in-Some.ensures.splittable c.in-Some.ensures.centre
    (is_flagged c.args.flags.now) (is_flagged c.force.new.flags) before c.force.ensures.least

pub returns-in_default-clause-least : goal.returns-in_default-clause-least
returns-in_default-clause-least c within points before =
    corner-closure c.args.n points c.args.point (is_flagged c.args.flags.now) (c.in_default.ensures.corner.0 refl) before
