-- Of points.
use Rattle.std.proofs.Common.{sym, subst}
use Rattle.mesh_defs.specs.ClosedSet.{IsLeastClosed}
use Rattle.mesh_laws.specs.Sweep.{is_flagged}
use Rattle.fit_mesh.specs.Required.{or_required}
use Rattle.fit_mesh.specs.declared.required.Required.{Required}
use Rattle.fit_mesh.proofs.demand.split_required.Goals as goal

pub returns-in-Points-clause-least : goal.returns-in-Points-clause-least
returns-in-Points-clause-least c =
    subst (λ (r : Required). IsLeastClosed c.args.n (or_required c.args.n (is_flagged c.args.flags.now) r)
    (is_flagged c.split_centred.new.flags)) (sym c.in-Points.is) c.split_centred.ensures.least
