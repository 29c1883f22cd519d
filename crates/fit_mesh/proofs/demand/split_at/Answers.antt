-- A corner of the square is no centre; and triangles with one centre are split together.
use Rattle.std.proofs.Common.{◌∷◌, [], refl}
use Rattle.mesh_laws.specs.Sweep.{is_flagged}
use Rattle.fit_mesh.specs.Required.{is_centred_at}
use Rattle.fit_mesh.proofs.DemandLemmas.{closure-start, corner-none, split-centred}
use Rattle.fit_mesh.proofs.demand.split_at.Goals as goal

pub returns-in-Some-clause-least : goal.returns-in-Some-clause-least
returns-in-Some-clause-least c =
    split-centred c.args.n c.args.place c.point_of.result c.point_of.ensures.within c.point_of.ensures.place
    (is_flagged c.args.flags.now) (is_flagged c.force.new.flags) c.in-Some.t c.in-Some.ensures.splittable
    c.in-Some.ensures.centre c.force.ensures.least

pub returns-in_default-clause-least : goal.returns-in_default-clause-least
returns-in_default-clause-least c =
    closure-start c.args.n (is_flagged c.args.flags.now) (is_centred_at c.args.n (c.args.place ∷ [])) c.requires.closed
    (corner-none c.args.n c.args.place c.point_of.result c.point_of.ensures.within c.point_of.ensures.place
    (is_flagged c.args.flags.now) (c.in_default.ensures.corner.0 refl))
