-- A corner of the square, a point whose triangle is split, and another one.
use Rattle.std.proofs.Common.{refl, sym, ◌∙◌}
use Rattle.mesh_laws.specs.Sweep.{is_flagged}
use Rattle.fit_certify.proofs.KeepingLemmas.{corner-kept, centre-kept, needed-same, needed-more}
use Rattle.fit_certify.proofs.points.list_need.Goals as goal

pub returns-in_default-clause-needed : goal.returns-in_default-clause-needed
returns-in_default-clause-needed c points some listed so_far =
    needed-same c.args.n points some c.args.needs.now.items c.args.point c.args.flags.now so_far
    (corner-kept c.args.n c.args.point (is_flagged c.args.flags.now) (c.in_default.ensures.corner.0 refl))

pub returns-then-is_set-clause-needed : goal.returns-then-is_set-clause-needed
returns-then-is_set-clause-needed c points some listed so_far =
    needed-same c.args.n points some c.args.needs.now.items c.args.point c.args.flags.now so_far
    ((centre-kept c.args.n c.args.point (is_flagged c.args.flags.now) c.in-Some.t c.requires.closed
    c.in-Some.ensures.splittable c.in-Some.ensures.centre).0 (sym c.is_set.ensures.value ∙ c.if-is_set.true))

pub returns-clause-needed : goal.returns-clause-needed
returns-clause-needed c points some listed so_far =
    needed-more c.args.n points some c.args.needs.now.items c.args.point c.args.flags.now so_far c.in-Some.t
    c.push.new.self.items c.force.new.flags listed c.in-Some.ensures.splittable c.in-Some.ensures.centre
    c.in_ok-push.ensures.items c.force.ensures.least
