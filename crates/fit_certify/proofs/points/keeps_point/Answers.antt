-- A corner of the square is no centre, and another point has one triangle or two mates.
use Rattle.std.proofs.Common.{◌↔◌, IsTrue, Bool, [], ◌∷◌, refl, sym, subst}
use Rattle.mesh_defs.specs.ClosedSet.{IsSubset}
use Rattle.mesh_laws.specs.Sweep.{is_flagged}
use Rattle.certificate_laws.specs.Keeping.{is_centred}
use Rattle.fit_certify.proofs.KeepingLemmas.{corner-kept, centre-kept}
use Rattle.fit_certify.proofs.points.keeps_point.Goals as goal

pub returns-in-None : goal.returns-in-None
returns-in-None c = (
  (λ _. corner-kept c.args.n c.args.point (is_flagged c.args.flags.now) (c.in-None.ensures.corner.0 refl)),
  (λ _. refl),
)

pub returns-in-Some : goal.returns-in-Some
returns-in-Some c =
    subst (λ (b : Bool). IsTrue b ↔ IsSubset (is_centred c.args.n (c.args.point ∷ [])) (is_flagged c.args.flags.now))
    (sym c.is_set.ensures.value)
    (centre-kept c.args.n c.args.point (is_flagged c.args.flags.now) c.in-Some.t c.requires.closed
    c.in-Some.ensures.splittable c.in-Some.ensures.centre)
