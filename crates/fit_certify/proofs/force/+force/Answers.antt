-- With what it stands on in the set, a triangle with no mate goes in alone, and another with its mate.
use Rattle.std.proofs.Common.{◌≡◌, Some, arith}
use Rattle.mesh_laws.specs.Sweep.{is_flagged}
use Rattle.mesh_laws.proofs.SweepLemmas.{splittable-lt, mate-lt}
use Rattle.mesh_laws.proofs.ForcingLemmas.{IsLeastClosed-single, IsLeastClosed-pair}
use Rattle.fit_certify.proofs.force.+force.Goals as goal

pub force-flag-requires : goal.force-flag-requires
force-flag-requires t c =
    let lt = splittable-lt c.args.n c.args.t c.requires.splittable in
    let e = c.force_parent.ensures.flags in
    let r = c.requires.flags in
    record { room = omega arith }

pub force-flag-requires-in-Some : goal.force-flag-requires-in-Some
force-flag-requires-in-Some t c =
    let same : Some c.in-Some.mate ≡ Some c.in-Some.mate = cc in
    let lt = mate-lt c.args.n c.args.t c.in-Some.mate c.requires.splittable
    ((c.in-Some.ensures.mate c.in-Some.mate).0 same) in
    let e = c.force_parent.ensures.flags in let f = c.force_parent-in-Some.ensures.flags in let r = c.requires.flags in
    record { room = omega arith }

pub force-flag-requires-in-Some-2 : goal.force-flag-requires-in-Some-2
force-flag-requires-in-Some-2 t c =
    let lt = splittable-lt c.args.n c.args.t c.requires.splittable in let g = c.flag-in-Some.ensures.room in
    let e = c.force_parent.ensures.flags in let f = c.force_parent-in-Some.ensures.flags in let r = c.requires.flags in
    record { room = omega arith }

pub force-returns-in-None-clause-least : goal.force-returns-in-None-clause-least
force-returns-in-None-clause-least t c =
    IsLeastClosed-single c.args.n (is_flagged c.args.flags.now) (is_flagged c.force_parent.new.flags)
    (is_flagged c.flag.new.flags) c.args.t
    c.requires.splittable c.force_parent.ensures.prepared
    (λ b m. let e = (c.in-None.ensures.mate b).1 m in cc)
    c.flag.ensures.added

pub force-returns-in-Some-clause-least : goal.force-returns-in-Some-clause-least
force-returns-in-Some-clause-least t c =
    let e : Some c.in-Some.mate ≡ Some c.in-Some.mate = cc in
    IsLeastClosed-pair c.args.n (is_flagged c.args.flags.now) (is_flagged c.force_parent.new.flags)
    (is_flagged c.force_parent-in-Some.new.flags) (is_flagged c.flag-in-Some.new.flags)
    (is_flagged c.flag-in-Some-2.new.flags)
    c.args.t c.in-Some.mate c.requires.splittable ((c.in-Some.ensures.mate c.in-Some.mate).0 e)
    c.force_parent.ensures.prepared c.force_parent-in-Some.ensures.prepared c.flag-in-Some.ensures.added
    c.flag-in-Some-2.ensures.added
