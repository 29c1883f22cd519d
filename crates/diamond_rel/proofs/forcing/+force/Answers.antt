-- With what it stands on in the set, a triangle with no mate goes in alone, and another with its mate.
use Rattle.std.proofs.Common.{◌≡◌, Some}
use Rattle.mesh_defs.specs.ClosedSet.{among}
use Rattle.mesh_laws.proofs.ForcingLemmas.{IsLeastClosed-single, IsLeastClosed-pair}
use Rattle.diamond_rel.proofs.forcing.+force.Goals as goal

pub force-returns-in_ok-insert-in-None-clause-least : goal.force-returns-in_ok-insert-in-None-clause-least
force-returns-in_ok-insert-in-None-clause-least t c =
    IsLeastClosed-single c.args.n (among c.args.members.now.items) (among c.force_parent.new.members.items)
    (among c.insert.new.members.items) c.args.t
    c.requires.splittable c.in_ok-force_parent.ensures.prepared
    (λ b m. let e = (c.in-None.ensures.mate b).1 m in cc)
    c.in_ok-insert-in-None.ensures.ok

pub force-returns-in_ok-insert-in-Some-2-clause-least : goal.force-returns-in_ok-insert-in-Some-2-clause-least
force-returns-in_ok-insert-in-Some-2-clause-least t c =
    let e : Some c.in-Some.mate ≡ Some c.in-Some.mate = cc in
    IsLeastClosed-pair c.args.n (among c.args.members.now.items) (among c.force_parent.new.members.items)
    (among c.force_parent-in-Some.new.members.items) (among c.insert-in-Some.new.members.items)
    (among c.insert-in-Some-2.new.members.items)
    c.args.t c.in-Some.mate c.requires.splittable ((c.in-Some.ensures.mate c.in-Some.mate).0 e)
    c.in_ok-force_parent.ensures.prepared c.in_ok-force_parent-in-Some.ensures.prepared
    c.in_ok-insert-in-Some.ensures.ok c.in_ok-insert-in-Some-2.ensures.ok
