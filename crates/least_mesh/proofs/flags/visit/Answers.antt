-- The mate is splittable too, so its flag is there; and the marks are those of a pair.
use Rattle.std.proofs.Common.{◌≡◌, Some, refl, arith}
use Rattle.mesh_defs.specs.Triangle.{IsMate}
use Rattle.mesh_laws.proofs.DescentLemmas.{IsAddress-splittable}
use Rattle.mesh_laws.specs.Sweep.{is_flagged}
use Rattle.mesh_laws.proofs.SweepLemmas.{splittable-lt, mate-lt, marked-pair}
use Rattle.least_mesh.proofs.flags.visit.Goals as goal

pub flag_parent-requires : goal.flag_parent-requires
flag_parent-requires c = record {
  room = omega (arith, splittable-lt c.args.n c.args.t c.requires.splittable, c.requires.room);
}

pub flag-requires : goal.flag-requires
flag-requires c =
    let e : Some c.in-Some.mate ≡ Some c.in-Some.mate = refl in
    let mate : IsMate c.args.n c.args.t c.in-Some.mate = (c.in-Some.ensures.mate c.in-Some.mate).0 e in
    record {
      room = omega (
        arith,
        mate-lt c.args.n c.args.t c.in-Some.mate c.requires.splittable mate,
        c.requires.room,
        c.flag_parent.auto.flags,
      );
    }

pub flag_parent-requires-in-Some : goal.flag_parent-requires-in-Some
flag_parent-requires-in-Some c =
    let e : Some c.in-Some.mate ≡ Some c.in-Some.mate = refl in
    let mate : IsMate c.args.n c.args.t c.in-Some.mate = (c.in-Some.ensures.mate c.in-Some.mate).0 e in
    record {
      room = omega (
        arith,
        mate-lt c.args.n c.args.t c.in-Some.mate c.requires.splittable mate,
        c.requires.room,
        c.flag_parent.auto.flags,
        c.flag.auto.flags,
      );
    }

pub returns-in-Some : goal.returns-in-Some
returns-in-Some c =
    let e : Some c.in-Some.mate ≡ Some c.in-Some.mate = refl in
    record {
      marked = marked-pair c.args.n c.args.t c.in-Some.mate (is_flagged c.args.flags.now)
          (is_flagged c.flag_parent.new.flags) (is_flagged c.flag.new.flags)
          (is_flagged c.flag_parent-in-Some.new.flags) (IsAddress-splittable c.args.n c.args.t c.requires.splittable)
          ((c.in-Some.ensures.mate c.in-Some.mate).0 e) c.flag_parent.ensures.marked c.flag.ensures.added
          c.flag_parent-in-Some.ensures.marked;
    }
