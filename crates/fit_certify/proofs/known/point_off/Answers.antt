-- A triangle that is within the lower tolerance is known, and those that were stay so.
use Rattle.std.proofs.Common.{arith}
use Rattle.mesh_laws.proofs.SweepLemmas.{splittable-lt}
use Rattle.fit_laws.specs.Error.{error_of}
use Rattle.fit_certify.proofs.SettleLemmas.{error-within, known-more}
use Rattle.fit_certify.proofs.known.point_off.Goals as goal

pub flag-requires : goal.flag-requires
flag-requires c =
    let lt = splittable-lt c.args.grid.now.n c.args.t c.requires.splittable in
    let room = c.requires.room in
    record { room = omega arith }

pub returns-then-not-exceeds-clause-none : goal.returns-then-not-exceeds-clause-none
returns-then-not-exceeds-clause-none c =
    let within = error-within c.args.grid.now.n c.args.grid.now.heights c.args.t c.args.lower c.exceeds.result
    c.exceeds.ensures.1 c.if-not-exceeds.true in
    let le = c.requires.lower in omega arith

pub returns-then-not-exceeds-clause-known : goal.returns-then-not-exceeds-clause-known
returns-then-not-exceeds-clause-known c =
    known-more c.args.grid.now.n c.args.grid.now.heights c.args.lower c.args.known.now c.flag.new.flags c.args.t
    c.requires.known
    (error-within c.args.grid.now.n c.args.grid.now.heights c.args.t c.args.lower c.exceeds.result
    c.exceeds.ensures.1 c.if-not-exceeds.true)
    c.flag.ensures.added

pub returns-in-None-clause-none : goal.returns-in-None-clause-none
unfolding error_of
returns-in-None-clause-none c = c.point_above.ensures.none
