-- The cause is listed, unless the list is full.
use Rattle.std.proofs.Common.{IfSome, IsTrue, sym, subst, arith}
use Rattle.mesh_laws.proofs.SweepLemmas.{splittable-lt}
use Rattle.certificate_laws.specs.Certificate.{named_in}
use Rattle.roam_certify.specs.Making.{IsCause}
use Rattle.roam_certify.proofs.MakingLemmas.{pushed-list, pushed-grown, pushed-named}
use Rattle.roam_certify.proofs.making.Listing.push_cause.Goals as goal

pub push_new-requires : goal.push_new-requires
push_new-requires c =
    let cause : IsCause c.args.wants.now c.args.self.now.reasons.items c.args.kind c.in-Some.t =
    subst (λ o. IfSome o (IsCause c.args.wants.now c.args.self.now.reasons.items c.args.kind)) c.in-Some.is
    c.requires.cause in
    record { room = omega (arith, splittable-lt c.args.wants.now.n c.in-Some.t cause.splittable, c.requires.listed.room) }

pub returns-in_ok-push_new-in-Some-clause-listed : goal.returns-in_ok-push_new-in-Some-clause-listed
returns-in_ok-push_new-in-Some-clause-listed c =
    let cause : IsCause c.args.wants.now c.args.self.now.reasons.items c.args.kind c.in-Some.t =
    subst (λ o. IfSome o (IsCause c.args.wants.now c.args.self.now.reasons.items c.args.kind)) c.in-Some.is
    c.requires.cause in
    pushed-list c.args.wants.now c.args.kind c.in-Some.t c.args.self.now c.push_new.new.self c.requires.listed
    cause.splittable cause.why c.in_ok-push_new-in-Some.ensures.pushed

pub returns-in_ok-push_new-in-Some-clause-grown : goal.returns-in_ok-push_new-in-Some-clause-grown
returns-in_ok-push_new-in-Some-clause-grown c =
    pushed-grown c.args.wants.now c.args.kind c.in-Some.t c.args.self.now c.push_new.new.self
    c.in_ok-push_new-in-Some.ensures.pushed

pub returns-in_ok-push_new-in-Some-clause-named : goal.returns-in_ok-push_new-in-Some-clause-named
returns-in_ok-push_new-in-Some-clause-named c less =
    subst (λ o. IfSome o (λ a. IsTrue (named_in c.push_new.new.self.reasons.items a))) (sym c.in-Some.is)
    (pushed-named c.args.wants.now c.args.kind c.in-Some.t c.args.self.now c.push_new.new.self c.requires.listed
    c.in_ok-push_new-in-Some.ensures.pushed less)
