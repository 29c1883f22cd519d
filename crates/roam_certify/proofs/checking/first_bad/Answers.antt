-- One reason more a turn. The two fields are two reads, so `read` is the reason that they are of.
use Rattle.std.proofs.Common.{◌≡◌, [], refl, sym, ◌∙◌, subst, arith, get_or, take}
use Rattle.std.proofs.lemmas.Bool.{both_ways}
use Rattle.std.proofs.lemmas.List.{get_or_default, take_all}
use Rattle.mesh_laws.specs.Sweep.{is_flagged}
use Rattle.mesh_laws.proofs.SweepLemmas.{splittable-lt}
use Rattle.certificate_laws.specs.declared.reason.Reason.{Reason}
use Rattle.certificate_laws.specs.Certificate.{IsReason, AreReasons}
use Rattle.mesh_defs.specs.State.{priority_seen}
use Rattle.roam_certify.proofs.CheckingLemmas.{named-splittable, good-next, same-next, bad-first}
use Rattle.roam_certify.proofs.checking.first_bad.Goals as goal

pub loop-index-init : goal.loop-index-init
loop-index-init c = record { room = refl; good = tt; same = c.requires.empty }

pub is_reason-requires : goal.is_reason-requires
is_reason-requires c = record {
  in_grid = c.requires.in_grid;
  room = c.loop-index.invariant.room ∙ c.requires.room;
  grid = c.requires.grid;
  addresses = λ a h. named-splittable c.args.n (priority_seen c.args.scene.now) c.args.worst
      (take c.loop-index.index c.args.reasons.now)
      a c.loop-index.invariant.good
      (sym (c.loop-index.invariant.same a) ∙ h);
}

pub flag-requires : goal.flag-requires
flag-requires c =
    let own = splittable-lt c.args.n
    (get_or c.args.reasons.now c.loop-index.index c.index-reasons-index-in-loop-index.result).triangle
    ((c.is_reason.ensures.value.0 c.if-not-is_reason.false).splittable) in
    record { room = omega (arith, own, c.loop-index.invariant.room, c.requires.room) }

pub loop-index-preserved : goal.loop-index-preserved
loop-index-preserved c =
    let read : Reason = get_or c.args.reasons.now c.loop-index.index c.index-reasons-index-in-loop-index.result in
    let is : read ≡ get_or c.args.reasons.now c.loop-index.index read =
    get_or_default c.args.reasons.now c.loop-index.index c.index-reasons-index-in-loop-index.result read
    c.loop-index-test.true in
    let reason : IsReason c.args.n (priority_seen c.args.scene.now) c.args.worst (is_flagged c.loop-index.flags) read =
    subst (λ (x : Reason).
    IsReason c.args.n (priority_seen c.args.scene.now) c.args.worst (is_flagged c.loop-index.flags)
    (record { kind = x.kind; triangle = read.triangle }))
    (get_or_default c.args.reasons.now c.loop-index.index c.index-reasons-index.result
    c.index-reasons-index-in-loop-index.result c.loop-index-test.true)
    (c.is_reason.ensures.value.0 c.if-not-is_reason.false) in
    record {
      room = c.flag.ensures.room ∙ c.loop-index.invariant.room;
      good = good-next c.args.n (priority_seen c.args.scene.now) c.args.worst c.args.reasons.now c.loop-index.index read
          c.loop-index-test.true is
          (is_flagged c.loop-index.flags) c.loop-index.invariant.same c.loop-index.invariant.good reason;
      same = same-next c.args.n (priority_seen c.args.scene.now) c.args.worst c.args.reasons.now c.loop-index.index read
          c.loop-index-test.true is
          (is_flagged c.loop-index.flags) c.loop-index.invariant.same c.loop-index.invariant.good
          (is_flagged c.flag.new.flags) c.flag.ensures.added;
    }

pub returns-then-not-is_reason-clause-bad : goal.returns-then-not-is_reason-clause-bad
returns-then-not-is_reason-clause-bad c =
    let read : Reason = get_or c.args.reasons.now c.loop-index.index c.index-reasons-index-in-loop-index.result in
    let is : read ≡ get_or c.args.reasons.now c.loop-index.index read =
    get_or_default c.args.reasons.now c.loop-index.index c.index-reasons-index-in-loop-index.result read
    c.loop-index-test.true in
    bad-first c.args.n (priority_seen c.args.scene.now) c.args.worst c.args.reasons.now c.loop-index.index read
    c.loop-index-test.true is
    (is_flagged c.loop-index.flags) c.loop-index.invariant.same c.loop-index.invariant.good
    (λ reason. both_ways c.is_reason.result c.if-not-is_reason.true (c.is_reason.ensures.value.1
    (subst (λ (x : Reason).
    IsReason c.args.n (priority_seen c.args.scene.now) c.args.worst (is_flagged c.loop-index.flags)
    (record { kind = x.kind; triangle = read.triangle }))
    (get_or_default c.args.reasons.now c.loop-index.index c.index-reasons-index-in-loop-index.result
    c.index-reasons-index.result c.loop-index-test.true)
    reason)))

pub returns-clause-good : goal.returns-clause-good
returns-clause-good c =
    let done = c.loop-index-test.false in
    subst (λ l. AreReasons c.args.n (priority_seen c.args.scene.now) c.args.worst [] l)
    (take_all c.loop-index.index c.args.reasons.now (omega arith)) c.loop-index.invariant.good
