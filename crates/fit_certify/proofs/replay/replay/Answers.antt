-- One reason more a turn.
use Rattle.std.proofs.Common.{ℕ, ◌∙◌, subst}
use Rattle.std.proofs.lemmas.Bool.{both_ways}
use Rattle.mesh_defs.specs.ClosedSet.{IsLeastClosed}
use Rattle.mesh_defs.specs.Greedy.{with_triangle}
use Rattle.mesh_laws.specs.Sweep.{is_flagged}
use Rattle.fit_certify.proofs.ReplayLemmas.{replay-next, replay-bad}
use Rattle.fit_certify.proofs.replay.replay.Goals as goal

pub returns-then-not-is_reason-clause-bad : goal.returns-then-not-is_reason-clause-bad
returns-then-not-is_reason-clause-bad c =
    replay-bad c.args.grid.now.n c.args.grid.now.heights c.args.tolerance (is_flagged c.args.flags.now)
    (is_flagged c.loop-index.flags)
    c.args.reasons.now c.loop-index.index c.reason_at-reason.result c.loop-index-test.true c.reason_at-reason.ensures
    c.loop-index.invariant.leads
    (λ reason. both_ways c.is_reason.result c.if-not-is_reason.true (c.is_reason.ensures.1 reason))

pub loop-index-preserved : goal.loop-index-preserved
loop-index-preserved c =
    let r = c.reason_at-reason.result in
    let least = subst (λ (k : ℕ). IsLeastClosed k (with_triangle (is_flagged c.loop-index.flags) r.triangle)
    (is_flagged c.force.new.flags))
    c.n-n.ensures.value c.force.ensures.least in
    record {
      flags = c.force.ensures.flags ∙ c.loop-index.invariant.flags;
      closed = least.closed;
      leads = replay-next c.args.grid.now.n c.args.grid.now.heights c.args.tolerance (is_flagged c.args.flags.now)
          (is_flagged c.loop-index.flags)
          c.args.reasons.now c.loop-index.index r c.loop-index-test.true c.reason_at-reason.ensures
          c.loop-index.invariant.leads
          (is_flagged c.force.new.flags) (c.is_reason.ensures.0 c.if-not-is_reason.false) least;
    }
