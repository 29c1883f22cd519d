-- A leaf that is off is split, and its point is the reason.
use Rattle.std.proofs.Common.{ℕ, sym, ◌∙◌, subst}
use Rattle.mesh_defs.specs.ClosedSet.{IsClosed, IsLeastClosed}
use Rattle.mesh_defs.specs.Greedy.{with_triangle}
use Rattle.mesh_laws.specs.Sweep.{is_flagged}
use Rattle.fit_certify.proofs.SettleLemmas.{split-pass}
use Rattle.fit_certify.proofs.settle.Settling.split_leaf.Goals as goal

pub returns-in_ok-push-in-Some-clause-ready : goal.returns-in_ok-push-in-Some-clause-ready
returns-in_ok-push-in-Some-clause-ready c = record {
  lower = c.requires.ready.lower;
  flags = c.force.ensures.flags ∙ c.requires.ready.flags;
  closed = subst (λ (k : ℕ). IsClosed k (is_flagged c.force.new.flags)) c.n.ensures.value c.force.ensures.least.closed;
  room = c.point_off.ensures.room ∙ c.requires.ready.room;
  known = c.point_off.ensures.known;
}

pub returns-in_ok-push-in-Some-clause-pass : goal.returns-in_ok-push-in-Some-clause-pass
returns-in_ok-push-in-Some-clause-pass c =
    split-pass c.args.bounds.now c.args.self.now _ c.args.t c.in-Some.point c.requires.ready.closed c.requires.splittable
    (sym c.is_set.ensures.value ∙ c.if-is_set.false) c.requires.parent c.in-Some.ensures.found
    c.in_ok-push-in-Some.ensures.items
    (subst (λ (k : ℕ). IsLeastClosed k (with_triangle (is_flagged c.args.self.now.flags.now) c.args.t)
    (is_flagged c.force.new.flags)) c.n.ensures.value c.force.ensures.least)
