use Rattle.std.proofs.Common.{◌≡◌, ◌≤◌, ◌*◌, Option, IfSome, false, sym, ◌∙◌, ap, refl, subst}
use Rattle.std.proofs.lemmas.Bool.{both_ways}
use Rattle.mesh_defs.specs.Triangle.{level_of}
use Rattle.mesh_defs.specs.ClosedSet.{among}
use Rattle.bintree_addr.specs.declared.rank.Rank.{Rank}
use Rattle.mesh_laws.specs.Deferred.{IsEntry}
use Rattle.deferred_loop.specs.Seen.{PoolSet, IsRated}
use Rattle.deferred_loop.specs.Choice.{Priorities, IsLastRank}
use Rattle.deferred_loop.specs.Kept.{IsAllowed, IsNoneMet}
use Rattle.deferred_loop.specs.declared.queued.Located.{Located}
use Rattle.deferred_loop.proofs.TellLemmas.{asked_none, told_only, told_less}
use Rattle.deferred_loop.proofs.HeadLemmas.{last_decided, last_part, none_empty, none_met, last_is, last_entry}
use Rattle.deferred_loop.proofs.HeadLemmas.{last_level}
use Rattle.deferred_loop.proofs.ChargeLemmas.{charged_asked, last_may}
use Rattle.deferred_loop.proofs.asking.settle_last.Goals as goal

pub returns-in_default-clause-last : goal.returns-in_default-clause-last
returns-in_default-clause-last g c =
    subst (λ (z : PoolSet). IsNoneMet g.w z.members c.args.limit.now) c.asking.invariant.asked.set
    (none_empty g.w c.requires.1.1.0
    (g.M.QueuedMesh.seen c.asking.mesh) c.asking.invariant.asked.settled c.args.limit.now
    (subst (λ (z : PoolSet). IsAllowed g.w z.members c.args.limit.now)
    (sym c.asking.invariant.asked.set) c.requires.1.1.1.1.1)
    c.in_default.ensures.head)

pub returns-then-not-is_met-clause-last : goal.returns-then-not-is_met-clause-last
returns-then-not-is_met-clause-last g c =
    subst (λ (z : PoolSet). IsNoneMet g.w z.members c.args.limit.now) c.asking.invariant.asked.set
    (none_met g.w c.requires.1.1.0 (g.M.QueuedMesh.seen c.asking.mesh) c.asking.invariant.asked.settled c.in-Some.head
    c.in-Some.ensures.head c.args.limit.now
    (subst (λ (z : PoolSet). IsAllowed g.w z.members c.args.limit.now)
    (sym c.asking.invariant.asked.set) c.requires.1.1.1.1.1)
    (λ met. both_ways c.is_met.result c.if-not-is_met.true (c.is_met.ensures.1 met)))

pub returns-in_default-unasked-clause-last : goal.returns-in_default-unasked-clause-last
returns-in_default-unasked-clause-last g c = (
  subst (λ (z : PoolSet). IsLastRank g.w.n g.w.priority z.members c.in-Some.head.rank) c.asking.invariant.asked.set
      (last_is g.w c.requires.1.1.0 (g.M.QueuedMesh.seen c.asking.mesh) c.asking.invariant.asked.settled c.in-Some.head
      c.in-Some.ensures.head
      (last_decided (g.M.QueuedMesh.seen c.asking.mesh) c.in-Some.head c.in-Some.ensures.head c.in_default-unasked.is)),
  c.is_met.ensures.0 c.if-not-is_met.false,
)

pub ask-requires-clause-level : goal.ask-requires-clause-level
ask-requires-clause-level g c =
    let seen = g.M.QueuedMesh.seen c.asking.mesh in
    let t = c.in-Some-unasked.t in
    subst (λ (z : Located). level_of z.tri ≤ 2 * (g.G.Gauge.priorities c.asking.gauge).n) (sym c.in-Some-unasked.t-is)
    (last_level g.w c.requires.1.1.0 seen c.asking.invariant.asked.settled c.in-Some.head c.in-Some.ensures.head
    (g.G.Gauge.priorities c.asking.gauge) t.tri (c.asking.invariant.priorities ∙ c.requires.1.1.1.0)
    (last_part seen c.in-Some.head t c.in-Some.ensures.head c.in-Some-unasked.is).0)

pub ask-requires-clause-at : goal.ask-requires-clause-at
ask-requires-clause-at g c =
    subst (λ (z : Located). g.M.QueuedMesh.tri_at c.asking.mesh z.slot.0 ≡ z.tri) (sym c.in-Some-unasked.t-is)
    (subst (λ (o : Option Located). IfSome o (λ t. g.M.QueuedMesh.tri_at c.asking.mesh t.slot.0 ≡ t.tri))
    c.in-Some-unasked.is
    c.in-Some.ensures.unasked_at)

pub ask-requires-clause-entry : goal.ask-requires-clause-entry
ask-requires-clause-entry g c =
    let seen = g.M.QueuedMesh.seen c.asking.mesh in
    let t = c.in-Some-unasked.t in
    subst (λ (z : Located). IsEntry seen.set.n (among seen.set.members) z.tri) (sym c.in-Some-unasked.t-is)
    (last_entry g.w c.requires.1.1.0 seen c.asking.invariant.asked.settled c.in-Some.head c.in-Some.ensures.head
    t.tri (last_part seen c.in-Some.head t c.in-Some.ensures.head c.in-Some-unasked.is).0)

pub ask-requires-clause-unknown : goal.ask-requires-clause-unknown
ask-requires-clause-unknown g c =
    let seen = g.M.QueuedMesh.seen c.asking.mesh in
    subst (λ (z : Located). seen.known z.tri ≡ false) (sym c.in-Some-unasked.t-is)
    (last_part seen c.in-Some.head c.in-Some-unasked.t c.in-Some.ensures.head c.in-Some-unasked.is).1

pub asking-init : goal.asking-init
asking-init g c = record {
  priorities = refl;
  readings = refl;
  log = refl;
  asked =
      asked_none g.w (g.M.QueuedMesh.seen c.args.mesh.now) (g.G.Gauge.count c.args.gauge.now) c.requires.1.1.1.1.0;
}

pub asking-smaller : goal.asking-smaller
asking-smaller g c =
    let before = g.M.QueuedMesh.seen c.asking.mesh in
    let t = c.in-Some-unasked.t in
    let part = last_part before c.in-Some.head t c.in-Some.ensures.head c.in-Some-unasked.is in
    let after = g.M.QueuedMesh.seen c.ask.new.mesh in
    let of = (g.G.Gauge.priorities c.asking.gauge).of in
    let rank : Rank = record { p = of t.tri; tri = t.tri } in
    let known : IsRated before after rank =
    subst (λ (z : Located). IsRated before after (record { p = of z.tri; tri = z.tri }))
    c.in-Some-unasked.t-is c.ask.ensures.known in
    told_less before after rank t.tri known refl
    (last_entry g.w c.requires.1.1.0 before c.asking.invariant.asked.settled c.in-Some.head
    c.in-Some.ensures.head t.tri part.0)
    part.1

pub asking-preserved : goal.asking-preserved
asking-preserved g c =
    let before = g.M.QueuedMesh.seen c.asking.mesh in
    let after = g.M.QueuedMesh.seen c.ask.new.mesh in
    let more = g.G.Gauge.count c.ask.new.gauge in
    let t = c.in-Some-unasked.t in
    let part = last_part before c.in-Some.head t c.in-Some.ensures.head c.in-Some-unasked.is in
    let of = (g.G.Gauge.priorities c.asking.gauge).of in
    let rank : Rank = record { p = of t.tri; tri = t.tri } in
    let known : IsRated before after rank =
    subst (λ (z : Located). IsRated before after (record { p = of z.tri; tri = z.tri }))
    c.in-Some-unasked.t-is c.ask.ensures.known in
    let value = ap (λ (z : Priorities). z.of t.tri) (c.asking.invariant.priorities ∙ c.requires.1.1.1.0) in
    let allowed = subst (λ (z : PoolSet). IsAllowed g.w z.members c.args.limit.now) (sym c.asking.invariant.asked.set)
    c.requires.1.1.1.1.1 in
    record {
      priorities = c.ask.ensures.priorities ∙ c.asking.invariant.priorities;
      readings = c.ask.ensures.readings ∙ c.asking.invariant.readings;
      log = c.ask.ensures.log ∙ c.asking.invariant.log;
      asked = told_only g.w (g.M.QueuedMesh.seen c.args.mesh.now) before after rank
          (g.G.Gauge.count c.args.gauge.now) (g.G.Gauge.count c.asking.gauge) more
          c.asking.invariant.asked known value c.ask.ensures.rises
          (λ evaluations added removed charged. charged_asked g.w before after rank t.tri known refl
          evaluations added removed (g.G.Gauge.count c.asking.gauge) more c.ask.ensures.most charged
          (last_may g.w c.requires.1.1.0 before c.asking.invariant.asked.settled c.in-Some.head c.in-Some.ensures.head
          c.args.limit.now t.tri allowed (c.is_met.ensures.0 c.if-not-is_met.false) part.0 part.1
          evaluations added removed (g.G.Gauge.count c.asking.gauge) charged));
    }
