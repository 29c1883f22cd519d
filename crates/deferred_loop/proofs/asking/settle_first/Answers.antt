use Rattle.std.proofs.Common.{◌≡◌, ◌≤◌, ◌*◌, false, All, sym, ◌∙◌, ap, refl, subst}
use Rattle.mesh_defs.specs.Triangle.{level_of}
use Rattle.mesh_defs.specs.ClosedSet.{leaves_of, among}
use Rattle.bintree_addr.specs.declared.rank.Rank.{Rank}
use Rattle.mesh_laws.specs.Deferred.{IsEntry}
use Rattle.deferred_loop.specs.Seen.{PoolSet}
use Rattle.mesh_laws.specs.Steps.{leaf_count}
use Rattle.deferred_loop.specs.Choice.{Priorities, IsFirstRank}
use Rattle.deferred_loop.specs.declared.queued.Located.{Located}
use Rattle.deferred_loop.proofs.KeyLemmas.{unsure}
use Rattle.deferred_loop.proofs.TellLemmas.{asked_none, told_only, told_less}
use Rattle.deferred_loop.proofs.HeadLemmas.{head_zero, head_known, head_entry, head_level}
use Rattle.deferred_loop.proofs.ChargeLemmas.{charged_asked, head_may}
use Rattle.deferred_loop.proofs.asking.settle_first.Goals as goal

pub returns-then-head-eq0-clause-first : goal.returns-then-head-eq0-clause-first
returns-then-head-eq0-clause-first g c =
    subst (λ (z : PoolSet). All (λ a. g.w.priority a ≡ 0) (leaves_of g.w.n (among z.members)))
    c.asking.invariant.asked.set
    (head_zero g.w c.requires.1.1.0
    (g.M.QueuedMesh.seen c.asking.mesh) c.asking.invariant.asked.settled c.first-head.result
    c.first-head.ensures.head c.if-head-eq0.true)

pub returns-then-head-clause-first : goal.returns-then-head-clause-first
returns-then-head-clause-first g c =
    subst (λ (z : PoolSet). IsFirstRank g.w.n g.w.priority z.members c.first-head.result.rank)
    c.asking.invariant.asked.set
    (head_known g.w c.requires.1.1.0
    (g.M.QueuedMesh.seen c.asking.mesh) c.asking.invariant.asked.settled c.first-head.result
    c.first-head.ensures.head c.if-head.true c.if-head-eq0.false)

pub ask-requires-clause-level : goal.ask-requires-clause-level
ask-requires-clause-level g c =
    subst (λ (t : Located). level_of t.tri ≤ 2 * (g.G.Gauge.priorities c.asking.gauge).n) (sym c.leaf.ensures)
    (head_level g.w c.requires.1.1.0
    (g.M.QueuedMesh.seen c.asking.mesh) c.asking.invariant.asked.settled c.first-head.result
    c.first-head.ensures.head
    (g.G.Gauge.priorities c.asking.gauge) (c.asking.invariant.priorities ∙ c.requires.1.1.1.0))

pub ask-requires-clause-at : goal.ask-requires-clause-at
ask-requires-clause-at g c =
    subst (λ (t : Located). g.M.QueuedMesh.tri_at c.asking.mesh t.slot.0 ≡ t.tri)
    (sym c.leaf.ensures) c.first-head.ensures.at

pub ask-requires-clause-entry : goal.ask-requires-clause-entry
ask-requires-clause-entry g c =
    let seen = g.M.QueuedMesh.seen c.asking.mesh in
    subst (λ (t : Located). IsEntry seen.set.n (among seen.set.members) t.tri) (sym c.leaf.ensures)
    (head_entry g.w c.requires.1.1.0 seen c.asking.invariant.asked.settled c.first-head.result
    c.first-head.ensures.head)

pub ask-requires-clause-unknown : goal.ask-requires-clause-unknown
ask-requires-clause-unknown g c =
    subst (λ (t : Located). (g.M.QueuedMesh.seen c.asking.mesh).known t.tri ≡ false) (sym c.leaf.ensures)
    (unsure (g.M.QueuedMesh.seen c.asking.mesh) c.first-head.result.rank.tri
    (sym c.first-head.ensures.head.marked ∙ c.if-head.false))

pub asking-init : goal.asking-init
asking-init g c = record {
  priorities = refl;
  readings = refl;
  log = refl;
  asked =
      asked_none g.w (g.M.QueuedMesh.seen c.args.mesh.now) (g.G.Gauge.count c.args.gauge.now) c.requires.1.1.1.1.0;
}

pub asking-smaller : goal.asking-smaller
asking-smaller g c =
    let before = g.M.QueuedMesh.seen c.asking.mesh in
    told_less before (g.M.QueuedMesh.seen c.ask.new.mesh)
    (record { p = (g.G.Gauge.priorities c.asking.gauge).of c.leaf.result.tri; tri = c.leaf.result.tri })
    c.first-head.result.rank.tri c.ask.ensures.known (ap (λ (t : Located). t.tri) c.leaf.ensures)
    (head_entry g.w c.requires.1.1.0 before c.asking.invariant.asked.settled c.first-head.result
    c.first-head.ensures.head)
    (unsure before c.first-head.result.rank.tri (sym c.first-head.ensures.head.marked ∙ c.if-head.false))

pub asking-preserved : goal.asking-preserved
asking-preserved g c =
    let before = g.M.QueuedMesh.seen c.asking.mesh in
    let after = g.M.QueuedMesh.seen c.ask.new.mesh in
    let more = g.G.Gauge.count c.ask.new.gauge in
    let rank : Rank = record { p = (g.G.Gauge.priorities c.asking.gauge).of c.leaf.result.tri; tri = c.leaf.result.tri }
    in
    let value = ap (λ (z : Priorities). z.of c.leaf.result.tri) (c.asking.invariant.priorities ∙ c.requires.1.1.1.0) in
    let few = subst (λ (z : PoolSet). leaf_count g.w.n z.members ≤ g.w.budget)
    (sym c.asking.invariant.asked.set) c.requires.1.1.1.1.1 in
    record {
      priorities = c.ask.ensures.priorities ∙ c.asking.invariant.priorities;
      readings = c.ask.ensures.readings ∙ c.asking.invariant.readings;
      log = c.ask.ensures.log ∙ c.asking.invariant.log;
      asked = told_only g.w (g.M.QueuedMesh.seen c.args.mesh.now) before after rank
          (g.G.Gauge.count c.args.gauge.now) (g.G.Gauge.count c.asking.gauge) more
          c.asking.invariant.asked c.ask.ensures.known value c.ask.ensures.rises
          (λ evaluations added removed charged. charged_asked g.w before after rank c.first-head.result.rank.tri
          c.ask.ensures.known (ap (λ (t : Located). t.tri) c.leaf.ensures)
          evaluations added removed (g.G.Gauge.count c.asking.gauge) more c.ask.ensures.most charged
          (head_may g.w c.requires.1.1.0 before c.asking.invariant.asked.settled c.first-head.result
          c.first-head.ensures.head
          few c.if-head.false c.if-head-eq0.false evaluations added removed (g.G.Gauge.count c.asking.gauge) charged));
    }
