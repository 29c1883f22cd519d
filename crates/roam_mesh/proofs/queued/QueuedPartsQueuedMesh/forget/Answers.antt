use Rattle.std.proofs.Common.{◌≡◌, [], sym, subst, ap}
use Rattle.mesh_laws.specs.Slots.{IsPool}
use Rattle.triangle_pool.specs.Slots.{PoolState}
use Rattle.deferred_loop.specs.Seen.{IsForgotten}
use Rattle.roam_mesh.specs.Parts.{QueuedState, PartsState, IsParts, seen_parts}
use Rattle.roam_mesh.specs.Change.{forgotten}
use Rattle.roam_mesh.proofs.HeadLemmas.{settled_fresh}
use Rattle.roam_mesh.proofs.ToldLemmas.{HasForgotten, forgotten_start, forgotten_parts, forgotten_has, forgotten_then}
use Rattle.roam_mesh.proofs.ToldLemmas.{forgotten_seen}
use Rattle.roam_mesh.proofs.queued.QueuedPartsQueuedMesh.forget.Goals as goal

pub loop-self-init : goal.loop-self-init
loop-self-init c =
    let is : IsParts c.args.self.now.parts =
    subst IsParts (ap (λ (z : QueuedState). z.parts) c.self.view_is) c.self.invariant in
    let none : c.args.self.now.parts.fresh ≡ [] = settled_fresh c.args.self.now.parts c.requires.settled in
    let start = subst (λ (z : PartsState). HasForgotten c.args.self.now.parts z)
    (sym (ap (λ (z : QueuedState). z.parts) c.self.view_is)) (forgotten_start c.args.self.now.parts is none) in
    (start, ap (λ (z : QueuedState). z.log) c.self.view_is)

pub loop-self-preserved : goal.loop-self-preserved
loop-self-preserved c =
    let is : IsParts c.args.self.now.parts =
    subst IsParts (ap (λ (z : QueuedState). z.parts) c.self.view_is) c.self.invariant in
    let kept : HasForgotten c.args.self.now.parts c.loop-self.self-inside.parts = c.loop-self.invariant.0 in
    let pool : IsPool c.loop-self.self-inside.parts.pool.n c.loop-self.self-inside.parts.pool.pairs =
    subst (λ (z : PoolState). IsPool z.n z.pairs) (sym kept.pool) is.pool in
    let step = c.forget_last.ensures.some c.loop-self-test.true in
    let has = forgotten_has c.loop-self.self-inside.parts step.0 step.1 c.forget_last.ensures.whole pool
    kept.placed kept.near step.2 in
    let then = subst (λ (z : PartsState). HasForgotten c.args.self.now.parts z) (sym step.3)
    (forgotten_then c.args.self.now.parts c.loop-self.self-inside.parts
    (forgotten c.loop-self.self-inside.parts step.0 step.1) kept has.0) in
    (then, c.loop-self.invariant.1)

pub invariant_of-self : goal.invariant_of-self
invariant_of-self c =
    let is : IsParts c.args.self.now.parts =
    subst IsParts (ap (λ (z : QueuedState). z.parts) c.self.view_is) c.self.invariant in
    let none : c.args.self.now.parts.fresh ≡ [] = settled_fresh c.args.self.now.parts c.requires.settled in
    let end = c.forget_last.ensures.none c.loop-self-test.false in
    subst IsParts (sym end.1)
    (forgotten_parts c.args.self.now.parts c.loop-self.self-inside.parts is none c.loop-self.invariant.0)

pub returns-clause-forgotten : goal.returns-clause-forgotten
returns-clause-forgotten c =
    let none : c.args.self.now.parts.fresh ≡ [] = settled_fresh c.args.self.now.parts c.requires.settled in
    let end = c.forget_last.ensures.none c.loop-self-test.false in
    subst (λ (z : PartsState). IsForgotten (seen_parts c.args.self.now.parts) (seen_parts z)) (sym end.1)
    (forgotten_seen c.args.self.now.parts c.loop-self.self-inside.parts c.forget_last.ensures.whole none
    c.loop-self.invariant.0 end.0)
