use Rattle.std.proofs.Common.{length, arith, refl, sym, ap, subst, ◌∙◌}
use Rattle.triangle_pool.specs.Slots.{PoolState}
use Rattle.mesh_defs.specs.ClosedSet.{among}
use Rattle.deferred_loop.specs.Seen.{IsQuiet, IsBegun}
use Rattle.deferred_loop.specs.Log.{emptied}
use Rattle.roam_mesh.specs.Parts.{QueuedState, PartsState, seen_parts}
use Rattle.roam_mesh.proofs.BeginLemmas.{IsBeginning, beginning_start, beginning_step, beginning_more, beginning_end}
use Rattle.roam_mesh.proofs.BeginLemmas.{due_entry}
use Rattle.roam_mesh.proofs.queued.QueuedPartsQueuedMesh.begin.Goals as goal

pub loop-self-init : goal.loop-self-init
loop-self-init c =
    let quiet = subst (λ (p : PartsState). IsQuiet (seen_parts p))
    (sym (ap (λ (z : QueuedState). z.parts) c.self.view_is)) c.requires.quiet in
    let begun = subst (λ (start : PartsState). IsBeginning start c.self.inside.parts c.args.odometer)
    (ap (λ (z : QueuedState). z.parts) c.self.view_is)
    (beginning_start c.self.inside.parts c.args.odometer c.self.invariant quiet) in
    (begun, c.clear.ensures ∙ ap (λ (z : QueuedState). emptied z.log) c.self.view_is)

pub list_due-requires : goal.list_due-requires
list_due-requires c = record {
  entry =
      λ s some. due_entry c.loop-self.self-inside.parts (among c.loop-self.self-inside.parts.fresh) s
      c.loop-self.invariant.0.parts.placed some;
}

pub loop-self-smaller : goal.loop-self-smaller
loop-self-smaller c =
    let now = c.loop-self.self-inside.parts in
    let due = c.loop-self-test.ensures.some refl in
    let more = beginning_more c.args.self.now.parts now c.args.odometer due.0 c.list_due.ensures.whole due.1
    c.loop-self.invariant.0 in
    let long = ap (λ (p : PartsState). length p.fresh) due.2 ∙ more.0 in
    let pairs = ap (λ (p : PartsState). length p.pool.pairs) due.2 ∙ ap (λ (p : PoolState). length p.pairs) more.2 in
    omega (arith, long, pairs, more.1)

pub loop-self-preserved : goal.loop-self-preserved
loop-self-preserved c =
    let due = c.loop-self-test.ensures.some refl in
    let begun = subst (λ p. IsBeginning c.args.self.now.parts p c.args.odometer) (sym due.2)
    (beginning_step c.args.self.now.parts c.loop-self.self-inside.parts c.args.odometer due.0 c.list_due.ensures.whole
    due.1 c.loop-self.invariant.0) in
    (begun, c.loop-self.invariant.1)

pub returns-clause-begun : goal.returns-clause-begun
returns-clause-begun c =
    let none = c.loop-self-test.ensures.none refl in
    subst (λ (p : PartsState). IsBegun (seen_parts c.args.self.now.parts) (seen_parts p) c.args.odometer) (sym none.1)
    (beginning_end c.args.self.now.parts c.loop-self.self-inside.parts c.args.odometer c.list_due.ensures.whole none.0
    c.requires.quiet c.loop-self.invariant.0)
