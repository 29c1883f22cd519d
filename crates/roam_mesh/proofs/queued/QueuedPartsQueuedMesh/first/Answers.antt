use Rattle.std.proofs.Common.{◌≡◌, ◌∙◌, ap, subst, slice_index_or, None, refl}
use Rattle.bintree_addr.specs.declared.slot.Slot.{Slot}
use Rattle.split_queue.specs.First.{IsFirstEntry}
use Rattle.roam_mesh.specs.Parts.{QueuedState, PartsState, IsWhole, IsParts}
use Rattle.roam_mesh.proofs.HeadLemmas.{split_head, head_at, split_some}
use Rattle.roam_mesh.proofs.queued.QueuedPartsQueuedMesh.first.Goals as goal

pub returns-in-Some-clause-head : goal.returns-in-Some-clause-head
returns-in-Some-clause-head c =
    let state = ap (λ z. z.parts) c.self-inside.view_is ∙ (ap (λ (z : QueuedState). z.parts) c.self.view_is) in
    let first = subst (λ l. IsFirstEntry l c.in-Some.s c.in-Some.rank)
    (ap (λ (z : PartsState). z.split) state) c.in-Some.ensures.first in
    let read = subst (λ l. c.index.result.now ≡ slice_index_or l c.in-Some.s.0 c.index.result.now)
    (ap (λ (z : PartsState). z.entries) state) c.index.ensures in
    split_head c.args.self.now.parts c.in-Some.s c.in-Some.rank c.index.result.now c.is_sure.result
    (subst IsWhole state c.self-inside.invariant.0)
    (subst IsParts (ap (λ (z : QueuedState). z.parts) c.self.view_is) c.self.invariant) c.requires.settled
    first read c.is_sure.ensures

pub returns-in-Some-clause-at : goal.returns-in-Some-clause-at
returns-in-Some-clause-at c =
    let state = ap (λ z. z.parts) c.self-inside.view_is ∙ (ap (λ (z : QueuedState). z.parts) c.self.view_is) in
    let first = subst (λ l. IsFirstEntry l c.in-Some.s c.in-Some.rank)
    (ap (λ (z : PartsState). z.split) state) c.in-Some.ensures.first in
    head_at c.args.self.now.parts c.in-Some.s c.in-Some.rank
    (subst IsParts (ap (λ (z : QueuedState). z.parts) c.self.view_is) c.self.invariant) first

pub returns-in-None-clause-head : goal.returns-in-None-clause-head
returns-in-None-clause-head c =
    let state = ap (λ z. z.parts) c.self-inside.view_is ∙ (ap (λ (z : QueuedState). z.parts) c.self.view_is) in
    let split = ap (λ (z : PartsState). z.split) state in
    let none =
    subst (λ l. (slot : Slot) → slice_index_or l slot.0 None ≡ None) split (c.in-None.ensures.empty.0 refl) in
    absurd (split_some c.args.self.now.parts
    (subst IsParts (ap (λ (z : QueuedState). z.parts) c.self.view_is) c.self.invariant) c.requires.settled none)

pub returns-in-None-clause-at : goal.returns-in-None-clause-at
returns-in-None-clause-at c =
    let state = ap (λ z. z.parts) c.self-inside.view_is ∙ (ap (λ (z : QueuedState). z.parts) c.self.view_is) in
    let split = ap (λ (z : PartsState). z.split) state in
    let none =
    subst (λ l. (slot : Slot) → slice_index_or l slot.0 None ≡ None) split (c.in-None.ensures.empty.0 refl) in
    absurd (split_some c.args.self.now.parts
    (subst IsParts (ap (λ (z : QueuedState). z.parts) c.self.view_is) c.self.invariant) c.requires.settled none)
