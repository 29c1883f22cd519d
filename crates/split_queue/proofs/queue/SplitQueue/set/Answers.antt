use Rattle.std.proofs.Common.{◌≡◌, true, Some, length, slice_set, sym, ap, subst, ◌∙◌, arith}
use Rattle.std.proofs.lemmas.List.{length-set}
use Rattle.list_laws.proofs.ZipLemmas.{zip2-set}
use Rattle.split_queue.specs.Present.{if_present, present_ranks}
use Rattle.split_queue.proofs.PresentLemmas.{length-present_ranks}
use Rattle.split_queue.proofs.queue.SplitQueue.set.Goals as goal
use Rattle.split_queue.proofs.queue.SplitQueue.set.Goals.{After-deref}

pub set-requires : goal.set-requires
set-requires c =
    let long = length-present_ranks c.self.inside.heap c.self.inside.present.items c.self.invariant.0 in
    let seen = ap length c.self.view_is in
    let below = c.requires in
    omega (arith, long, seen)

pub index_mut-requires : goal.index_mut-requires
index_mut-requires c =
    let same = c.self.invariant.0 in
    let long = length-present_ranks c.self.inside.heap c.self.inside.present.items same in
    let seen = ap length c.self.view_is in
    let below = c.requires in
    omega (arith, same, long, seen, c.self.inside.present.ok.0)

pub settle-self-inside-requires : goal.settle-self-inside-requires
settle-self-inside-requires c =
    let i = c.args.slot.0 in
    ap length c.deref.ensures.value ∙ length-set c.self.inside.present.items i true ∙ c.self.invariant.0
    ∙ sym (ap length c.set.ensures ∙ length-set c.self.inside.heap i (Some c.args.rank))

pub invariant_of-self : goal.invariant_of-self
invariant_of-self c = rw (← c.deref.ensures.value) (
  settle-self-inside-requires (goal.at.invariant_of-self c).After-deref ∙ sym c.settle-self-inside.ensures.count,
  c.settle-self-inside.ensures.empty,
  c.settle-self-inside.ensures.first,
)

pub returns : goal.returns
returns c =
    let keys = c.self.inside.heap in
    let marks = c.self.inside.present.items in
    let i = c.args.slot.0 in
    subst (λ l. present_ranks c.settle-self-inside.new.heap l ≡ present_ranks c.set.new.self l) c.deref.ensures.value
    c.settle-self-inside.ensures.same
    ∙ ap (λ l. present_ranks l (slice_set marks i true)) c.set.ensures
    ∙ zip2-set if_present marks keys i true (Some c.args.rank)
    ∙ ap (λ l. slice_set l i (Some c.args.rank)) c.self.view_is
