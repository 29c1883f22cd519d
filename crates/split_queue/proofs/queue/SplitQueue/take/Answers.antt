use Rattle.std.proofs.Common.{◌≡◌, false, None, IsSome, length, get_or, slice_set, sym, ap, subst, ◌∙◌}
use Rattle.std.proofs.lemmas.List.{length-set}
use Rattle.list_laws.proofs.ZipLemmas.{zip2-set_left}
use Rattle.split_queue.specs.Present.{if_present, present_ranks}
use Rattle.split_queue.proofs.PresentLemmas.{rank-entry}
use Rattle.split_queue.proofs.queue.SplitQueue.take.Goals as goal
use Rattle.split_queue.proofs.queue.SplitQueue.take.Goals.{After-deref}

pub unwrap-rank-requires : goal.unwrap-rank-requires
unwrap-rank-requires c =
    let keys = c.self.inside.heap in
    let i = c.args.slot.0 in
    let some = subst (λ l. IsSome (get_or l i None)) (sym c.self.view_is) c.requires.present in
    subst IsSome (rank-entry keys c.self.inside.present.items c.self.invariant.0 i some ∙ sym c.key.ensures) some

pub settle-self-inside-requires : goal.settle-self-inside-requires
settle-self-inside-requires c =
    ap length c.deref.ensures.value ∙ length-set c.self.inside.present.items c.args.slot.0 false ∙ c.self.invariant.0

pub invariant_of-self : goal.invariant_of-self
invariant_of-self c = rw (← c.deref.ensures.value) (
  settle-self-inside-requires (goal.at.invariant_of-self c).After-deref ∙ sym c.settle-self-inside.ensures.count,
  c.settle-self-inside.ensures.empty,
  c.settle-self-inside.ensures.first,
)

pub returns-clause-rest : goal.returns-clause-rest
returns-clause-rest c =
    let keys = c.self.inside.heap in
    let marks = c.self.inside.present.items in
    let i = c.args.slot.0 in
    subst (λ l. present_ranks c.settle-self-inside.new.heap l ≡ present_ranks keys l) c.deref.ensures.value
    c.settle-self-inside.ensures.same
    ∙ zip2-set_left if_present marks keys i false None ∙ ap (λ l. slice_set l i None) c.self.view_is
