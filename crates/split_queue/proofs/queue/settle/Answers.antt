use Rattle.std.proofs.Common.{rules, ◌∙◌, length, None, refl, sym, ap, true≢false}
use Rattle.std.proofs.lemmas.List.{length-set}
use Rattle.std.proofs.lemmas.Option.{none-some}
use Rattle.split_queue.specs.Present.{present_ranks}
use Rattle.split_queue.proofs.PresentLemmas.{no_entry, present_ranks-stale, IsFirstEntry-least}
use Rattle.split_queue.proofs.queue.settle.Goals as goal

pub returns-in_err-slot-clause-empty : goal.returns-in_err-slot-clause-empty
returns-in_err-slot-clause-empty c =
    let same = c.requires ∙ sym c.absent.invariant.0 in
    let none = c.in_err-slot.ensures.empty.0 refl in (
      λ e slot. no_entry c.absent.heap c.args.present.now same slot (none slot),
      λ e. search rules,
    )

pub returns-then-present-slot-clause-first : goal.returns-then-present-slot-clause-first
returns-then-present-slot-clause-first c =
    IsFirstEntry-least c.absent.heap c.args.present.now (c.requires ∙ sym c.absent.invariant.0)
    c.rank_order_laws.ensures.not_less c.in_ok-slot.slot c.in_ok-slot.rank c.in_ok-slot.ensures.least
    c.if-present-slot.true

pub returns-then-present-slot-clause-empty : goal.returns-then-present-slot-clause-empty
returns-then-present-slot-clause-empty c = (
  λ e. absurd (true≢false e),
  λ empty. absurd (none-some c.in_ok-slot.rank (sym (empty c.in_ok-slot.slot)
      ∙ (returns-then-present-slot-clause-first c).0)),
)

pub absent-preserved : goal.absent-preserved
absent-preserved c =
    let keys = c.absent.heap in
    let present = c.args.present.now in
    let i = c.in_ok-slot.slot.0 in (
      ap length c.take.ensures.rest ∙ length-set keys i None ∙ c.absent.invariant.0,
      ap (λ l. present_ranks l present) c.take.ensures.rest
          ∙ present_ranks-stale keys present (c.requires ∙ sym c.absent.invariant.0) i c.if-present-slot.false
          ∙ c.absent.invariant.1,
    )
