use Rattle.std.proofs.Common.{rules, false, None, length, refl, sym, ap, ap₂, ◌∙◌}
use Rattle.std.proofs.lemmas.List.{length-replicate}
use Rattle.slot_heap.specs.Keys.{key_of}
use Rattle.list_laws.proofs.ZipLemmas.{zip2-replicate}
use Rattle.split_queue.specs.Present.{if_present, present_ranks}
use Rattle.split_queue.proofs.PresentLemmas.{get_or-none}
use Rattle.split_queue.proofs.queue.SplitQueue.new.Goals as goal

pub returns : goal.returns
returns c =
    let marks = c.in_ok-vec.ensures.items_if_clones_equal (λ y h. h) in
    ap₂ present_ranks c.in_ok-new.ensures marks ∙ zip2-replicate if_present c.args.slots false None

pub invariant_of-result : goal.invariant_of-result
invariant_of-result c =
    let n = c.args.slots in
    let marks = c.in_ok-vec.ensures.items_if_clones_equal (λ y h. h) in
    let none = ap₂ present_ranks c.in_ok-new.ensures marks ∙ zip2-replicate if_present n false None in (
      ap length marks ∙ length-replicate n false ∙ sym (ap length c.in_ok-new.ensures ∙ length-replicate n None),
      (λ e slot. ap (λ l. key_of l slot) none ∙ get_or-none n slot.0, λ e. refl),
      search rules,
    )
