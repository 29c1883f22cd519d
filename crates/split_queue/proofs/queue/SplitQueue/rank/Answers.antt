use Rattle.std.proofs.Common.{None, get_or, sym, ap, ◌∙◌}
use Rattle.split_queue.proofs.PresentLemmas.{no_entry}
use Rattle.split_queue.proofs.queue.SplitQueue.rank.Goals as goal

pub returns-in_err-rank : goal.returns-in_err-rank
returns-in_err-rank c =
    let none = no_entry c.self.inside.heap c.self.inside.present.items c.self.invariant.0 c.args.slot
    (sym c.in_err-rank.ensures) in
    c.from_residual.ensures ∙ sym none ∙ ap (λ l. get_or l c.args.slot.0 None) c.self.view_is
