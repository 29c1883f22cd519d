use Rattle.merge_queue.proofs.TurnedLemmas.{IsEmpty-ranks_of, IsEmpty-from_ranks_of, IsLastRank-least}
use Rattle.merge_queue.proofs.queue.MergeQueue.last.Goals as goal

pub returns-in-Some-clause-empty : goal.returns-in-Some-clause-empty
returns-in-Some-clause-empty c =
    let is = c.in-Some.ensures.empty in
    rw (← c.self.view_is) (
      λ e. IsEmpty-ranks_of c.self.inside.heap (is.0 e),
      λ empty. is.1 (IsEmpty-from_ranks_of c.self.inside.heap empty),
    )

pub returns-in-Some-clause-last : goal.returns-in-Some-clause-last
returns-in-Some-clause-last c =
    rw (← c.self.view_is) (IsLastRank-least c.rank_order_laws.ensures.not_less c.self.inside.heap c.in-Some.slot
    c.in-Some.key c.in-Some.ensures.least)

pub returns-in-None-clause-empty : goal.returns-in-None-clause-empty
returns-in-None-clause-empty c =
    let is = c.in-None.ensures.empty in
    rw (← c.self.view_is) (
      λ e. IsEmpty-ranks_of c.self.inside.heap (is.0 e),
      λ empty. is.1 (IsEmpty-from_ranks_of c.self.inside.heap empty),
    )
