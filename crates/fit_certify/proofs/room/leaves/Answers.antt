-- What was listed is what is left.
use Rattle.std.proofs.Common.{◌∙◌, arith}
use Rattle.std.proofs.lemmas.List.{take-take, take-append-le}
use Rattle.fit_certify.proofs.room.leaves.Goals as goal

pub returns-clause-listed : goal.returns-clause-listed
returns-clause-listed c =
    let count = c.list_leaves-count.result in
    c.truncate.ensures.items
    ∙ take-take count c.in_ok-room.room.len _ (omega (arith, c.list_leaves-count.ensures.within, c.deref_mut.ensures.len))
    ∙ take-append-le count c.list_leaves-count.new.list _ c.list_leaves-count.ensures.within
    ∙ c.list_leaves-count.ensures.listed
