use Rattle.std.proofs.Common.{ap, arith}
use Rattle.triangle_pool.specs.Answer.{numbers}
use Rattle.force_split.specs.Chain.{chain_size}
use Rattle.force_split.proofs.CarryLemmas.{size_small}
use Rattle.force_split.proofs.carrying.carry_out.Goals as goal

pub split_all-requires-clause-count : goal.split_all-requires-clause-count
split_all-requires-clause-count c =
    let small = size_small c.args.pool.now.n c.args.pool.now.pairs (numbers c.args.chain.now.slots.items)
    c.requires.chain c.requires.coarse in
    let same = ap (λ slots. chain_size c.args.pool.now.pairs (numbers slots)) c.deref.ensures.0 in
    let count = c.requires.count in omega arith
