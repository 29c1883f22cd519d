-- The lesser weight of the ends of the base goes, twice, to the midpoint.
use Rattle.std.proofs.Common.{arith}
use Rattle.address_flags.proofs.WeightedLemmas.{weighted-left, weighted-right}
use Rattle.address_flags.proofs.place.Place.child.Goals as goal

pub returns-then-self-clause-weighted : goal.returns-then-self-clause-weighted
returns-then-self-clause-weighted c n side r h off =
    weighted-left n side r c.args.self h _ c.if-self.true off c.left.ensures.value c.left-then-self.ensures.apex
    c.left-then-self.ensures.v0 c.left-then-self.ensures.v1

pub returns-else-self-clause-weighted : goal.returns-else-self-clause-weighted
returns-else-self-clause-weighted c n side r h off =
    let less = c.if-self.false in
    weighted-right n side r c.args.self h _ (omega arith) off c.right.ensures.value c.right-else-self.ensures.apex
    c.right-else-self.ensures.v0 c.right-else-self.ensures.v1
