-- The children of a triangle two levels from the bottom are finest.
use Rattle.std.proofs.Common.{inr, arith}
use Rattle.fit_mesh.proofs.PairLemmas.{child-level}
use Rattle.fit_mesh.proofs.pair.has_open_child.Goals as goal

pub returns-then-level-n : goal.returns-then-level-n
returns-then-level-n c = record {
  none = λ _ a low half. inr (
      let below = child-level c.args.t a c.requires.splittable.low half in
      let level = c.level.ensures.value in
      let deep = c.if-level-n.true in
      omega arith);
}
