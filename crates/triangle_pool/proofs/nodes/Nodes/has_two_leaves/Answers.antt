use Rattle.std.proofs.lemmas.Bool.{eq-eqb, eqb-true}
use Rattle.mesh_laws.specs.Net.{nowhere}
use Rattle.triangle_pool.proofs.MergeLemmas.{two_leaves_read}
use Rattle.triangle_pool.proofs.nodes.Nodes.has_two_leaves.Goals as goal

pub returns-then-left : goal.returns-then-left
returns-then-left c =
    let read = two_leaves_read c.args.self.now.pairs c.args.s c.children-k.result c.children-left.result
    c.children-right.result c.requires.live c.children-k.ensures c.if-k.false c.children-left.ensures
    c.children-right.ensures in (
      (λ h. read.0 (c.if-left.true, eqb-true c.children-right.result nowhere h)),
      (λ h. eq-eqb c.children-right.result nowhere (read.1 h).1),
    )

pub returns-else-left : goal.returns-else-left
returns-else-left c =
    let read = two_leaves_read c.args.self.now.pairs c.args.s c.children-k.result c.children-left.result
    c.children-right.result c.requires.live c.children-k.ensures c.if-k.false c.children-left.ensures
    c.children-right.ensures in (
      (λ h. absurd (c.if-left.false (eqb-true c.children-left.result nowhere h))),
      (λ h. absurd (c.if-left.false (read.1 h).0)),
    )
