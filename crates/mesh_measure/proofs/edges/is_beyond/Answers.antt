-- To the right, and to the left.
use Rattle.std.proofs.Common.{inl, inr, arith}
use Rattle.std.proofs.lemmas.Bool.{ltb-true, ltb-false}
use Rattle.mesh_measure.proofs.EdgeLemmas.{left-level, left-level_inner}
use Rattle.mesh_measure.proofs.edges.is_beyond.Goals as goal

pub returns-then-p-q-clause-outer : goal.returns-then-p-q-clause-outer
returns-then-p-q-clause-outer c is x =
    left-level c.args.p c.args.q x c.args.y c.requires.level
    (inl (c.if-p-q.true, ltb-true c.args.y c.args.p.y is))

pub returns-then-p-q-clause-inner : goal.returns-then-p-q-clause-inner
returns-then-p-q-clause-inner c lacks x =
    let right = c.if-p-q.true in
    left-level_inner c.args.p c.args.q x c.args.y c.requires.level
    (λ _. ltb-false c.args.y c.args.p.y lacks) (λ left. absurd (omega arith))

pub returns-then-q-p-clause-outer : goal.returns-then-q-p-clause-outer
returns-then-q-p-clause-outer c is x =
    left-level c.args.p c.args.q x c.args.y c.requires.level
    (inr (c.if-q-p.true, ltb-true c.args.p.y c.args.y is))

pub returns-then-q-p-clause-inner : goal.returns-then-q-p-clause-inner
returns-then-q-p-clause-inner c lacks x =
    let left = c.if-q-p.true in
    left-level_inner c.args.p c.args.q x c.args.y c.requires.level
    (λ right. absurd (omega arith)) (λ _. ltb-false c.args.p.y c.args.y lacks)
