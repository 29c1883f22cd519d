-- Upright, to the right, to the left.
use Rattle.std.proofs.Common.{arith}
use Rattle.mesh_measure.proofs.EdgeLemmas.{left-up, left-up_right, left-up_left}
use Rattle.mesh_measure.proofs.edges.end_beside.Goals as goal

pub returns-then-p-q : goal.returns-then-p-q
returns-then-p-q c x =
    let same = c.if-p-q.true in
    let iff = left-up c.args.p c.args.q x c.args.y c.requires.up (omega arith) in
    (λ less. iff.0 (omega arith), λ t. let le = iff.1 t in omega arith)

pub returns-then-p-q-2 : goal.returns-then-p-q-2
returns-then-p-q-2 c x =
    let right = c.if-p-q-2.true in
    let value = c.saturating_sub.ensures in
    let iff = left-up_right c.args.p c.args.q x c.args.y c.requires.straight c.requires.up (omega arith) in
    (λ less. iff.0 (omega arith), λ t. let le = iff.1 t in omega arith)

pub returns-else-p-q-2 : goal.returns-else-p-q-2
returns-else-p-q-2 c x =
    let apart = c.if-p-q.false in
    let left = c.if-p-q-2.false in
    let value = c.saturating_sub-else-p-q-2.ensures in
    let iff = left-up_left c.args.p c.args.q x c.args.y c.requires.straight c.requires.up (omega arith) in
    (λ less. iff.0 (omega arith), λ t. let le = iff.1 t in omega arith)
