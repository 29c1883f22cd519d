-- The children of a member are triangles of the grid whose parent is split.
use Rattle.std.proofs.Common.{ℕ, ◌*◌, ◌≤◌, ◌⊎◌, IsTrue, subst, arith}
use Rattle.mesh_defs.specs.Triangle.{level_of}
use Rattle.mesh_laws.specs.Sweep.{is_flagged}
use Rattle.fit_mesh.specs.Limit.{error_within}
use Rattle.fit_mesh.proofs.LimitLemmas.{limit-finest}
use Rattle.fit_mesh.proofs.PairLemmas.{all-split}
use Rattle.fit_mesh.proofs.PendingLemmas.{child-address}
use Rattle.fit_mesh.proofs.settle.ask_pair.Goals as goal

pub ask-requires-clause-address : goal.ask-requires-clause-address
ask-requires-clause-address c =
    let is = c.left.ensures.value in let low = c.requires.splittable.low in
    child-address c.args.grid.now.n c.args.t c.left.result c.requires.splittable (omega arith) (omega arith)

pub ask-requires-2-clause-address : goal.ask-requires-2-clause-address
ask-requires-2-clause-address c =
    let is = c.right.ensures.value in let low = c.requires.splittable.low in
    child-address c.args.grid.now.n c.args.t c.right.result c.requires.splittable (omega arith) (omega arith)

pub ask-requires-2-clause-log : goal.ask-requires-2-clause-log
ask-requires-2-clause-log c =
    (c.requires.log.0, c.ask.ensures.log c.requires.log.0 c.requires.log.1)

pub returns-clause-least : goal.returns-clause-least
returns-clause-least c other closed inside asked =
    let low = c.requires.splittable.low in
    let left = c.left.ensures.value in
    let right = c.right.ensures.value in
    c.ask-2.ensures.least other closed
    (c.ask.ensures.least other closed inside (asked c.left.result (omega arith) (omega arith)))
    (asked c.right.result (omega arith) (omega arith))

pub returns-then-not-has_open_child-clause-settled : goal.returns-then-not-has_open_child-clause-settled
returns-then-not-has_open_child-clause-settled c a low half above =
    let n : ℕ = c.args.grid.now.n in
    all-split n (error_within n c.args.grid.now.heights c.args.limit) (is_flagged c.args.flags.now) c.args.t
    (limit-finest n c.args.grid.now.heights c.args.limit) c.requires.splittable
    (λ b few two. subst (λ k. IsTrue (is_flagged c.args.flags.now b) ⊎ (2 * k ≤ level_of b)) c.n.ensures.value
    (c.has_open_child.ensures.none c.if-not-has_open_child.true b few two)) a low half (omega arith)

pub returns-clause-log : goal.returns-clause-log
returns-clause-log c before first = c.ask-2.ensures.log before (c.ask.ensures.log before first)
