-- Each three triangles in a row of a strip are three leaves of one mesh that share edges, and so turn.
use Rattle.std.proofs.Common.{◌+◌, ◌-◌, length, drop, arith, length-drop}
use Rattle.strip_order.proofs.PlaceLemmas.{IsStrip-order}
use Rattle.mesh_laws.proofs.StripTurnLemmas.{length-turns}
use Rattle.strip_order.proofs.LoopLemmas.{HasTurns-none}
use Rattle.strip_order.proofs.TripleLemmas.{IsTriple-at, HasTurns-left_at, HasTurns-right_at, turns-few}
use Rattle.strip_order.proofs.turning.turns.Goals as goal

pub overflow_step-at : goal.overflow_step-at
overflow_step-at c =
    let s = IsStrip-order c.args.n c.requires.strip.0 c.args.order.now c.requires.in_grid.1
    c.requires.strip.1 c.requires.strip.2 in
    let two = s.two in omega arith

pub loop-at-init : goal.loop-at-init
loop-at-init c =
    let s = IsStrip-order c.args.n c.requires.strip.0 c.args.order.now c.requires.in_grid.1
    c.requires.strip.1 c.requires.strip.2 in
    let two = s.two in
    HasTurns-none c.args.n c.args.order.now (length c.args.order.now - 1 - 1) 0 (omega arith)

pub turn-requires-clause-levels : goal.turn-requires-clause-levels
turn-requires-clause-levels c =
    let s = IsStrip-order c.args.n c.requires.strip.0 c.args.order.now c.requires.in_grid.1
    c.requires.strip.1 c.requires.strip.2 in
    let t = IsTriple-at c.args.n c.requires.strip.0 c.args.order.now s (c.loop-at.at - 1 - 1) (c.loop-at.at - 1)
    (c.loop-at.at - 1 + 1) c.index-order-at.result
    c.index-order-at-in-loop-at.result c.index-order-at-in-loop-at-2.result (omega arith) (omega arith) (omega arith)
    c.index-order-at.is c.index-order-at-in-loop-at.is c.index-order-at-in-loop-at-2.is in
    (t.level_first, (t.level_second, t.level_third))

pub turn-requires-clause-mesh : goal.turn-requires-clause-mesh
turn-requires-clause-mesh c =
    let s = IsStrip-order c.args.n c.requires.strip.0 c.args.order.now c.requires.in_grid.1
    c.requires.strip.1 c.requires.strip.2 in
    let t = IsTriple-at c.args.n c.requires.strip.0 c.args.order.now s (c.loop-at.at - 1 - 1) (c.loop-at.at - 1)
    (c.loop-at.at - 1 + 1) c.index-order-at.result
    c.index-order-at-in-loop-at.result c.index-order-at-in-loop-at-2.result (omega arith) (omega arith) (omega arith)
    c.index-order-at.is c.index-order-at-in-loop-at.is c.index-order-at-in-loop-at-2.is in
    (c.requires.strip.0, c.requires.strip.1, (t.listed_first, (t.listed_second, t.listed_third)))

pub turn-requires-clause-other : goal.turn-requires-clause-other
turn-requires-clause-other c =
    let s = IsStrip-order c.args.n c.requires.strip.0 c.args.order.now c.requires.in_grid.1
    c.requires.strip.1 c.requires.strip.2 in
    let t = IsTriple-at c.args.n c.requires.strip.0 c.args.order.now s (c.loop-at.at - 1 - 1) (c.loop-at.at - 1)
    (c.loop-at.at - 1 + 1) c.index-order-at.result
    c.index-order-at-in-loop-at.result c.index-order-at-in-loop-at-2.result (omega arith) (omega arith) (omega arith)
    c.index-order-at.is c.index-order-at-in-loop-at.is c.index-order-at-in-loop-at-2.is in
    t.other

pub turn-requires-clause-entered : goal.turn-requires-clause-entered
turn-requires-clause-entered c =
    let s = IsStrip-order c.args.n c.requires.strip.0 c.args.order.now c.requires.in_grid.1
    c.requires.strip.1 c.requires.strip.2 in
    let t = IsTriple-at c.args.n c.requires.strip.0 c.args.order.now s (c.loop-at.at - 1 - 1) (c.loop-at.at - 1)
    (c.loop-at.at - 1 + 1) c.index-order-at.result
    c.index-order-at-in-loop-at.result c.index-order-at-in-loop-at-2.result (omega arith) (omega arith) (omega arith)
    c.index-order-at.is c.index-order-at-in-loop-at.is c.index-order-at-in-loop-at-2.is in
    t.entered

pub turn-requires-clause-left : goal.turn-requires-clause-left
turn-requires-clause-left c =
    let s = IsStrip-order c.args.n c.requires.strip.0 c.args.order.now c.requires.in_grid.1
    c.requires.strip.1 c.requires.strip.2 in
    let t = IsTriple-at c.args.n c.requires.strip.0 c.args.order.now s (c.loop-at.at - 1 - 1) (c.loop-at.at - 1)
    (c.loop-at.at - 1 + 1) c.index-order-at.result
    c.index-order-at-in-loop-at.result c.index-order-at-in-loop-at-2.result (omega arith) (omega arith) (omega arith)
    c.index-order-at.is c.index-order-at-in-loop-at.is c.index-order-at-in-loop-at-2.is in
    t.out

pub overflow_add-left : goal.overflow_add-left
overflow_add-left c =
    let s = IsStrip-order c.args.n c.requires.strip.0 c.args.order.now c.requires.in_grid.1
    c.requires.strip.1 c.requires.strip.2 in
    let few =
    turns-few c.args.n c.args.order.now (c.loop-at.at - 1) c.loop-at.left c.loop-at.right c.loop-at.invariant in
    let size = s.few in
    omega arith

pub overflow_add-right : goal.overflow_add-right
overflow_add-right c =
    let s = IsStrip-order c.args.n c.requires.strip.0 c.args.order.now c.requires.in_grid.1
    c.requires.strip.1 c.requires.strip.2 in
    let few =
    turns-few c.args.n c.args.order.now (c.loop-at.at - 1) c.loop-at.left c.loop-at.right c.loop-at.invariant in
    let size = s.few in
    omega arith

pub loop-at-preserved-in-Left : goal.loop-at-preserved-in-Left
loop-at-preserved-in-Left c =
    let s = IsStrip-order c.args.n c.requires.strip.0 c.args.order.now c.requires.in_grid.1
    c.requires.strip.1 c.requires.strip.2 in
    let t = IsTriple-at c.args.n c.requires.strip.0 c.args.order.now s (c.loop-at.at - 1 - 1) (c.loop-at.at - 1)
    (c.loop-at.at - 1 + 1) c.index-order-at.result
    c.index-order-at-in-loop-at.result c.index-order-at-in-loop-at-2.result (omega arith) (omega arith) (omega arith)
    c.index-order-at.is c.index-order-at-in-loop-at.is c.index-order-at-in-loop-at-2.is in
    HasTurns-left_at c.args.n c.requires.strip.0 c.args.order.now (c.loop-at.at - 1 - 1)
    (c.loop-at.at - 1) c.index-order-at.result
    c.index-order-at-in-loop-at.result c.index-order-at-in-loop-at-2.result c.loop-at.left
    c.loop-at.right t (omega arith)
    (c.turn.ensures.left c.in-Left.is) c.loop-at.invariant

pub loop-at-preserved : goal.loop-at-preserved
loop-at-preserved c =
    let s = IsStrip-order c.args.n c.requires.strip.0 c.args.order.now c.requires.in_grid.1
    c.requires.strip.1 c.requires.strip.2 in
    let t = IsTriple-at c.args.n c.requires.strip.0 c.args.order.now s (c.loop-at.at - 1 - 1) (c.loop-at.at - 1)
    (c.loop-at.at - 1 + 1) c.index-order-at.result
    c.index-order-at-in-loop-at.result c.index-order-at-in-loop-at-2.result (omega arith) (omega arith) (omega arith)
    c.index-order-at.is c.index-order-at-in-loop-at.is c.index-order-at-in-loop-at-2.is in
    HasTurns-right_at c.args.n c.requires.strip.0 c.args.order.now (c.loop-at.at - 1 - 1)
    (c.loop-at.at - 1) c.index-order-at.result
    c.index-order-at-in-loop-at.result c.index-order-at-in-loop-at-2.result c.loop-at.left
    c.loop-at.right t (omega arith)
    (c.turn.ensures.right c.in-Right.is) c.loop-at.invariant

pub returns-clause-all : goal.returns-clause-all
returns-clause-all c =
    let all = length-turns c.args.n
    (drop (c.loop-at.at - 1) c.args.order.now) c.loop-at.left c.loop-at.right c.loop-at.invariant in
    let rest = length-drop (c.loop-at.at - 1) c.args.order.now in
    omega arith
