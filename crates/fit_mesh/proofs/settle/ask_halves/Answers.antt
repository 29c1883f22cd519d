-- The halves are triangles of the grid, and have no parent.
use Rattle.std.proofs.Common.{ℕ, ◌*◌, arith}
use Rattle.bintree_laws.proofs.LevelLemmas.{level_of-root}
use Rattle.mesh_laws.proofs.DescentLemmas.{IsAddress-down, IsDown-2, IsDown-3}
use Rattle.fit_mesh.proofs.settle.ask_halves.Goals as goal

pub corners_in-lower-requires : goal.corners_in-lower-requires
corners_in-lower-requires c = record { level = let l = level_of-root 2 (omega arith) (omega arith) in omega arith }

pub corners_in-upper-requires : goal.corners_in-upper-requires
corners_in-upper-requires c = record { level = let l = level_of-root 3 (omega arith) (omega arith) in omega arith }

pub ask-requires-clause-address : goal.ask-requires-clause-address
ask-requires-clause-address c = let n : ℕ = c.args.grid.now.n in IsAddress-down n (2 * n) 2 (IsDown-2 n)

pub ask-requires-2-clause-address : goal.ask-requires-2-clause-address
ask-requires-2-clause-address c = let n : ℕ = c.args.grid.now.n in IsAddress-down n (2 * n) 3 (IsDown-3 n)

pub ask-requires-2-clause-log : goal.ask-requires-2-clause-log
ask-requires-2-clause-log c = (c.requires.log.0, c.ask.ensures.log c.requires.log.0 c.requires.log.1)

pub returns-clause-log : goal.returns-clause-log
returns-clause-log c before first = c.ask-2.ensures.log before (c.ask.ensures.log before first)

pub returns-clause-least : goal.returns-clause-least
returns-clause-least c other closed inside lower upper =
    c.ask-2.ensures.least other closed (c.ask.ensures.least other closed inside lower) upper

pub returns-clause-lower : goal.returns-clause-lower
returns-clause-lower c above = c.ask-2.ensures.more 2 (c.ask.ensures.settled above)
