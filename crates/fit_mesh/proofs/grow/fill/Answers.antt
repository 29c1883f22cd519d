-- A leaf is a half of the square, or a child of what is split.
use Rattle.std.proofs.Common.{ℕ, ◌*◌, arith}
use Rattle.bintree_laws.proofs.LevelLemmas.{level_of-root}
use Rattle.mesh_laws.proofs.DescentLemmas.{IsAddress-down, IsDown-2, IsDown-3}
use Rattle.fit_laws.specs.Error.{error_of}
use Rattle.fit_mesh.proofs.GrownLemmas.{start-pending}
use Rattle.fit_mesh.proofs.grow.fill.Goals as goal

pub corners_in-requires : goal.corners_in-requires
corners_in-requires c = record { level = let l = level_of-root 2 (omega arith) (omega arith) in omega arith }

pub corners_in-requires-2 : goal.corners_in-requires-2
corners_in-requires-2 c = record { level = let l = level_of-root 3 (omega arith) (omega arith) in omega arith }

pub push_unsplit-requires-clause-level : goal.push_unsplit-requires-clause-level
push_unsplit-requires-clause-level c = let l = level_of-root 2 (omega arith) (omega arith) in omega arith

pub push_unsplit-requires-2-clause-level : goal.push_unsplit-requires-2-clause-level
push_unsplit-requires-2-clause-level c = let l = level_of-root 3 (omega arith) (omega arith) in omega arith

pub push_children-requires-clause-pending : goal.push_children-requires-clause-pending
push_children-requires-clause-pending c =
    let n : ℕ = c.args.grid.now.n in
    start-pending n (error_of n c.args.grid.now.heights) c.args.flags.now c.args.log.now c.requires.grown _ _ _
    c.requires.empty (IsAddress-down n (2 * n) 2 (IsDown-2 n)) (IsAddress-down n (2 * n) 3 (IsDown-3 n))
    c.push_unsplit-2.ensures.ordered c.push_unsplit-2.ensures.kept c.push_unsplit.ensures.added
    c.push_unsplit-2.ensures.added c.push_unsplit.ensures.only c.push_unsplit-2.ensures.only
