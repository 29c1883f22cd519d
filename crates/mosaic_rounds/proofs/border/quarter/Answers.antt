-- The halves of the square can be split.
use Rattle.std.proofs.Common.{arith}
use Rattle.bintree_laws.proofs.LevelLemmas.{level_of-root}
use Rattle.mosaic_rounds.proofs.border.quarter.Goals as goal

pub left-requires : goal.left-requires
left-requires c = let l = level_of-root 2 (omega arith) (omega arith) in omega arith

pub right-requires : goal.right-requires
right-requires c = let l = level_of-root 2 (omega arith) (omega arith) in omega arith

pub left-requires-in-2 : goal.left-requires-in-2
left-requires-in-2 c = let l = level_of-root 3 (omega arith) (omega arith) in omega arith

pub right-requires-in_default : goal.right-requires-in_default
right-requires-in_default c = let l = level_of-root 3 (omega arith) (omega arith) in omega arith
