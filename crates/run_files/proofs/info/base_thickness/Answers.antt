use Rattle.std.proofs.Common.{arith}
use Rattle.bintree_laws.proofs.LevelLemmas.{level_of-root}
use Rattle.run_files.proofs.info.base_thickness.Goals as goal

pub thickness-requires : goal.thickness-requires
thickness-requires c = let zero = level_of-root 2 (omega arith) (omega arith) in record { level = omega arith }

pub thickness-requires-2 : goal.thickness-requires-2
thickness-requires-2 c = let zero = level_of-root 3 (omega arith) (omega arith) in record { level = omega arith }
