use Rattle.std.proofs.Common.{◌≡◌}
use Rattle.roam_gen.specs.Generated.{octaves}
use Rattle.roam_gen.proofs.heights.gen_height.Given as goal

abbrev pub invariant-loop-k : goal.invariant-loop-k
invariant-loop-k l = l.height ≡ octaves l.k l.n l.seed l.x l.y
