use Rattle.std.proofs.Common.{refl, below_more}
use Rattle.mesh_cover.proofs.judge.first_unpaired.Goals as goal

pub loop-h-preserved : goal.loop-h-preserved
loop-h-preserved c = below_more _ _ c.loop-h.invariant (c.if-not-is_joined.ensures.0 refl)
