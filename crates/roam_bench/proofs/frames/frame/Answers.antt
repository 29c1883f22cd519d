use Rattle.std.proofs.Common.{◌∙◌, ap}
use Rattle.mesh_defs.specs.HeightField.{HeightField}
use Rattle.roam_gen.specs.Generated.{made_grid}
use Rattle.roam_bench.proofs.frames.frame.Goals as goal

pub frame_over-requires-clause-grid : goal.frame_over-requires-clause-grid
unfolding made_grid
frame_over-requires-clause-grid c =
    ap (λ (grid : HeightField). grid.n) (c.in-Ok-build.ensures ∙ c.in-Ok.ensures.value)
