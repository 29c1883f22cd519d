use Rattle.std.proofs.Common.{ap, ◌∙◌, length, ◌*◌}
use Rattle.std.proofs.lemmas.List.{length-replicate}
use Rattle.mesh_defs.specs.HeightField.{HeightField, side_of}
use Rattle.roam_gen.proofs.RowLemmas.{grid-made}
use Rattle.roam_gen.proofs.heights.gen_grid.Goals as goal

pub returns-clause-value : goal.returns-clause-value
returns-clause-value c =
    let f = c.fill_grid.ensures in
    grid-made c.fill_grid.new.grid c.args.n c.args.seed f.level f.maxval
    (f.count ∙ ap (λ (g : HeightField). length g.heights) c.in_ok-grid.ensures.value
    ∙ length-replicate (side_of c.args.n * side_of c.args.n) 0) f.heights
