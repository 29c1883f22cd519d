use Rattle.std.proofs.Common.{◌≡◌, ℕ, List, arith}
use Rattle.std.proofs.lemmas.Result.{IfOk-weaker, IfErr-weaker}
use Rattle.pgm_grid.specs.RasterProgress as samples
use Rattle.pgm_grid.specs.Progress.{samples_at}
use Rattle.pgm_grid.specs.Stage.{progress_of}
use Rattle.pgm_grid.proofs.GridLemmas.{file_points_small}
use Rattle.pgm_grid.proofs.ReaderLemmas.{begins-raster, begins-refused, begun-means}
use Rattle.pgm_grid.proofs.stage.raster_begun.Goals as goal

pub returns-in-Ok-clause-takes : goal.returns-in-Ok-clause-takes
returns-in-Ok-clause-takes c =
    let means : (more : List ℕ) → samples.resume_raster c.in-Ok.reader more ≡ samples_at c.args.header c.args.at more =
    begun-means c.args.header c.form_for-form.result c.points_for-count.result c.args.at c.in-Ok.reader
    c.form_for-form.ensures c.points_for-count.ensures.value c.in-Ok.ensures.value in
    IfOk-weaker c.raster_after.result _ _
    (λ next takes. begins-raster c.args.header c.args.at c.in-Ok.reader c.args.rest.now
    (progress_of next) means c.in-Ok.ensures.place takes) c.raster_after.ensures.takes

pub returns-in-Ok-clause-stops : goal.returns-in-Ok-clause-stops
returns-in-Ok-clause-stops c =
    let means : (more : List ℕ) → samples.resume_raster c.in-Ok.reader more ≡ samples_at c.args.header c.args.at more =
    begun-means c.args.header c.form_for-form.result c.points_for-count.result c.args.at c.in-Ok.reader
    c.form_for-form.ensures c.points_for-count.ensures.value c.in-Ok.ensures.value in
    IfErr-weaker c.raster_after.result _ _
    (λ fault refusal other. begins-refused c.args.header c.args.at c.in-Ok.reader c.args.rest.now fault means refusal)
    c.raster_after.ensures.refusal

pub new-requires-clause-count_small : goal.new-requires-clause-count_small
new-requires-clause-count_small c =
    omega (arith, c.points_for-count.ensures.value, file_points_small c.args.header.n c.requires.valid.level.high)
