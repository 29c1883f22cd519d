use Rattle.pgm_grid.proofs.RasterLawLemmas.{rasters, samples_back}
use Rattle.pgm_grid.proofs.LimitLemmas.{truncated, trailing, above, bad_sample}
use Rattle.pgm_grid.proofs.LongLemmas.{short, too_long}
use Rattle.pgm_grid.proofs.OpenTextLemmas.{unrefused}
use Rattle.pgm_grid.proofs.WantedLemmas.{only_wanted}
use Rattle.pgm_grid.proofs.raster_texts.raster_laws.Goals as goal

pub returns-clause-rasters : goal.returns-clause-rasters
returns-clause-rasters c = rasters

pub returns-clause-samples : goal.returns-clause-samples
returns-clause-samples c = samples_back

pub returns-clause-truncated : goal.returns-clause-truncated
returns-clause-truncated c = truncated

pub returns-clause-trailing : goal.returns-clause-trailing
returns-clause-trailing c = trailing

pub returns-clause-above : goal.returns-clause-above
returns-clause-above c = above

pub returns-clause-bad_sample : goal.returns-clause-bad_sample
returns-clause-bad_sample c = bad_sample

pub returns-clause-wanted : goal.returns-clause-wanted
returns-clause-wanted c = only_wanted

pub returns-clause-short : goal.returns-clause-short
returns-clause-short c = short

pub returns-clause-too_long : goal.returns-clause-too_long
returns-clause-too_long c = too_long

pub returns-clause-unrefused : goal.returns-clause-unrefused
returns-clause-unrefused c = unrefused
