use Rattle.pgm_grid.specs.declared.header_fault.HeaderFault.TheVariants as header
use Rattle.pgm_grid.proofs.FileLemmas.{header-law, law-texts, law-grids, law-headers, law-others, law-truncated}
use Rattle.pgm_grid.proofs.FileLemmas.{law-trailing, law-above, law-bad_sample, law-too_long}
use Rattle.pgm_grid.proofs.laws.grids_and_texts.Goals as goal

pub returns-clause-texts : goal.returns-clause-texts
returns-clause-texts c = law-texts c.header_laws.ensures.texts c.raster_laws.ensures.rasters

pub returns-clause-grids : goal.returns-clause-grids
returns-clause-grids c = law-grids c.header_laws.ensures.read c.raster_laws.ensures.samples c.raster_laws.ensures.short

pub returns-clause-headers : goal.returns-clause-headers
returns-clause-headers c = law-headers c.header_laws.ensures.read

pub returns-clause-bad_magic : goal.returns-clause-bad_magic
returns-clause-bad_magic c bytes = header-law bytes header.BadMagic _ (c.header_laws.ensures.bad_magic bytes)

pub returns-clause-bad_header : goal.returns-clause-bad_header
returns-clause-bad_header c bytes place =
    header-law bytes (header.BadHeader place) _ (c.header_laws.ensures.bad_header bytes place)

pub returns-clause-header_too_long : goal.returns-clause-header_too_long
returns-clause-header_too_long c bytes = header-law bytes header.HeaderTooLong _ (c.header_laws.ensures.too_long bytes)

pub returns-clause-bad_maxval : goal.returns-clause-bad_maxval
returns-clause-bad_maxval c bytes = header-law bytes header.BadMaxval _ (c.header_laws.ensures.bad_maxval bytes)

pub returns-clause-not_square : goal.returns-clause-not_square
returns-clause-not_square c bytes = header-law bytes header.NotSquare _ (c.header_laws.ensures.not_square bytes)

pub returns-clause-bad_side : goal.returns-clause-bad_side
returns-clause-bad_side c bytes = header-law bytes header.BadSide _ (c.header_laws.ensures.bad_side bytes)

pub returns-clause-truncated : goal.returns-clause-truncated
returns-clause-truncated c =
    law-truncated c.header_laws.ensures.texts c.header_laws.ensures.read c.header_laws.ensures.part
    c.raster_laws.ensures.truncated

pub returns-clause-trailing : goal.returns-clause-trailing
returns-clause-trailing c =
    law-trailing c.header_laws.ensures.texts c.header_laws.ensures.read c.raster_laws.ensures.trailing

pub returns-clause-above_maxval : goal.returns-clause-above_maxval
returns-clause-above_maxval c =
    law-above c.header_laws.ensures.texts c.header_laws.ensures.read c.raster_laws.ensures.above

pub returns-clause-bad_sample : goal.returns-clause-bad_sample
returns-clause-bad_sample c =
    law-bad_sample c.header_laws.ensures.texts c.header_laws.ensures.read c.raster_laws.ensures.bad_sample

pub returns-clause-too_long : goal.returns-clause-too_long
returns-clause-too_long c =
    law-too_long c.header_laws.ensures.texts c.header_laws.ensures.read c.raster_laws.ensures.too_long

pub returns-clause-others : goal.returns-clause-others
returns-clause-others c = law-others
