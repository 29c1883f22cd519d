-- Which refusals of a file are those of its header, and which those of its raster: no two are the same.
use Rattle.std.proofs.Common.{◌≡◌, Option, None, Some, refl, sym, ap, ◌∙◌}
use Rattle.std.proofs.lemmas.Option.{same_Some}
use Rattle.pgm_grid.specs.declared.header_fault.HeaderFault.{HeaderFault}
use Rattle.pgm_grid.specs.declared.header_fault.HeaderFault.TheVariants as header
use Rattle.pgm_grid.specs.declared.raster_fault.RasterFault.{RasterFault}
use Rattle.pgm_grid.specs.declared.raster_fault.RasterFault.TheVariants as raster
use Rattle.pgm_grid.specs.declared.fault.PgmFault.{PgmFault}
use Rattle.pgm_grid.specs.declared.fault.PgmFault.TheVariants as file
use Rattle.pgm_grid.specs.Progress.{header_fault, raster_fault}

-- ---- of the header

-- the refusal of the header, if it is one
abbrev header_in : PgmFault → Option HeaderFault
header_in file.BadMagic = Some header.BadMagic
header_in (file.BadHeader at) = Some (header.BadHeader at)
header_in file.HeaderTooLong = Some header.HeaderTooLong
header_in file.BadMaxval = Some header.BadMaxval
header_in file.NotSquare = Some header.NotSquare
header_in file.BadSide = Some header.BadSide
header_in _ = None

header_in-header : (fault : HeaderFault) → header_in (header_fault fault) ≡ Some fault
header_in-header header.BadMagic = refl
header_in-header (header.BadHeader at) = refl
header_in-header header.HeaderTooLong = refl
header_in-header header.BadMaxval = refl
header_in-header header.NotSquare = refl
header_in-header header.BadSide = refl

header_in-raster : (fault : RasterFault) → header_in (raster_fault fault) ≡ None
header_in-raster (raster.BadSample at) = refl
header_in-raster (raster.AboveMaxval index) = refl
header_in-raster (raster.Trailing at) = refl
header_in-raster raster.Truncated = refl
header_in-raster raster.TooLong = refl

no_header : (fault : HeaderFault) (other : PgmFault) → header_in other ≡ None → header_fault fault ≡ other → ⊥
no_header fault other none e =
    let both : Some fault ≡ None = sym (header_in-header fault) ∙ ap header_in e ∙ none in cc

-- no refusal of a header is one of a raster
pub apart : (one : HeaderFault) (other : RasterFault) → header_fault one ≡ raster_fault other → ⊥
apart one other e = no_header one (raster_fault other) (header_in-raster other) e

-- none is out of memory
pub no_header-memory : (fault : HeaderFault) → header_fault fault ≡ file.NoMemory → ⊥
no_header-memory fault e = no_header fault file.NoMemory refl e

-- and none an early end
pub header-truncated : (fault : HeaderFault) → header_fault fault ≡ file.Truncated → ⊥
header-truncated fault e = no_header fault file.Truncated refl e

-- no two refusals of a header are the same of a file
pub same_header : (one other : HeaderFault) → header_fault one ≡ header_fault other → one ≡ other
same_header one other e = same_Some one other (sym (header_in-header one) ∙ ap header_in e ∙ header_in-header other)

-- ---- of the raster

-- the refusal of the raster, if it is one
abbrev raster_in : PgmFault → Option RasterFault
raster_in (file.BadSample at) = Some (raster.BadSample at)
raster_in (file.AboveMaxval index) = Some (raster.AboveMaxval index)
raster_in (file.Trailing at) = Some (raster.Trailing at)
raster_in file.Truncated = Some raster.Truncated
raster_in file.TooLong = Some raster.TooLong
raster_in _ = None

raster_in-raster : (fault : RasterFault) → raster_in (raster_fault fault) ≡ Some fault
raster_in-raster (raster.BadSample at) = refl
raster_in-raster (raster.AboveMaxval index) = refl
raster_in-raster (raster.Trailing at) = refl
raster_in-raster raster.Truncated = refl
raster_in-raster raster.TooLong = refl

-- none is out of memory
pub no_raster-memory : (fault : RasterFault) → raster_fault fault ≡ file.NoMemory → ⊥
no_raster-memory fault e =
    let both : Some fault ≡ None = sym (raster_in-raster fault) ∙ ap raster_in e in cc

-- no two refusals of a raster are the same of a file
pub same_raster : (one other : RasterFault) → raster_fault one ≡ raster_fault other → one ≡ other
same_raster one other e = same_Some one other (sym (raster_in-raster one) ∙ ap raster_in e ∙ raster_in-raster other)
