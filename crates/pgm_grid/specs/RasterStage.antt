-- The fields of a reader: what they have come to, and what holds of them.
use Rattle.std.specs.Prelude.{ℕ, ◌+◌, ◌-◌, ◌*◌, ◌^◌, ◌<◌, ◌≤◌, ⊤, Option, Some, None, vec_len}
use Rattle.std.specs.Vec.{vec_capacity}
use Rattle.std.specs.declared.vec.Vec.{Vec}
use Rattle.std.specs.declared.alloc.Global.{Global}
use Rattle.pgm_grid.specs.declared.raster_plain.TheConstants.{MOST_BYTES}
use Rattle.pgm_grid.specs.declared.raster_fault.RasterFault.{RasterFault}
use Rattle.pgm_grid.specs.declared.raster_part.Limits.{Limits}
use Rattle.pgm_grid.specs.declared.raster_part.Digits.{Digits}
use Rattle.pgm_grid.specs.declared.raster_part.Part.{Part}
use Rattle.pgm_grid.specs.declared.raster_part.Part.TheVariants as part
use Rattle.pgm_grid.specs.RasterProgress.{RasterProgress, HasRefused}

-- no more samples have come than are wanted, and there is room for all of them
pub record HasSampleRoom (l : Limits) (heights : Vec ℕ Global) : Type 0 where
  pub within : vec_len heights ≤ l.count
  pub room : l.count ≤ vec_capacity heights

-- nine digits at most, of a sample that is still wanted
pub record IsDigits (l : Limits) (index : ℕ) (digits : Digits) : Type 0 where
  pub short : digits.count ≤ 9
  pub small : digits.value < 10 ^ digits.count
  pub wanted : 0 < digits.count → index < l.count

-- a part of a sample that is still wanted
abbrev pub IsPart : Limits → ℕ → Part → Type 0
IsPart l index part.Bytes = ⊤
IsPart l index (part.Words None) = ⊤
IsPart l index (part.Words (Some high)) = index < l.count
IsPart l index (part.Plain digits) = IsDigits l index digits

-- the samples that are still wanted fit a file; in the plain form so do the bytes so far
abbrev pub IsRasterPlace : Limits → ℕ → Part → ℕ → Type 0
IsRasterPlace l index part.Bytes at = at + (l.count - index) ≤ MOST_BYTES
IsRasterPlace l index (part.Words None) at = at + 2 * (l.count - index) ≤ MOST_BYTES
IsRasterPlace l index (part.Words (Some high)) at = at + 2 * (l.count - index) ≤ MOST_BYTES + 1
IsRasterPlace l index (part.Plain digits) at = at ≤ MOST_BYTES

-- the fields of a reader that has refused no byte agree
abbrev pub IsRasterReader : Option RasterFault → Limits → Vec ℕ Global → Part → ℕ → Type 0
IsRasterReader None l heights part at =
    HasSampleRoom l heights × IsPart l (vec_len heights) part × IsRasterPlace l (vec_len heights) part at
IsRasterReader (Some fault) l heights part at = ⊤

-- what a reader has come to that has refused no byte, or this one
abbrev pub raster_progress_of : Option RasterFault → RasterProgress → RasterProgress
raster_progress_of None reading = reading
raster_progress_of (Some fault) reading = HasRefused fault
