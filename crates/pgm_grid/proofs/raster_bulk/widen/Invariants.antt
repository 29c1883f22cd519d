use Rattle.std.proofs.Common.{◌≡◌, take}
use Rattle.pgm_grid.proofs.raster_bulk.widen.Given as goal

-- the first i bytes are written
abbrev pub invariant-loop-i : goal.invariant-loop-i
invariant-loop-i l = take l.i l.out ≡ take l.i l.bytes
