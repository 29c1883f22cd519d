use Rattle.std.proofs.Common.{◌≡◌, ◌+◌, ◌<◌, ◌≤◌, ◌^◌, ◌++◌, ℕ, List, drop, length}
use Rattle.pgm_grid.specs.declared.raster_part.Limits.{Limits}
use Rattle.pgm_grid.specs.RasterProgress.{most_bytes, plain_from}
use Rattle.pgm_grid.proofs.raster_plain.digits_after.Given as goal

-- what the first i bytes and the digits before them have come to, and the bytes that are left
abbrev pub invariant-loop-i : goal.invariant-loop-i
invariant-loop-i l = record {
  told : (m : Limits) (index at : ℕ) (more : List ℕ) → index < m.count → at + length l.piece ≤ most_bytes
      → plain_from m index l.fn.digits at (l.piece ++ more)
      ≡ plain_from m index l.digits (at + l.i) (drop l.i l.piece ++ more);
  short : l.digits.count ≤ 9;
  small : l.digits.value < 10 ^ l.digits.count;
}
