use Rattle.std.proofs.Common.{◌≡◌, ℕ, ◌+◌, ◌-◌, ◌≤◌, ◌++◌, List, drop, length, vec_len}
use Rattle.pgm_grid.specs.RasterProgress.{reads}
use Rattle.pgm_grid.specs.RasterStage.{HasSampleRoom, IsPart}
use Rattle.pgm_grid.specs.declared.raster_part.Part.TheVariants as part
use Rattle.pgm_grid.proofs.raster_plain.plain_after.Given as goal

-- what has come of the first i bytes, and the bytes that are left
abbrev pub invariant-loop-i : goal.invariant-loop-i
invariant-loop-i l = record {
  told : (more : List ℕ) → reads l.limits l.fn.heights.items (part.Plain l.fn.digits) l.at (l.piece ++ more)
      ≡ reads l.limits l.heights.items (part.Plain l.digits) (l.at + l.i) (drop l.i l.piece ++ more);
  within : l.i ≤ length l.piece;
  room : HasSampleRoom l.limits l.heights;
  part : IsPart l.limits (vec_len l.heights) (part.Plain l.digits);
}

abbrev pub decreases-loop-i : goal.decreases-loop-i
decreases-loop-i l = length l.piece - l.i
