use Rattle.std.proofs.Common.{◌≡◌, ◌+◌, ◌≤◌, length, vec_len, vec_capacity}
use Rattle.pgm_grid.proofs.RasterLemmas.{Left}
use Rattle.pgm_grid.proofs.raster_bulk.push_bytes.Given as goal

-- what was added and what is left are the bytes
abbrev pub invariant-loop-left : goal.invariant-loop-left
invariant-loop-left l = record {
  told : Left l.limits l.fn.heights.items l.bytes l.heights.items l.left;
  count : vec_len l.heights + length l.left ≡ vec_len l.fn.heights + length l.bytes;
  capacity : vec_capacity l.fn.heights ≤ vec_capacity l.heights;
}

abbrev pub decreases-loop-left : goal.decreases-loop-left
decreases-loop-left l = length l.left
