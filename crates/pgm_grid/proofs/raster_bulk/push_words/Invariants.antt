use Rattle.std.proofs.Common.{◌≡◌, ◌+◌, ◌*◌, ◌/◌, ◌≤◌, length, vec_len, vec_capacity}
use Rattle.text_laws.specs.Words.{words_of}
use Rattle.pgm_grid.proofs.RasterLemmas.{Left}
use Rattle.pgm_grid.proofs.raster_bulk.push_words.Given as goal

-- what was added and what is left are the pairs
abbrev pub invariant-loop-left : goal.invariant-loop-left
invariant-loop-left l = record {
  told : Left l.limits l.fn.heights.items (words_of l.pairs) l.heights.items (words_of l.left);
  count : vec_len l.heights + length l.left / 2 ≡ vec_len l.fn.heights + length l.pairs / 2;
  even : length l.left ≡ 2 * (length l.left / 2);
  capacity : vec_capacity l.fn.heights ≤ vec_capacity l.heights;
}

abbrev pub decreases-loop-left : goal.decreases-loop-left
decreases-loop-left l = length l.left
