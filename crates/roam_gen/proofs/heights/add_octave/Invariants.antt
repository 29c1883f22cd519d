use Rattle.std.proofs.Common.{◌≡◌, ◌+◌, ◌<◌, ◌≤◌, ℕ, length, get_or}
use Rattle.roam_gen.specs.Generated.{octaves}
use Rattle.roam_gen.specs.Rows.{cell_at, IsCellSmall}
use Rattle.roam_gen.proofs.heights.add_octave.Given as goal

abbrev pub invariant-loop-x : goal.invariant-loop-x
invariant-loop-x l =
    record {
      done : (i : ℕ) → i < l.x → get_or l.row i 0 ≡ octaves (l.k + 1) l.n l.seed i l.y;
      left : (i : ℕ) → l.x ≤ i → i < length l.row → get_or l.row i 0 ≡ octaves l.k l.n l.seed i l.y;
      cell : l.cell ≡ cell_at l.base l.cell.column l.line;
      small : IsCellSmall l.cell;
    }
