use Rattle.std.proofs.Common.{◌≡◌, ◌<◌, ◌≤◌, ◌^◌, ℕ, length, get_or}
use Rattle.std.specs.Prelude.{◌≢◌}
use Rattle.mesh_defs.specs.HeightField.{height_at}
use Rattle.roam_gen.proofs.heights.put_row.Given as goal

abbrev pub invariant-loop-x : goal.invariant-loop-x
invariant-loop-x l =
    record {
      level : l.grid.n ≡ l.fn.grid.n;
      maxval : l.grid.maxval ≡ l.fn.grid.maxval;
      count : length l.grid.heights ≡ length l.fn.grid.heights;
      done : (i : ℕ) → i < l.x → height_at l.fn.grid.n l.grid.heights i l.y ≡ get_or l.row i 0;
      others : (i j : ℕ) → i ≤ 2 ^ l.fn.grid.n → j ≤ 2 ^ l.fn.grid.n → j ≢ l.y
          → height_at l.fn.grid.n l.grid.heights i j ≡ height_at l.fn.grid.n l.fn.grid.heights i j;
    }
