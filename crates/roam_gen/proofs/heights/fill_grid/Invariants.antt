use Rattle.std.proofs.Common.{◌≡◌, ◌<◌, ◌≤◌, ◌^◌, ℕ, length}
use Rattle.mesh_defs.specs.HeightField.{height_at}
use Rattle.roam_gen.specs.Generated.{made_height}
use Rattle.roam_gen.proofs.heights.fill_grid.Given as goal

abbrev pub invariant-loop-y : goal.invariant-loop-y
invariant-loop-y l =
    record {
      level : l.grid.n ≡ l.n;
      maxval : l.grid.maxval ≡ 65535;
      count : length l.grid.heights ≡ length l.fn.grid.heights;
      rows : (i j : ℕ) → i ≤ 2 ^ l.n → j < l.y → height_at l.n l.grid.heights i j ≡ made_height l.n l.seed i j;
    }
