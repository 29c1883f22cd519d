-- The positions of the vertices before a place stand in the first places, and one stands at the place.
use Rattle.std.proofs.Common.{◌≡◌, ◌+◌, ◌-◌, ◌*◌, ◌<◌, ◌≤◌, ◌++◌, length, take, drop, flat_map, get_or}
use Rattle.mesh_defs.specs.MeshText.{vertices_of}
use Rattle.obj_write.specs.Arrays.{position_of, positions_of}
use Rattle.obj_write.proofs.ArrayLemmas.{vertices_from}
use Rattle.obj_write.proofs.arrays.write_all_positions.Given as goal

abbrev pub invariant-loop-k : goal.invariant-loop-k
invariant-loop-k l =
    let grid = l.view.grid.now in let triangles = l.view.leaves.now in
    record {
      within : l.k ≤ length l.view.numbers.now;
      number : l.k < length l.view.numbers.now → get_or l.view.numbers.now l.k 0 ≡ 0 → ⊥;
      room : l.at + 3 * length (vertices_from grid.n triangles l.k) ≡ 3 * length (vertices_of grid.n triangles);
      so_far : take l.at l.out ++ flat_map (position_of grid.n grid.heights l.view.spacing)
          (vertices_from grid.n triangles l.k)
          ≡ positions_of grid.n grid.heights l.view.spacing triangles;
      rest : drop l.at l.out ≡ drop l.at l.initial.out;
    }

abbrev pub decreases-loop-k : goal.decreases-loop-k
decreases-loop-k l = length l.view.numbers.now - l.k
