-- The vertices of the triangles so far stand in the first places.
use Rattle.std.proofs.Common.{◌≡◌, ◌*◌, ◌++◌, take, drop, flat_map}
use Rattle.mesh_defs.specs.Triangle.{corners_of}
use Rattle.mesh_defs.specs.MeshText.{vertices_of}
use Rattle.obj_write.specs.Arrays.{places_at, places_of}
use Rattle.obj_write.proofs.arrays.write_places.Given as goal

abbrev pub invariant-loop-leaf : goal.invariant-loop-leaf
invariant-loop-leaf l =
    let n = l.view.wedges.now.n in let triangles = l.view.leaves.now in
    record {
      place : l.at ≡ 3 * l.leaf-index;
      so_far : take l.at l.out ++ flat_map (λ a. places_at (vertices_of n triangles) (corners_of n a))
          (drop l.leaf-index triangles)
          ≡ places_of n triangles;
      rest : drop l.at l.out ≡ drop l.at l.initial.out;
    }
