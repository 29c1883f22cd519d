-- The draws and the indices of the triangles so far stand in the first places.
use Rattle.std.proofs.Common.{◌≡◌, ◌*◌, ◌++◌, List, All, take, drop}
use Rattle.std.specs.List.{flat_map}
use Rattle.mesh_arrays.specs.Indices.{indices_at}
use Rattle.page_store.specs.Locate.{page_triangle, IsPageTriangle}
use Rattle.world_loop.specs.declared.draws.Draw.{Draw}
use Rattle.world_loop.specs.Draws.{located, draws_from}
use Rattle.world_loop.proofs.DrawLemmas.{AreSoFar, listed}
use Rattle.world_loop.proofs.draws.write_draws.Given as goal

abbrev pub invariant-loop-k : goal.invariant-loop-k
invariant-loop-k l = record {
  placed : All (λ a. IsPageTriangle l.store a (page_triangle l.store a)) (take l.k l.triangles);
  indices : l.indices
      ≡ flat_map (λ a. indices_at l.store.n (page_triangle l.store a).corners) (take l.k l.triangles)
      ++ drop (3 * l.k) l.initial.indices;
  ended : List Draw;
  so_far : AreSoFar (draws_from 0 (located l.store l.triangles)) (drop l.k (located l.store l.triangles)) l.k l.count l.last
      ended;
  draws : l.draws ≡ (ended ++ listed l.last) ++ drop l.count l.initial.draws;
}
