-- Of the draws of all triangles those of the triangles so far are counted.
use Rattle.std.proofs.Common.{List, All, take, drop}
use Rattle.page_store.specs.Locate.{IsInReach}
use Rattle.world_loop.specs.declared.draws.Draw.{Draw}
use Rattle.world_loop.specs.Draws.{located, draws_from}
use Rattle.world_loop.proofs.DrawLemmas.{AreSoFar}
use Rattle.world_loop.proofs.draws.count_draws.Given as goal

abbrev pub invariant-loop-k : goal.invariant-loop-k
invariant-loop-k l = record {
  reach : All (IsInReach l.store) (take l.k l.triangles);
  ended : List Draw;
  so_far : AreSoFar (draws_from 0 (located l.store l.triangles)) (drop l.k (located l.store l.triangles)) l.k l.count l.last
      ended;
}
