use Rattle.std.proofs.Common.{◌≡◌, ◌||◌, length, take, vec_capacity}
use Rattle.mesh_defs.specs.ClosedSet.{IsLeastClosed, among}
use Rattle.mesh_laws.specs.Sweep.{is_flagged}
use Rattle.fit_mesh.specs.Log.{KeepsLog}
use Rattle.fit_mesh.proofs.demand.split_all.Given as goal

abbrev pub invariant-loop-t : goal.invariant-loop-t
invariant-loop-t l = record {
  flags : length l.flags ≡ length l.fn.flags;
  capacity : vec_capacity l.log ≡ vec_capacity l.fn.log;
  log : KeepsLog l.fn.flags l.fn.log.items l.flags l.log.items;
  least : IsLeastClosed l.n (λ a. is_flagged l.fn.flags a || among (take l.t-index l.triangles) a) (is_flagged l.flags);
}
