use Rattle.std.proofs.Common.{◌≡◌, length, take, vec_capacity}
use Rattle.mesh_laws.specs.Sweep.{is_flagged}
use Rattle.fit_mesh.specs.Log.{IsLogged}
use Rattle.fit_mesh.specs.Splits.{IsLeastAbove}
use Rattle.fit_mesh.proofs.list.split_above_all.Given as goal

abbrev pub invariant-loop-t : goal.invariant-loop-t
invariant-loop-t l = record {
  flags : length l.flags ≡ length l.fn.flags;
  capacity : vec_capacity l.log ≡ vec_capacity l.fn.log;
  log : IsLogged l.flags l.log.items;
  above : IsLeastAbove l.n (take l.t-index l.triangles) (is_flagged l.flags);
}
