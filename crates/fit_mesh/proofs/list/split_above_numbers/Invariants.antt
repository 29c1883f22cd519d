use Rattle.std.proofs.Common.{◌≡◌, length, take, vec_capacity}
use Rattle.mesh_laws.specs.Sweep.{is_flagged}
use Rattle.fit_mesh.specs.Log.{IsLogged}
use Rattle.fit_mesh.specs.Splits.{IsLeastAbove}
use Rattle.fit_mesh.proofs.list.split_above_numbers.Given as goal

abbrev pub invariant-loop-number : goal.invariant-loop-number
invariant-loop-number l = record {
  flags : length l.flags ≡ length l.fn.flags;
  capacity : vec_capacity l.log ≡ vec_capacity l.fn.log;
  log : IsLogged l.flags l.log.items;
  above : IsLeastAbove l.n (take l.number-index l.numbers) (is_flagged l.flags);
}
