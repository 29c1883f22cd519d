use Rattle.std.proofs.Common.{◌≡◌, ◌||◌, length, take, vec_capacity}
use Rattle.mesh_defs.specs.ClosedSet.{IsLeastClosed}
use Rattle.mesh_laws.specs.Sweep.{is_flagged}
use Rattle.fit_mesh.specs.Log.{KeepsLog}
use Rattle.fit_mesh.specs.Required.{is_centred_at}
use Rattle.fit_mesh.proofs.demand.split_centred.Given as goal

abbrev pub invariant-loop-place : goal.invariant-loop-place
invariant-loop-place l = record {
  flags : length l.flags ≡ length l.fn.flags;
  capacity : vec_capacity l.log ≡ vec_capacity l.fn.log;
  log : KeepsLog l.fn.flags l.fn.log.items l.flags l.log.items;
  least : IsLeastClosed l.n (λ a. is_flagged l.fn.flags a || is_centred_at l.n (take l.place-index l.places) a)
      (is_flagged l.flags);
}
