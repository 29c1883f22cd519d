-- The addresses from the counter up were visited.
use Rattle.std.proofs.Common.{◌≡◌, length}
use Rattle.mesh_laws.specs.Sweep.{is_flagged, IsSwept}
use Rattle.least_mesh.proofs.flags.sweep.Given as goal

abbrev pub invariant-loop-number : goal.invariant-loop-number
invariant-loop-number l = record {
  room : length l.flags ≡ length l.fn.flags;
  swept : IsSwept l.n (is_flagged l.fn.flags) (is_flagged l.flags) l.number;
}
