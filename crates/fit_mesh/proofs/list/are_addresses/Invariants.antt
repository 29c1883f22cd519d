use Rattle.std.proofs.Common.{All, take}
use Rattle.mesh_defs.specs.Triangle.{IsAddress}
use Rattle.fit_mesh.proofs.list.are_addresses.Given as goal

abbrev pub invariant-loop-number : goal.invariant-loop-number
invariant-loop-number l = All (IsAddress l.n) (take l.number-index l.numbers)
