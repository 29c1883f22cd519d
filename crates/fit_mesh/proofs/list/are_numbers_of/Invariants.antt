use Rattle.std.proofs.Common.{◌≡◌, take}
use Rattle.fit_mesh.proofs.list.are_numbers_of.Given as goal

abbrev pub invariant-loop-k : goal.invariant-loop-k
invariant-loop-k l = take l.k l.triangles ≡ take l.k l.numbers
