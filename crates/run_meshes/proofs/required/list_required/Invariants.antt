use Rattle.std.proofs.Common.{◌≤◌, take, length, vec_capacity}
use Rattle.run_meshes.specs.FittedSeen.{IsRequiredFor}
use Rattle.run_meshes.proofs.required.list_required.Given as goal

-- the triangles of the points so far are listed
abbrev pub invariant-loop-point : goal.invariant-loop-point
invariant-loop-point l = record {
  listed : IsRequiredFor l.n (take l.point-index l.points) l.required.items;
  count : length l.required.items ≤ l.point-index;
  room : vec_capacity l.fn.required ≤ vec_capacity l.required;
}
