use Rattle.std.proofs.Common.{◌≡◌, length, map, take}
use Rattle.mesh_laws.specs.Slots.{split_set}
use Rattle.frame_loop.specs.Patch.{change_of}
use Rattle.frame_loop.proofs.patch.list_changes.Given as goal

-- the changes of the triangles so far stand in the first places
abbrev pub invariant-loop-k : goal.invariant-loop-k
invariant-loop-k l = record {
  places : length l.changes ≡ length l.initial.changes;
  there : take l.k l.changes ≡ map (change_of l.pool.n (split_set l.pool.pairs)) (take l.k l.changed);
}
