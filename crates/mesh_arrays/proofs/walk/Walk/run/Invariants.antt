use Rattle.std.proofs.Common.{◌≡◌, ◌+◌, ◌-◌, ◌≤◌, length, drop}
use Rattle.mesh_arrays.specs.Order.{run_length}
use Rattle.mesh_arrays.proofs.walk.Walk.run.Given as goal

-- those from the first place up to here are in the run
abbrev pub invariant-loop-k : goal.invariant-loop-k
invariant-loop-k l = record {
  begun : l.self-inside.at ≤ l.k;
  within : l.k ≤ length l.self-inside.before.items;
  run : run_length l.fn.t (drop l.self-inside.at l.self-inside.before.items)
      ≡ (l.k - l.self-inside.at) + run_length l.fn.t (drop l.k l.self-inside.before.items);
}

abbrev pub decreases-loop-k : goal.decreases-loop-k
decreases-loop-k l = length l.self-inside.before.items - l.k
