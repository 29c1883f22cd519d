use Rattle.std.proofs.Common.{◌-◌, ◌≡◌, ◌≤◌, ℕ, Bool, length, take, vec_capacity}
use Rattle.mesh_defs.specs.ClosedSet.{IsClosed, IsSubset, among}
use Rattle.mesh_laws.specs.Sweep.{is_flagged}
use Rattle.fit_mesh.specs.Limit.{tolerance_of, error_within}
use Rattle.fit_mesh.specs.Log.{KeepsLog, Extends}
use Rattle.fit_mesh.specs.Grown.{AreSettled}
use Rattle.fit_mesh.specs.Splits.{IsSettledIn}
use Rattle.fit_mesh.proofs.settle.settle.Given as goal

abbrev pub invariant-loop-next : goal.invariant-loop-next
invariant-loop-next l = record {
  flags : length l.flags ≡ length l.fn.flags;
  capacity : vec_capacity l.log ≡ vec_capacity l.fn.log;
  place : l.next ≤ length l.log.items;
  log : KeepsLog l.fn.flags l.fn.log.items l.flags l.log.items;
  kept : Extends l.fn.log.items l.log.items;
  closed : IsClosed l.grid.n (is_flagged l.flags);
  more : IsSubset (is_flagged l.fn.flags) (is_flagged l.flags);
  least : (other : ℕ → Bool) → IsClosed l.grid.n other → IsSubset (is_flagged l.fn.flags) other →
      IsSettledIn l.grid.n (error_within l.grid.n l.grid.heights l.limit) (tolerance_of l.limit)
      (among (take l.next l.log.items)) other → IsSubset (is_flagged l.flags) other;
  asked : AreSettled l.grid.n (error_within l.grid.n l.grid.heights l.limit) (tolerance_of l.limit) (is_flagged l.flags)
      (take l.next l.log.items);
}

abbrev pub decreases-loop-next : goal.decreases-loop-next
decreases-loop-next l = vec_capacity l.fn.log - l.next
