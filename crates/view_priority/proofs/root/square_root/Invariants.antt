use Rattle.std.proofs.Common.{◌+◌, ◌*◌, ◌<◌, ◌≤◌, ◌^◌}
use Rattle.view_priority.proofs.root.square_root.Given as goal

abbrev pub invariant-loop-root : goal.invariant-loop-root
invariant-loop-root l = (l.root ≤ 2 ^ 31) × (l.number < (l.root + 1) * (l.root + 1))

abbrev pub decreases-loop-root : goal.decreases-loop-root
decreases-loop-root l = l.root
