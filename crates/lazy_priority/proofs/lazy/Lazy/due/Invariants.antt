use Rattle.std.proofs.Common.{◌≡◌, is_some, count_by}
use Rattle.lazy_priority.specs.Expired.{NoneExpired}
use Rattle.lazy_priority.specs.Kept.{kept, IsSoundLazy}
use Rattle.lazy_priority.proofs.lazy.Lazy.due.Given as goal

-- no deadline has expired, and only keys of slots without a deadline have gone
abbrev pub invariant-stale : goal.invariant-stale
invariant-stale l =
    (kept l.self-inside.due_from l.self-inside.deadlines ≡ l.fn.self)
    × NoneExpired l.self-inside.deadlines × IsSoundLazy l.self-inside.due_from l.self-inside.deadlines

abbrev pub decreases-stale : goal.decreases-stale
decreases-stale l = count_by is_some l.self-inside.due_from
