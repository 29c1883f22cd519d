use Rattle.std.proofs.Common.{◌≡◌, length}
use Rattle.lazy_priority.specs.Expired.{AreListed}
use Rattle.lazy_priority.proofs.deadlines.Deadlines.take_expired.Given as goal

-- only numbers of slots whose deadline has not expired have gone from the list
abbrev pub invariant-passed : goal.invariant-passed
invariant-passed l =
    (l.self-inside.of_slots.items ≡ l.fn.self) × AreListed l.self-inside.of_slots.items l.self-inside.expired.items

abbrev pub decreases-passed : goal.decreases-passed
decreases-passed l = length l.self-inside.expired.items
