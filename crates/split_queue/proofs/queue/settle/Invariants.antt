use Rattle.std.proofs.Common.{◌≡◌, length, is_some, count_by}
use Rattle.split_queue.specs.Present.{present_ranks}
use Rattle.split_queue.proofs.queue.settle.Given as goal

-- only ranks of slots that are not present have gone
abbrev pub invariant-absent : goal.invariant-absent
invariant-absent l =
    (length l.heap ≡ length l.initial.heap)
    × (present_ranks l.heap l.present ≡ present_ranks l.initial.heap l.present)

abbrev pub decreases-absent : goal.decreases-absent
decreases-absent l = count_by is_some l.heap
