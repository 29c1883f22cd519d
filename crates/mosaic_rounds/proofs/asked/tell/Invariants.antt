-- So far the list has 2 and what is asked for across the first sides.
use Rattle.std.proofs.Common.{◌≡◌, ◌↔◌, ℕ, ◌+◌, ◌*◌, ◌^◌, ◌≤◌, length, take, IsTrue}
use Rattle.std.proofs.Common.{nat_eq}
use Rattle.std.specs.List.{IsDistinct}
use Rattle.mesh_defs.specs.ClosedSet.{among}
use Rattle.mosaic_rounds.specs.Across.{IsAskedBy}
use Rattle.mosaic_rounds.proofs.asked.tell.Given as goal

abbrev pub invariant-loop-side : goal.invariant-loop-side
invariant-loop-side l =
    (length l.list ≡ length l.initial.list) × (1 ≤ l.count) × (l.count + l.side ≤ 1 + l.side * 2 ^ l.fn.shape.n)
    × ((a : ℕ) → IsTrue (among (take l.count l.list) a) ↔ IsAskedBy l.fn.shape l.fn.words l.fn.t l.side a)
    × IsDistinct nat_eq (take l.count l.list)
