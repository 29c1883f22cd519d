use Rattle.std.proofs.Common.{◌≡◌, ◌*◌, ◌-◌, take, drop, map}
use Rattle.roam_lanes.proofs.raising.lower_by.Given as goal

-- the first k blocks are changed, and the others are as they were
abbrev pub invariant-loop-k : goal.invariant-loop-k
invariant-loop-k l =
    (take (8 * l.k) l.row ≡ map (λ h. h - l.by) (take (8 * l.k) l.initial.row))
    × (drop (8 * l.k) l.row ≡ drop (8 * l.k) l.initial.row)
