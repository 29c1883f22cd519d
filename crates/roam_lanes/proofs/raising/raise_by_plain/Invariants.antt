use Rattle.std.proofs.Common.{◌≡◌, ◌+◌, min, take, drop, map}
use Rattle.roam_lanes.proofs.raising.raise_by_plain.Given as goal

-- the first i samples are changed, and the others are as they were
abbrev pub invariant-loop-i : goal.invariant-loop-i
invariant-loop-i l =
    (take l.i l.row ≡ map (λ h. min (h + l.by) l.maxval) (take l.i l.initial.row))
    × (drop l.i l.row ≡ drop l.i l.initial.row)
