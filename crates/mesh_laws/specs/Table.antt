-- Priorities told by a list, for the worked examples.
use Rattle.std.specs.Prelude.{ℕ, List, get_or}

-- the priority of a is the entry at place a, and 0 where there is none
abbrev pub told_by : List ℕ → ℕ → ℕ
told_by table a = get_or table a 0
