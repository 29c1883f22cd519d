-- A sink of bytes in memory: what contracts see of it, and where a write to it fails.
-- This project's own words.
use Rattle.std.specs.Prelude.{ℕ, ◌-◌, Bool, List, ◌++◌, length, nat_lt, ◌==◌, ◌||◌, if◌then◌else◌}
use Rattle.std.specs.List.{list_any}
use Rattle.roam_edge.specs.Fault.{next_count, late_after}

-- the bytes so far, for how many more there is room, the numbers of the writes that are to fail, how many writes and
-- failures there were, and whether a write came after a failure
pub record KeptBytes : Type 0 where
  pub contents : List ℕ
  pub room : ℕ
  pub fails : List ℕ
  pub writes : ℕ
  pub faults : ℕ
  pub late : Bool

-- the next write of this piece fails: its number, counted from 1, is named, or there is no room for it
abbrev pub sink_write_fails : KeptBytes → List ℕ → Bool
sink_write_fails kept piece = list_any (λ k. k == next_count kept.writes) kept.fails || nat_lt kept.room (length piece)

-- the sink after that write: a failure is counted and adds nothing
abbrev pub after_sink_write : KeptBytes → List ℕ → KeptBytes
after_sink_write kept piece =
    if sink_write_fails kept piece
    then record kept {
      writes = next_count kept.writes;
      faults = next_count kept.faults;
      late = late_after kept.late kept.faults;
    }
    else record kept {
      writes = next_count kept.writes;
      contents = kept.contents ++ piece;
      room = kept.room - length piece;
      late = late_after kept.late kept.faults;
    }
