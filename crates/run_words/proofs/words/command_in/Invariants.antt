use Rattle.std.proofs.Common.{◌≡◌, map, take, Some, string_bytes}
use Rattle.run_words.specs.Words.{walk, start, state}
use Rattle.run_words.specs.FoundView.{found_seen, IsFound}
use Rattle.run_words.proofs.words.command_in.Given as goal

-- what is found in the words so far, and what is wanted behind them
abbrev pub invariant-loop-place : goal.invariant-loop-place
invariant-loop-place l =
    (walk start (map string_bytes (take l.place l.words)) ≡ Some (state (found_seen l.found) l.stage)) × IsFound l.found
