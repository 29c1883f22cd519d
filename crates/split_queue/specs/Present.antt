-- The ranks of the slots that have an entry, where the heap has those of others too.
use Rattle.std.specs.Prelude.{Bool, true, false, List, Option, None}
use Rattle.std.specs.Simd.Lanes.{zip2}
use Rattle.bintree_addr.specs.declared.rank.Rank.{Rank}

-- the rank of a slot, where it is present
abbrev pub if_present : Bool → Option Rank → Option Rank
if_present false rank = None
if_present true rank = rank

-- that of each slot
abbrev pub present_ranks : List (Option Rank) → List Bool → List (Option Rank)
present_ranks ranks present = zip2 if_present present ranks
