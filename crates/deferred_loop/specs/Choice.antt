-- Which step comes next, and that a frame changes no more than it must.
-- Source: the dual-queue algorithm of Duchaineau et al., "ROAMing Terrain", IEEE Visualization 1997; the rules for
-- steps and for the end are those of `mesh_laws`.
-- Words: Priorities, IsFirstRank, IsLastRank, IsNextSplit, IsNextMerge, IsNextEnd, IsNext, IsSparing.
use Rattle.std.specs.Prelude.{◌≡◌, ◌+◌, ◌≤◌, ℕ, List, length}
use Rattle.mesh_defs.specs.ClosedSet.{IsSubset, among}
use Rattle.mesh_defs.specs.Ranking.{IsRanking, IsRankClosure}
use Rattle.mesh_defs.specs.Greedy.{IsFirstLeaf}
use Rattle.mesh_defs.specs.GridSet.{IsForced}
use Rattle.mesh_laws.specs.Frame.{IsFrame}
use Rattle.bintree_addr.specs.declared.rank.Rank.{Rank}
use Rattle.mesh_laws.specs.Lead.{IsLastLead}
use Rattle.mesh_laws.specs.Steps.{leaf_count, MustMerge, IsFinished, AreLoose}
use Rattle.deferred_loop.specs.declared.next.Ending.{Ending}
use Rattle.deferred_loop.specs.declared.next.Next.{Next}
use Rattle.deferred_loop.specs.declared.next.Next.TheVariants.{Split, Merge, End}

-- the priorities of a grid of side 2 ^ n
pub record Priorities : Type 0 where
  pub n : ℕ
  pub of : ℕ → ℕ

-- the first leaf in rank, with its priority
pub record IsFirstRank (n : ℕ) (priority : ℕ → ℕ) (members : List ℕ) (r : Rank) : Type 0 where
  pub first : IsFirstLeaf n priority (among members) r.tri
  pub value : r.p ≡ priority r.tri

-- the last diamond in rank, with the priority of its better triangle
pub record IsLastRank (n : ℕ) (priority : ℕ → ℕ) (members : List ℕ) (r : Rank) : Type 0 where
  pub last : IsLastLead n priority (among members) r.tri
  pub value : r.p ≡ priority r.tri

-- f is the first leaf in rank, and fits
pub record IsNextSplit (n budget : ℕ) (priority : ℕ → ℕ) (members : List ℕ) (f : ℕ) : Type 0 where
  pub within : leaf_count n members ≤ budget
  pub first : IsFirstLeaf n priority (among members) f
  pub after : List ℕ
  pub forced : IsForced n members f after
  pub fits : leaf_count n after ≤ budget

-- d leads the last diamond in rank, and it must be merged
pub record IsNextMerge (n budget : ℕ) (priority : ℕ → ℕ) (members : List ℕ) (d : ℕ) : Type 0 where
  pub last : IsLastLead n priority (among members) d
  pub must : MustMerge n budget priority members d

-- no step is left; so worst and what blocks are those of the budget
pub record IsNextEnd (n budget : ℕ) (priority : ℕ → ℕ) (members : List ℕ) (e : Ending) : Type 0 where
  pub finished : IsFinished n budget priority members
  pub frame : IsFrame n budget priority (among members) e.worst e.blocked

-- the choice is right
abbrev pub IsNext : (n budget : ℕ) (priority : ℕ → ℕ) (members : List ℕ) → Next → Type 0
IsNext n budget priority members (Split f) = IsNextSplit n budget priority members f.tri
IsNext n budget priority members (Merge d) = IsNextMerge n budget priority members d.tri
IsNext n budget priority members (End e) = IsNextEnd n budget priority members e

-- A frame changes no more than it must: nothing is merged where the set only grows, nothing split where it only
-- shrinks, and at most the members are merged whose diamond holds no chosen triangle.
pub record IsSparing (n budget : ℕ) (priority : ℕ → ℕ) (start last : List ℕ) (splits merges : ℕ) : Type 0 where
  pub size : length start + splits ≡ length last + merges
  pub no_merge : IsSubset (among start) (among last) → merges ≡ 0
  pub no_split : IsSubset (among last) (among start) → splits ≡ 0
  pub bound : (ranking : List ℕ) (chosen : ℕ) (loose : List ℕ) → IsRanking n priority ranking →
      IsRankClosure n budget ranking chosen (among last) →
      AreLoose n ranking chosen start loose → merges ≤ length loose
