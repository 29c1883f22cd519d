-- The steps of a frame, from any closed set, and the run of them up to the set that has no next one.
-- Source: the dual-queue algorithm of Duchaineau et al., "ROAMing Terrain", IEEE Visualization 1997, the parts on
-- the two queues; that a merge for room is made only where the merged diamond ranks later than what is split, and
-- that diamonds of priority 0 are merged at the end, are this project's own.
-- Words: leaf_count, DoesNotFit, IsSplitStep, MustMerge, IsMergeStep, IsFinished, StepRun, HoldsChosen, AreLoose,
-- IsFrameRun.
use Rattle.std.specs.Prelude.{◌≡◌, ℕ, ◌+◌, ◌-◌, ◌<◌, ◌≤◌, ◌↔◌, IsTrue, List, length, take, All}
use Rattle.mesh_defs.specs.ClosedSet.{leaves_of, among}
use Rattle.mesh_defs.specs.Ranking.{RanksBefore}
use Rattle.mesh_defs.specs.Greedy.{IsFirstLeaf}
use Rattle.mesh_defs.specs.GridSet.{IsAscending, IsForced}
use Rattle.mesh_laws.specs.Diamond.{IsInDiamond, IsWithoutDiamond}
use Rattle.mesh_laws.specs.Lead.{IsLead, IsLastLead}

-- how many leaves the set of a list's entries has
abbrev pub leaf_count : ℕ → List ℕ → ℕ
leaf_count n members = length (leaves_of n (among members))

-- f is the first leaf in rank, and with what it forces there are more leaves than the budget
pub record DoesNotFit (n budget : ℕ) (priority : ℕ → ℕ) (before : List ℕ) (f : ℕ) : Type 0 where
  pub first : IsFirstLeaf n priority (among before) f
  pub after : List ℕ
  pub forced : IsForced n before f after
  pub over : budget < leaf_count n after

-- a split step: the first leaf in rank is split with what it forces, and both sets are within the budget
pub record IsSplitStep (n budget : ℕ) (priority : ℕ → ℕ) (before after : List ℕ) : Type 0 where
  pub leaf : ℕ
  pub within : leaf_count n before ≤ budget
  pub first : IsFirstLeaf n priority (among before) leaf
  pub forced : IsForced n before leaf after
  pub fits : leaf_count n after ≤ budget

-- Why the diamond with the lead d must be merged: there are more leaves than the budget; or the first leaf in rank does
-- not fit and ranks before d; or no leaf has a positive priority, and d has none either.
pub data MustMerge (n budget : ℕ) (priority : ℕ → ℕ) (before : List ℕ) (d : ℕ) : Type 0 where
  too_many : budget < leaf_count n before → MustMerge n budget priority before d
  makes_room : (f : ℕ) → leaf_count n before ≤ budget → DoesNotFit n budget priority before f →
      RanksBefore priority f d →
      MustMerge n budget priority before d
  needless : leaf_count n before ≤ budget → All (λ a. priority a ≡ 0) (leaves_of n (among before)) → priority d ≡ 0 →
      MustMerge n budget priority before d

-- a merge step: the last diamond in rank is merged, where it must be
pub record IsMergeStep (n budget : ℕ) (priority : ℕ → ℕ) (before after : List ℕ) : Type 0 where
  pub diamond : ℕ
  pub last : IsLastLead n priority (among before) diamond
  pub must : MustMerge n budget priority before diamond
  pub merged : IsWithoutDiamond n before diamond after

-- A frame ends where the first leaf in rank does not fit and every diamond ranks before it, or where no leaf has a
-- positive priority and every diamond has one.
pub data IsFinished (n budget : ℕ) (priority : ℕ → ℕ) (members : List ℕ) : Type 0 where
  blocked : (f : ℕ) → leaf_count n members ≤ budget → DoesNotFit n budget priority members f →
      ((d : ℕ) → IsLead n priority (among members) d → RanksBefore priority d f) → IsFinished n budget priority members
  all_split : leaf_count n members ≤ budget → All (λ a. priority a ≡ 0) (leaves_of n (among members)) →
      ((d : ℕ) → IsLead n priority (among members) d → 0 < priority d) → IsFinished n budget priority members

-- Steps from start to another set, with the numbers of addresses that they added and took away: counts of the steps,
-- and not of the difference of the two sets, since a diamond may be merged and come back by force.
pub data StepRun (n budget : ℕ) (priority : ℕ → ℕ) (start : List ℕ) : List ℕ → ℕ → ℕ → Type 0 where
  begin : StepRun n budget priority start start 0 0
  split : (before after : List ℕ) (added removed : ℕ) → StepRun n budget priority start before added removed →
      IsSplitStep n budget priority before after →
      StepRun n budget priority start after (added + (length after - length before)) removed
  merge : (before after : List ℕ) (added removed : ℕ) → StepRun n budget priority start before added removed →
      IsMergeStep n budget priority before after →
      StepRun n budget priority start after added (removed + (length before - length after))

-- the diamond of a holds one of the chosen triangles
pub record HoldsChosen (n : ℕ) (ranking : List ℕ) (chosen a : ℕ) : Type 0 where
  pub triangle : ℕ
  pub in_diamond : IsInDiamond n a triangle
  pub is_chosen : IsTrue (among (take chosen ranking) triangle)

-- loose are the members whose diamond holds no chosen triangle
pub record AreLoose (n : ℕ) (ranking : List ℕ) (chosen : ℕ) (members loose : List ℕ) : Type 0 where
  pub ascending : IsAscending loose
  pub rest : (a : ℕ) → IsTrue (among loose a) ↔ (IsTrue (among members a) × (HoldsChosen n ranking chosen a → ⊥))

-- A frame's run: from start by steps to a set that has no next one, with all that it added and took away.
pub record IsFrameRun (n budget : ℕ) (priority : ℕ → ℕ) (start last : List ℕ) (added removed : ℕ) : Type 0 where
  pub run : StepRun n budget priority start last added removed
  pub finished : IsFinished n budget priority last
