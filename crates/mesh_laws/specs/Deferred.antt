-- Deferred priorities: entries of the queues that keep the bounds of an earlier frame, and those that must be asked
-- anew.
-- Source: Duchaineau et al., "ROAMing Terrain", IEEE Visualization 1997, the part on deferred priority lists; what
-- straddles is this project's own.
-- Words: IsEntry, IsMergedInRun, LeafStraddles, DiamondStraddles, DeferredFrame, IsDeferredFrame, IsOpen.
use Rattle.std.specs.Prelude.{◌≡◌, ℕ, ◌<◌, ◌≤◌, Bool, true, false, List, Contains, None, Some, slice_get}
use Rattle.mesh_defs.specs.Triangle.{IsAddress}
use Rattle.mesh_defs.specs.ClosedSet.{leaves_of, among}
use Rattle.mesh_defs.specs.Ranking.{IsRanking, IsRankClosure, IsBefore}
use Rattle.mesh_defs.specs.Greedy.{IsFirstLeaf}
use Rattle.mesh_defs.specs.GridSet.{IsGridSet}
use Rattle.mesh_defs.specs.Falling.{IsFalling}
use Rattle.mesh_laws.specs.Order.{IsNoLater}
use Rattle.mesh_laws.specs.Diamond.{IsInDiamond, CanMerge}
use Rattle.mesh_laws.specs.Steps.{IsMergeStep, StepRun}

-- an entry of the queues of a set: a leaf, or a triangle of a diamond that can be merged
pub data IsEntry (n : ℕ) (has : ℕ → Bool) (a : ℕ) : Type 0 where
  leaf : Contains (leaves_of n has) a → IsEntry n has a
  member : CanMerge n has a → IsEntry n has a

-- d leads a diamond that is merged in the frame from start
pub record IsMergedInRun (n budget : ℕ) (priority : ℕ → ℕ) (start : List ℕ) (d : ℕ) : Type 0 where
  pub before : List ℕ
  pub after : List ℕ
  pub added : ℕ
  pub removed : ℕ
  pub run : StepRun n budget priority start before added removed
  pub step : IsMergeStep n budget priority before after
  pub lead : step.diamond ≡ d

-- A leaf straddles where its upper bound comes no later than the blocking triangle; where none blocks, where it is
-- positive.
pub record LeafStraddles (priority : ℕ → ℕ) (ranking : List ℕ) (chosen : ℕ) (upper : ℕ → ℕ) (a : ℕ) : Type 0 where
  pub before_blocking : (b : ℕ) → slice_get ranking chosen ≡ Some b → IsNoLater (upper a) a (priority b) b
  pub positive : slice_get ranking chosen ≡ None → 0 < upper a

-- A diamond straddles where the lower bounds of its triangles are 0, come after the first leaf in rank of the start, or
-- come no earlier than a diamond that is merged in the frame.
pub data DiamondStraddles (n budget : ℕ) (priority : ℕ → ℕ) (start : List ℕ) (lower : ℕ → ℕ) (a : ℕ) : Type 0 where
  zero_lower : ((b : ℕ) → IsInDiamond n a b → lower b ≡ 0) → DiamondStraddles n budget priority start lower a
  after_first : (f : ℕ) → IsFirstLeaf n priority (among start) f →
      ((b : ℕ) → IsInDiamond n a b → IsBefore (priority f) f (lower b) b) →
      DiamondStraddles n budget priority start lower a
  after_merged : (d : ℕ) → IsMergedInRun n budget priority start d →
      ((b : ℕ) → IsInDiamond n a b → IsNoLater (priority d) d (lower b) b) →
      DiamondStraddles n budget priority start lower a

-- A frame over bounds: those of the stamps, and of a stamp taken now for what is due.
pub record DeferredFrame : Type 0 where
  pub n : ℕ
  pub budget : ℕ
  pub priority : ℕ → ℕ
  pub ranking : List ℕ
  pub chosen : ℕ
  pub best : ℕ → Bool
  pub start : List ℕ
  pub due : ℕ → Bool
  pub upper : ℕ → ℕ
  pub lower : ℕ → ℕ

-- the priority of each address of the grid lies between its bounds
pub record IsDeferredFrame (w : DeferredFrame) : Type 0 where
  pub ranked : IsRanking w.n w.priority w.ranking
  pub falling : IsFalling w.n w.priority
  pub closure : IsRankClosure w.n w.budget w.ranking w.chosen w.best
  pub low : 2 ≤ w.budget
  pub set : IsGridSet w.n w.start
  pub above : (a : ℕ) → IsAddress w.n a → w.priority a ≤ w.upper a
  pub below : (a : ℕ) → IsAddress w.n a → w.lower a ≤ w.priority a

-- an entry of the start that is due, or straddles
pub data IsOpen (w : DeferredFrame) (a : ℕ) : Type 0 where
  due_entry : IsEntry w.n (among w.start) a → w.due a ≡ true → IsOpen w a
  open_leaf : Contains (leaves_of w.n (among w.start)) a → w.due a ≡ false →
      LeafStraddles w.priority w.ranking w.chosen w.upper a → IsOpen w a
  open_member : CanMerge w.n (among w.start) a → w.due a ≡ false →
      DiamondStraddles w.n w.budget w.priority w.start w.lower a → IsOpen w a
