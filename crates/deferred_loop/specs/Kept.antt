-- What the loop keeps, half way through a frame: keys that are true, charges for what was asked, and stamps that hold.
-- All of it is this project's own.
-- Words: frame_priorities, IsFrameOf, IsTrueKey, HasTrueKeys, IsSettled, IsOldLeaf, IsOldMember, IsCharged,
-- IsAskedOnly, SplitsUnasked, IsStepAt, IsCaughtUp, IsStamped, IsMet, IsAllowed, IsNoneMet.
use Rattle.std.specs.Prelude.{◌≡◌, ℕ, ◌+◌, ◌-◌, ◌*◌, ◌^◌, ◌<◌, ◌≤◌, ◌⊎◌, ⊤, true, false, cond, nat_eq, IsTrue, List, []}
use Rattle.std.specs.Prelude.{length, Contains, Some}
use Rattle.std.specs.List.{IsDistinct}
use Rattle.mesh_defs.specs.ClosedSet.{leaves_of, among}
use Rattle.mesh_defs.specs.Ranking.{RanksBefore}
use Rattle.mesh_defs.specs.GridSet.{IsGridSet}
use Rattle.bintree_addr.specs.declared.rank.Rank.{Rank}
use Rattle.bintree_addr.specs.RankOrder.{ComesFirst}
use Rattle.mesh_laws.specs.Diamond.{IsInDiamond, CanMerge}
use Rattle.mesh_laws.specs.Lead.{IsLead}
use Rattle.mesh_laws.specs.Steps.{leaf_count, StepRun}
use Rattle.mesh_laws.specs.Deferred.{IsEntry, DeferredFrame, IsOpen}
use Rattle.mesh_laws.specs.Stamps.{Readings, is_due, stamp_now, HasStamps}
use Rattle.deferred_loop.specs.Choice.{Priorities, IsFirstRank}
use Rattle.deferred_loop.specs.Seen.{SeenMesh, upper_of, lower_of}
use Rattle.deferred_loop.specs.declared.limit.Limit.{Limit}
use Rattle.deferred_loop.specs.declared.next.Next.{Next}
use Rattle.deferred_loop.specs.declared.next.Next.TheVariants.{Split, Merge, End}
use Rattle.deferred_loop.specs.declared.limit.Limit.TheVariants.{Over, After, Zero}

-- what the gauge of a frame tells
abbrev pub frame_priorities : DeferredFrame → Priorities
frame_priorities w = record { n = w.n; of = w.priority }

-- w is the frame that begins at this mesh: what is due counts with a stamp that is taken now
pub record IsFrameOf (w : DeferredFrame) (r : Readings) (odometer : ℕ) (s : SeenMesh) : Type 0 where
  pub grid : s.set.n ≡ w.n
  pub start : w.start ≡ s.set.members
  pub stamps : HasStamps w r odometer s.stamps

-- what is known of a is its priority, and else its stamp bounds it
pub record IsTrueKey (w : DeferredFrame) (s : SeenMesh) (a : ℕ) : Type 0 where
  pub exact : s.known a ≡ true → s.exact a ≡ w.priority a
  pub upper : s.known a ≡ false → w.priority a ≤ upper_of (s.stamps a)
  pub lower : s.known a ≡ false → lower_of (s.stamps a) ≤ w.priority a

-- so it is for all entries but the fresh ones, in a closed set
pub record HasTrueKeys (w : DeferredFrame) (s : SeenMesh) : Type 0 where
  pub grid : s.set.n ≡ w.n
  pub valid : IsGridSet w.n s.set.members
  pub keys : (a : ℕ) → IsEntry w.n (among s.set.members) a → among s.fresh a ≡ false → IsTrueKey w s a

-- and nothing is fresh
pub record IsSettled (w : DeferredFrame) (s : SeenMesh) : Type 0 where
  pub grid : s.set.n ≡ w.n
  pub valid : IsGridSet w.n s.set.members
  pub fresh : s.fresh ≡ []
  pub keys : (a : ℕ) → IsEntry w.n (among s.set.members) a → IsTrueKey w s a

-- a leaf since the start, with the stamp that it had then, and not asked
pub record IsOldLeaf (w : DeferredFrame) (s : SeenMesh) (asked : List ℕ) (a : ℕ) : Type 0 where
  pub leaf : Contains (leaves_of w.n (among w.start)) a
  pub undue : w.due a ≡ false
  pub unasked : IsTrue (among asked a) → ⊥
  pub upper : upper_of (s.stamps a) ≡ w.upper a

-- a triangle that could be merged since the start; its diamond has the bounds that it had then, and it was not asked
pub record IsOldMember (w : DeferredFrame) (s : SeenMesh) (asked : List ℕ) (a : ℕ) : Type 0 where
  pub can : CanMerge w.n (among w.start) a
  pub undue : w.due a ≡ false
  pub unasked : IsTrue (among asked a) → ⊥
  pub lower : (b : ℕ) → IsInDiamond w.n a b → lower_of (s.stamps b) ≡ w.lower b

-- Every evaluation so far is charged, and so is one more for each entry of the reserve: the entries that were due, and
-- the roles that steps of this frame gave out. An entry that is not known is in the reserve, or has the role that it
-- had at the start.
pub record IsCharged (w : DeferredFrame) (evaluations : ℕ) (s : SeenMesh) (added removed count : ℕ) : Type 0 where
  pub run : StepRun w.n w.budget w.priority w.start s.set.members added removed
  pub asked : List ℕ
  pub distinct : IsDistinct nat_eq asked
  pub each : (a : ℕ) → IsTrue (among asked a) → IsOpen w a
  pub reserve : List ℕ
  pub leaf : (a : ℕ) → Contains (leaves_of w.n (among s.set.members)) a → s.known a ≡ false → IsTrue (among reserve a)
      ⊎ IsOldLeaf w s asked a
  pub member : (a : ℕ) → CanMerge w.n (among s.set.members) a → s.known a ≡ false →
      IsTrue (among reserve a) ⊎ IsOldMember w s asked a
  pub total : count + length reserve ≤ evaluations + 2 * length asked + 6 * (added + removed)

-- priorities were asked, and nothing else was done: what is charged before is charged after
pub record IsAskedOnly (w : DeferredFrame) (before after : SeenMesh) (count more : ℕ) : Type 0 where
  pub set : after.set ≡ before.set
  pub stamp : (a : ℕ) → after.stamps a ≡ before.stamps a
  pub settled : IsSettled w after
  pub counted : count ≤ more
  pub charged : (evaluations added removed : ℕ) → IsCharged w evaluations before added removed count →
      IsCharged w evaluations after added removed more

-- where the choice is a split, nothing was asked for it: the mesh and the count are as before
abbrev pub SplitsUnasked : Next → SeenMesh → SeenMesh → ℕ → ℕ → Type 0
SplitsUnasked (Split t) before after count more = (after ≡ before) × (more ≡ count)
SplitsUnasked (Merge t) before after count more = ⊤
SplitsUnasked (End e) before after count more = ⊤

-- the triangle of the step is at the slot that the choice names
abbrev pub IsStepAt : (ℕ → ℕ) → Next → Type 0
IsStepAt tri_at (Split t) = tri_at t.slot.0 ≡ t.tri
IsStepAt tri_at (Merge t) = tri_at t.slot.0 ≡ t.tri
IsStepAt tri_at (End e) = ⊤

-- all that was fresh is entered
pub record IsCaughtUp (w : DeferredFrame) (r : Readings) (odometer : ℕ) (before after : SeenMesh) : Type 0 where
  pub set : after.set ≡ before.set
  pub settled : IsSettled w after
  pub known : (a : ℕ) → after.known a ≡ before.known a
  pub stamp : (a : ℕ) → after.stamps a ≡ cond (among before.fresh a) (Some (stamp_now r odometer a)) (before.stamps a)

-- Each entry has a stamp that is not due: that of the start, or one that was taken now. The latter were counted, while
-- the count had room.
pub record IsStamped (r : Readings) (odometer : ℕ) (start : SeenMesh) (first : ℕ) (now : SeenMesh)
    (count : ℕ) : Type 0 where
  pub read : List ℕ
  pub counted : count < 2 ^ 64 - 1 → length read + first ≤ count
  pub each : (a : ℕ) → IsEntry now.set.n (among now.set.members) a →
      ((now.stamps a ≡ start.stamps a) × (is_due odometer (start.stamps a) ≡ false))
      ⊎ ((now.stamps a ≡ Some (stamp_now r odometer a)) × IsTrue (among read a))

-- a rank meets the limit
abbrev pub IsMet : Limit → Rank → Type 0
IsMet Over r = Unit {0}
IsMet (After f) r = ComesFirst f r
IsMet Zero r = r.p ≡ 0

-- when the last diamond is settled under a limit
abbrev pub IsAllowed : DeferredFrame → List ℕ → Limit → Type 0
IsAllowed w members Over = w.budget < leaf_count w.n members
IsAllowed w members (After f) = IsFirstRank w.n w.priority members f
IsAllowed w members Zero = Unit {0}

-- no diamond meets the limit
abbrev pub IsNoneMet : DeferredFrame → List ℕ → Limit → Type 0
IsNoneMet w members Over = ⊥
IsNoneMet w members (After f) = (d : ℕ) → IsLead w.n w.priority (among members) d → RanksBefore w.priority d f.tri
IsNoneMet w members Zero = (d : ℕ) → IsLead w.n w.priority (among members) d → 0 < w.priority d
