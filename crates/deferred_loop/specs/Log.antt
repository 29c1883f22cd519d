-- The list of the triangles that were split or merged, which may be lost, and what it says of a frame.
-- All of it is this project's own.
-- Words: Log, IsListed, emptied, IsLogged, IsFrameLog.
use Rattle.std.specs.Prelude.{◌≡◌, ℕ, ◌+◌, ◌≤◌, ◌⊎◌, IsTrue, IfSome, IsSome, List, [], length, Option, None, Some}
use Rattle.mesh_defs.specs.ClosedSet.{among}
use Rattle.deferred_loop.specs.Seen.{PoolSet}

-- the triangles that were split or merged since the list was emptied, or none where the list is lost; and how many it
-- has room for
pub record Log : Type 0 where
  pub changed : Option (List ℕ)
  pub room : ℕ

-- a is in the list, or the list is lost
abbrev pub IsListed : Option (List ℕ) → ℕ → Type 0
IsListed None a = Unit {0}
IsListed (Some list) a = IsTrue (among list a)

-- with nothing listed
abbrev pub emptied : Log → Log
emptied log = record log { changed = Some [] }

-- What steps add to a log: each triangle whose membership differs is listed, and what was listed still is. At most as
-- many are added as were split and merged, and the list is lost only where it has no room for them.
pub record IsLogged (before after : PoolSet) (old new : Log) : Type 0 where
  pub kept : (a : ℕ) → IsListed old.changed a → IsListed new.changed a
  pub listed : (a : ℕ) → (among after.members a ≡ among before.members a) ⊎ IsListed new.changed a
  pub room : new.room ≡ old.room
  pub rises : before.splits + before.merges ≤ after.splits + after.merges
  pub few : (list : List ℕ) → new.changed ≡ Some list → (first : List ℕ) × (old.changed ≡ Some first)
      × (length list + (before.splits + before.merges) ≤ length first + (after.splits + after.merges))
  pub fits : (first : List ℕ) → old.changed ≡ Some first →
      length first + (after.splits + after.merges) ≤ old.room + (before.splits + before.merges) →
      (list : List ℕ) × (new.changed ≡ Some list)

-- What a frame of so many splits and merges logs: each triangle whose membership differs between the set at its start
-- and the set at its end, and no more triangles than it split and merged. The list is lost only where these are more
-- than it has room for.
pub record IsFrameLog (start last : List ℕ) (steps : ℕ) (before after : Log) : Type 0 where
  pub listed : (a : ℕ) → (among last a ≡ among start a) ⊎ IsListed after.changed a
  pub few : IfSome after.changed (λ list. length list ≤ steps)
  pub lost : steps ≤ before.room → IsSome after.changed
  pub room : after.room ≡ before.room
