-- What a frame makes of a mesh: the best one of what it follows, by steps that are counted, at so many evaluations.
-- Words: IsAdvanced.
use Rattle.std.specs.Prelude.{◌≡◌, ◌⊎◌, ℕ, ◌+◌, ◌<◌, ◌≤◌, ◌^◌, ◌↔◌, IsNone, IfSome, All, Contains}
use Rattle.mesh_defs.specs.ClosedSet.{leaves_of, among}
use Rattle.mesh_defs.specs.BestMesh.{IsBestMesh}
use Rattle.mesh_laws.specs.Slots.{split_set}
use Rattle.mesh_laws.specs.Frame.{IsFrame}
use Rattle.mesh_laws.specs.Steps.{IsFrameRun}
use Rattle.deferred_loop.specs.declared.frame.Steps.{Steps}
use Rattle.deferred_loop.specs.Seen.{IsCountedBy}
use Rattle.deferred_loop.specs.Choice.{IsSparing}
use Rattle.deferred_loop.specs.Log.{IsListed}
use Rattle.deferred_loop.specs.Promise.{IsAtMost, IsAtLeast, AreStampsGood}
use Rattle.roam_mesh.specs.Mesh.{MeshState, pool_members, pool_set, seen_of, OnlyEntriesStamped}
use Rattle.roam_mesh.specs.Chosen.{SparesChosen}
use Rattle.view_mesh.specs.Sight.{Sight, priority_now, sight_priorities, AreBracketed}

-- A frame at this odometer, with evaluations counted from `count` to `more`: the mesh is the best one within the budget
-- (`frame`, `best`), and `unblocked` and `certificate` say why it is no finer. It is reached by so many splits and merges
-- (`counters`, `run`), no more than must be (`sparing`, `spares`), which the log has (`changed`); where none was made, the
-- triangles are as before (`still`). How often it asked (`most_asked`, `least_asked`), and that its stamps are good and
-- hold on (`stamps`, `kept`, `only`).
pub record IsAdvanced (s : Sight) (budget odometer : ℕ) (before after : MeshState) (steps : Steps) (count more : ℕ)
    : Type 0 where
  pub n : after.pool.n ≡ before.pool.n
  pub counters : IsCountedBy (pool_set before.pool) (pool_set after.pool) steps.splits steps.merges
  pub run : IsFrameRun s.n budget (priority_now s) (pool_members before.pool) (pool_members after.pool)
      steps.splits steps.merges
  pub frame : IsFrame s.n budget (priority_now s) (among (pool_members after.pool)) steps.worst steps.blocked
  pub best : IsBestMesh s.n budget (priority_now s) (leaves_of s.n (among (pool_members after.pool)))
  pub unblocked : IsNone steps.blocked
      ↔ All (λ a. priority_now s a ≡ 0) (leaves_of s.n (among (pool_members after.pool)))
  pub certificate : IfSome steps.blocked (λ b. (budget < b.need) × (priority_now s b.tri ≡ steps.worst)
      × Contains (leaves_of s.n (among (pool_members after.pool))) b.tri)
  pub sparing : IsSparing s.n budget (priority_now s) (pool_members before.pool) (pool_members after.pool)
      steps.splits steps.merges
  pub spares : SparesChosen s.n budget (priority_now s) (pool_members before.pool) (pool_members after.pool)
  pub most_asked : IsAtMost (sight_priorities s) s.readings odometer (seen_of before) budget
      (steps.splits + steps.merges)
      count more
  pub least_asked : IsAtLeast (seen_of before) (seen_of after) count more
  pub stamps : AreStampsGood s.readings odometer (seen_of before) (seen_of after)
  pub kept : AreBracketed s odometer after
  pub only : OnlyEntriesStamped after
  pub few_asked : more ≤ count + 2 ^ 35
  pub few_splits : steps.splits ≤ 2 ^ 31
  pub few_merges : steps.merges ≤ 2 ^ 30
  pub still : steps.splits + steps.merges ≡ 0 →
      leaves_of after.pool.n (split_set after.pool.pairs) ≡ leaves_of before.pool.n (split_set before.pool.pairs)
  pub changed : (a : ℕ) →
      (split_set before.pool.pairs a ≡ split_set after.pool.pairs a) ⊎ IsListed after.log.changed a
