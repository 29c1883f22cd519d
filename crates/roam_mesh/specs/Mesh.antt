-- What a contract sees of a mesh: its pool, a finite map of stamps, and a log of what the last frame split or merged.
-- Source: Duchaineau et al., "ROAMing Terrain", IEEE Visualization 1997, the part on deferred priority lists.
-- Words: MeshState, slot_of, stamp_of, pool_members, pool_set, seen_of, with_expired, OnlyEntriesStamped.
use Rattle.std.specs.Prelude.{◌≡◌, ℕ, ◌+◌, ◌*◌, ◌/◌, ◌%◌, true, false, nat_eq, List, [], Option, None, Some}
use Rattle.std.specs.Prelude.{slice_index_or}
use Rattle.std.specs.List.{position_or_len}
use Rattle.mesh_defs.specs.ClosedSet.{among}
use Rattle.mesh_laws.specs.Slots.{split_list}
use Rattle.triangle_pool.specs.Slots.{PoolState}
use Rattle.mesh_laws.specs.Deferred.{IsEntry}
use Rattle.mesh_laws.specs.Stamps.{Stamp}
use Rattle.deferred_loop.specs.Seen.{PoolSet, SeenMesh}
use Rattle.deferred_loop.specs.Log.{Log}

-- a mesh between frames: its pool, the stamp of each slot, and the log of the last frame
pub record MeshState : Type 0 where
  pub pool : PoolState
  pub stamps : List (Option Stamp)
  pub log : Log

-- The slot of address a: pairs has the address of its parent in the place of the pair where it stands. Past the end
-- where a is not live.
abbrev pub slot_of : List ℕ → ℕ → ℕ
slot_of pairs a = 2 * position_or_len (λ p. nat_eq p (a / 2)) pairs + a % 2

-- the stamp of a triangle, where it is live and has one
abbrev pub stamp_of : MeshState → ℕ → Option Stamp
stamp_of mesh a = slice_index_or mesh.stamps (slot_of mesh.pool.pairs a) None

-- the members of the pool's set, in ascending order
abbrev pub pool_members : PoolState → List ℕ
pool_members pool = split_list pool.n pool.pairs

-- the set of a pool, as the loop of a frame sees it
abbrev pub pool_set : PoolState → PoolSet
pool_set pool = record {
  n = pool.n;
  members = pool_members pool;
  most = pool.most;
  splits = pool.splits;
  merges = pool.merges;
}

-- a mesh between frames, as the loop sees it
abbrev pub seen_of : MeshState → SeenMesh
seen_of mesh = record {
  set = pool_set mesh.pool;
  known = λ a. false;
  exact = λ a. 0;
  stamps = stamp_of mesh;
  fresh = [];
}

-- the stamp, expired
abbrev pub with_expired : Stamp → Stamp
with_expired stamp = record stamp { expired = true }

-- only entries have a stamp
abbrev pub OnlyEntriesStamped : MeshState → Type 0
OnlyEntriesStamped mesh =
    (a : ℕ) (stamp : Stamp) → stamp_of mesh a ≡ Some stamp → IsEntry mesh.pool.n (among (pool_members mesh.pool)) a
