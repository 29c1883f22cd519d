-- Stamps that are expired, since the priorities of their triangles may be others. This project's own.
-- Words: IsExpired, AreAllExpired.
use Rattle.std.specs.Prelude.{◌≡◌, ℕ, Bool, cond, option_map, true, Some}
use Rattle.mesh_laws.specs.Stamps.{Stamp}
use Rattle.roam_mesh.specs.Mesh.{MeshState, stamp_of, with_expired}

-- the pool stays, and just the stamps of these triangles are expired
pub record IsExpired (before after : MeshState) (expired : ℕ → Bool) : Type 0 where
  pub pool : after.pool ≡ before.pool
  pub stamps : (a : ℕ) →
      stamp_of after a ≡ cond (expired a) (option_map with_expired (stamp_of before a)) (stamp_of before a)

-- no stamp of the mesh is good any more
abbrev pub AreAllExpired : MeshState → Type 0
AreAllExpired mesh = (a : ℕ) (stamp : Stamp) → stamp_of mesh a ≡ Some stamp → stamp.expired ≡ true
