use Rattle.std.proofs.Common.{◌≡◌, ℕ, subst, refl}
use Rattle.mesh_laws.specs.Slots.{address_at, IsLive}
use Rattle.triangle_pool.specs.Slots.{PoolState}
use Rattle.roam_mesh.proofs.MeshLemmas.{dead_stamps}
use Rattle.roam_mesh.proofs.mesh.Mesh.expire.Goals as goal

pub returns-in_default-clause-stamps : goal.returns-in_default-clause-stamps
returns-in_default-clause-stamps c =
    dead_stamps c.args.self.now c.args.t c.pool.ensures.valid c.pool.ensures.only
    (subst (λ (z : PoolState). (s : ℕ) → IsLive z.pairs s → address_at z.pairs s ≡ c.args.t → ⊥) c.pool.ensures.pool
    (c.in_default.ensures.none refl))
