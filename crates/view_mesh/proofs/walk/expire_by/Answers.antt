use Rattle.std.proofs.Common.{◌≡◌, slice_index, arith, ap, ◌∙◌}
use Rattle.mesh_laws.specs.Slots.{address_at}
use Rattle.triangle_pool.specs.Slots.{PoolState}
use Rattle.view_mesh.proofs.WalkLemmas.{IsExpired-tested_square}
use Rattle.view_mesh.proofs.walk.expire_by.Goals as goal

pub returns : goal.returns
returns g c =
    let root : slice_index c.args.mesh.now.pool.pairs 0 ≡ 1 = c.pool-halves.ensures.root in
    let upper : address_at c.expire_under.new.mesh.pool.pairs 1 ≡ 3 =
    ap (λ (p : PoolState). address_at p.pairs 1) c.expire_under.ensures.pool ∙ omega arith in
    IsExpired-tested_square (g.E.Expiry.expires c.args.expiry.now) c.args.mesh.now c.expire_under.new.mesh
    c.expire_under-2.new.mesh
    (address_at c.args.mesh.now.pool.pairs 0) (address_at c.expire_under.new.mesh.pool.pairs 1)
    c.pool-halves.ensures.only c.pool-halves.ensures.valid
    (omega arith) upper c.expire_under.ensures c.expire_under-2.ensures
