use Rattle.std.proofs.Common.{◌≡◌, slice_index, arith, ap, ◌∙◌}
use Rattle.mesh_laws.specs.Slots.{address_at}
use Rattle.triangle_pool.specs.Slots.{PoolState}
use Rattle.view_mesh.proofs.WalkLemmas.{IsExpired-square}
use Rattle.view_mesh.proofs.area.expire_each.Goals as goal

pub returns : goal.returns
returns c =
    let root : slice_index c.args.mesh.now.pool.pairs 0 ≡ 1 = c.pool-halves.ensures.root in
    let upper : address_at c.expire_all_under.new.mesh.pool.pairs 1 ≡ 3 =
    ap (λ (p : PoolState). address_at p.pairs 1) c.expire_all_under.ensures.pool ∙ omega arith in
    IsExpired-square c.args.mesh.now c.expire_all_under.new.mesh c.expire_all_under-2.new.mesh
    (address_at c.args.mesh.now.pool.pairs 0) (address_at c.expire_all_under.new.mesh.pool.pairs 1)
    c.pool-halves.ensures.only c.pool-halves.ensures.valid
    (omega arith) upper c.expire_all_under.ensures c.expire_all_under-2.ensures
