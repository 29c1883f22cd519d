use Rattle.std.proofs.Common.{◌≡◌, ap, length, refl, arith}
use Rattle.mesh_defs.specs.ClosedSet.{leaves_of}
use Rattle.mesh_laws.specs.Slots.{split_set}
use Rattle.mesh_laws.proofs.SlotLemmas.{leaves_count}
use Rattle.triangle_pool.proofs.PoolLemmas.{room_seen}
use Rattle.triangle_pool.proofs.pool.Pool.leaf_count.Goals as goal

pub returns-clause-leaves : goal.returns-clause-leaves
returns-clause-leaves c =
    let leaves = leaves_count c.self.inside.nodes.n c.self.inside.nodes.pairs c.n-n.ensures.valid in
    let has_pairs = c.self.invariant.pair_count in
    let room = room_seen c.self.inside.most c.self.inside.nodes.pairs c.self.inside.free c.self.inside.nodes.pairs
    c.self.invariant refl in
    let free = c.room.ensures in
    let seen : length (leaves_of c.self.inside.nodes.n (split_set c.self.inside.nodes.pairs))
    ≡ length (leaves_of c.args.self.now.n (split_set c.args.self.now.pairs)) =
    ap (λ p. length (leaves_of p.n (split_set p.pairs))) c.self.view_is in
    omega arith
