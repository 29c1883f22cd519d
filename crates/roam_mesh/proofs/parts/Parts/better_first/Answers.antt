use Rattle.std.proofs.Common.{sym, ap, subst}
use Rattle.std.proofs.lemmas.Bool.{both_ways}
use Rattle.mesh_laws.specs.Slots.{address_at, IsPool}
use Rattle.triangle_pool.specs.Slots.{PoolState}
use Rattle.bintree_addr.specs.declared.rank.Rank.{Rank}
use Rattle.bintree_addr.specs.RankOrder.{ComesFirst}
use Rattle.roam_mesh.specs.Parts.{PartsState, worst_rank}
use Rattle.roam_mesh.proofs.RoleLemmas.{ready_live}
use Rattle.roam_mesh.proofs.KeyLemmas.{better_own, better_mate}
use Rattle.roam_mesh.proofs.parts.Parts.better_first.Goals as goal

pub worst_rank-requires : goal.worst_rank-requires
worst_rank-requires c = record { live = ready_live c.args.self.now.pool.pairs c.in-Some.mate.0 c.in-Some.ensures.ready }

pub returns-then-ranks_before : goal.returns-then-ranks_before
returns-then-ranks_before c =
    let parts : PartsState = c.args.self.now in
    let pool : IsPool parts.pool.n parts.pool.pairs = subst (λ (z : PoolState). IsPool z.n z.pairs)
    (ap (λ (z : PartsState). z.pool) c.self.view_is) c.n-n.ensures.valid in
    let first : ComesFirst (worst_rank parts (address_at parts.pool.pairs c.in-Some.mate.0))
    (worst_rank parts (address_at parts.pool.pairs c.args.s.0)) =
    subst (λ (z : Rank). ComesFirst z (worst_rank parts (address_at parts.pool.pairs c.args.s.0))) c.worst_rank.ensures
    (subst (λ (z : Rank). ComesFirst c.worst_rank.result z) c.worst_rank-in-Some.ensures
    (c.ranks_before.ensures.0 c.if-ranks_before.true)) in
    better_mate parts pool c.args.s c.in-Some.mate c.requires.ready c.in-Some.ensures.some
    c.in-Some.ensures.address first

pub returns-else-ranks_before : goal.returns-else-ranks_before
returns-else-ranks_before c =
    let parts : PartsState = c.args.self.now in
    let pool : IsPool parts.pool.n parts.pool.pairs = subst (λ (z : PoolState). IsPool z.n z.pairs)
    (ap (λ (z : PartsState). z.pool) c.self.view_is) c.n-n.ensures.valid in
    better_own parts pool c.args.s c.in-Some.mate c.requires.ready c.in-Some.ensures.some c.in-Some.ensures.address
    (λ first. both_ways c.ranks_before.result c.if-ranks_before.false (c.ranks_before.ensures.1
    (subst (λ (z : Rank). ComesFirst c.worst_rank.result z) (sym c.worst_rank-in-Some.ensures)
    (subst (λ (z : Rank). ComesFirst z (worst_rank parts (address_at parts.pool.pairs c.args.s.0)))
    (sym c.worst_rank.ensures) first))))
