use Rattle.std.proofs.Common.{◌≡◌, true, List, sym, ◌∙◌, ap, subst, arith}
use Rattle.std.specs.List.{AllByRecursion}
use Rattle.triangle_pool.specs.Answer.{numbers}
use Rattle.triangle_pool.specs.Slots.{PoolState}
use Rattle.bintree_addr.specs.declared.slot.Slot.{Slot}
use Rattle.roam_mesh.specs.Parts.{is_leaf_at}
use Rattle.roam_mesh.specs.Change.{with_mate}
use Rattle.roam_mesh.proofs.SplitAtLemmas.{left_chain_step}
use Rattle.roam_mesh.proofs.PlacedLemmas.{left_all-pool}
use Rattle.roam_mesh.proofs.parts.Parts.+leave_chain.Goals as goal

pub leave_chain-requires : goal.leave_chain-requires
leave_chain-requires t c =
    let size = c.in-Some.ensures.cases.1 in
    let pool : c.leave_with_mate.new.self.pool ≡ c.args.self.now.pool =
    ap (λ z. z.pool) c.leave_with_mate.ensures
    ∙ left_all-pool c.args.self.now (with_mate c.args.self.now.pool.pairs c.in-Some.first.now.0) in
    let all = subst (λ (x : List Slot). AllByRecursion (λ s. is_leaf_at c.args.self.now.pool.pairs s ≡ true)
    (numbers x)) c.in-Some.ensures.cases.0 c.requires.leaves in (
      omega arith,
      subst (λ (z : PoolState). AllByRecursion (λ s. is_leaf_at z.pairs s ≡ true) (numbers c.in-Some.rest.now))
          (sym pool) all.1,
    )

pub returns : goal.returns
returns t c =
    left_chain_step c.args.self.now c.leave_with_mate.new.self c.leave_chain.new.self c.args.slots.now
    c.in-Some.first.now c.in-Some.rest.now c.in-Some.ensures.cases.0 c.leave_with_mate.ensures c.leave_chain.ensures
