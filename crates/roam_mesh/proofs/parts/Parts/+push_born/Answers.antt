use Rattle.std.proofs.Common.{◌≡◌, ◌++◌, List, sym, ◌∙◌, ap, subst, arith}
use Rattle.std.specs.List.{AllByRecursion, filter}
use Rattle.mesh_laws.specs.Slots.{IsLive}
use Rattle.triangle_pool.specs.Slots.{PoolState}
use Rattle.triangle_pool.specs.declared.pool.Born.{Born}
use Rattle.roam_mesh.specs.Parts.{is_leaf_at}
use Rattle.roam_mesh.specs.Splitting.{pair_slots, second_slots, born_slots}
use Rattle.roam_mesh.proofs.SplitAtLemmas.{pushed_born_step}
use Rattle.roam_mesh.proofs.FreshLemmas.{pushed_all-pool}
use Rattle.roam_mesh.proofs.SlotListLemmas.{all_after}
use Rattle.roam_mesh.proofs.parts.Parts.+push_born.Goals as goal

pub push_born-requires : goal.push_born-requires
push_born-requires t c =
    let size = c.in-Some.ensures.cases.1 in
    let first : c.push_leaves.new.self.pool ≡ c.args.self.now.pool =
    ap (λ z. z.pool) c.push_leaves.ensures ∙ pushed_all-pool c.args.self.now
    (filter (is_leaf_at c.args.self.now.pool.pairs) (pair_slots c.in-Some.born.now.first)) in
    let second : c.push_second.new.self.pool ≡ c.args.self.now.pool =
    ap (λ z. z.pool) c.push_second.ensures
    ∙ pushed_all-pool c.push_leaves.new.self
    (filter (is_leaf_at c.push_leaves.new.self.pool.pairs) (second_slots c.in-Some.born.now.second)) ∙ first in
    let all = subst (λ (x : List Born). AllByRecursion (λ s. IsLive c.args.self.now.pool.pairs s) (born_slots x))
    c.in-Some.ensures.cases.0 c.requires.live in (
      omega arith,
      subst (λ (z : PoolState). AllByRecursion (λ s. IsLive z.pairs s) (born_slots c.in-Some.rest.now)) (sym second)
          (all_after (λ s. IsLive c.args.self.now.pool.pairs s) (pair_slots c.in-Some.born.now.first
          ++ second_slots c.in-Some.born.now.second) (born_slots c.in-Some.rest.now) all),
    )

pub returns : goal.returns
returns t c =
    pushed_born_step c.args.self.now c.push_leaves.new.self c.push_second.new.self c.push_born.new.self
    c.args.answers.now c.in-Some.born.now c.in-Some.rest.now
    c.in-Some.ensures.cases.0 c.push_leaves.ensures c.push_second.ensures c.push_born.ensures
