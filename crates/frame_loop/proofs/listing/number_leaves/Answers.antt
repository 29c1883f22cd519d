use Rattle.std.proofs.Common.{ℕ, List, ◌*◌, ◌≤◌, All, sym, ◌∙◌, subst}
use Rattle.mesh_defs.specs.Triangle.{level_of}
use Rattle.mesh_laws.specs.Slots.{split_set}
use Rattle.frame_loop.proofs.PoolLemmas.{leaves_levels}
use Rattle.frame_loop.proofs.listing.number_leaves.Goals as goal

pub number-requires-clause-levels : goal.number-requires-clause-levels
number-requires-clause-levels c =
    let n : ℕ = c.args.pool.now.n in
    subst (λ (k : ℕ). All (λ a. level_of a ≤ 2 * k) c.leaves.result.now) (sym c.n.ensures.value)
    (subst (λ (l : List ℕ). All (λ a. level_of a ≤ 2 * n) l) (sym (c.leaves.ensures ∙ c.requires.listed))
    (leaves_levels n (split_set c.args.pool.now.pairs)))
