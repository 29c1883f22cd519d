use Rattle.std.proofs.Common.{ℕ, ◌*◌, ◌≤◌, Bool, List, All, sym, ◌∙◌, ap, subst}
use Rattle.mesh_defs.specs.Triangle.{level_of}
use Rattle.mesh_defs.specs.ClosedSet.{among}
use Rattle.obj_write.specs.declared.mesh.MeshView.{MeshView}
use Rattle.obj_write.specs.Numbers.{numbers_of}
use Rattle.roam_mesh.specs.Mesh.{pool_members}
use Rattle.run_laws.proofs.OrderLemmas.{numbers-strip_of, levels-strip_of}
use Rattle.run_engine.proofs.shows.in_order.Goals as goal

pub returns-clause-numbers : goal.returns-clause-numbers
returns-clause-numbers c =
    let n : ℕ = c.args.engine.now.state.grid.n in
    let has : ℕ → Bool = among (pool_members c.args.engine.now.mesh.pool) in
    ap (λ (v : MeshView). v.numbers.now) c.by_table.ensures ∙ c.view-view.ensures.numbers
    ∙ (ap (numbers_of n) c.view-view.ensures.leaves
    ∙ (sym (numbers-strip_of n has) ∙ ap (numbers_of n) (sym c.requires.order)))

pub returns-clause-levels : goal.returns-clause-levels
returns-clause-levels c =
    let n : ℕ = c.args.engine.now.state.grid.n in
    let has : ℕ → Bool = among (pool_members c.args.engine.now.mesh.pool) in
    let P : List ℕ → Type 0 = λ l. All (λ a. level_of a ≤ 2 * n) l in
    subst P (sym c.requires.order)
    (levels-strip_of n has (subst P c.view-view.ensures.leaves c.view-view.ensures.levels))
