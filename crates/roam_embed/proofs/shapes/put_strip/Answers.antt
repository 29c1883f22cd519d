use Rattle.std.proofs.Common.{ℕ, ◌*◌, ◌≤◌, Bool, List, All, sym, subst, arith}
use Rattle.std.proofs.lemmas.Grind.{common_steps}
use Rattle.std.proofs.lemmas.List.Elements.{All-contains}
use Rattle.mesh_defs.specs.Triangle.{level_of}
use Rattle.mesh_defs.specs.ClosedSet.{leaves_of}
use Rattle.mesh_defs.specs.declared.level.TheConstants.{GREATEST_LEVEL}
use Rattle.mesh_defs.proofs.ListLemmas.{Contains-in}
use Rattle.mesh_laws.proofs.SetListLemmas.{All-in}
use Rattle.frame_loop.specs.Engine.{is_split}
use Rattle.mesh_laws.specs.Strip.{strip_of}
use Rattle.mesh_laws.proofs.StripOrderLemmas.{leaf-strip_of}
use Rattle.roam_embed.proofs.shapes.put_strip.Goals as goal

-- the triangles of a strip are leaves, so of the grid
levels : (n : ℕ) (has : ℕ → Bool) → All (λ a. level_of a ≤ 2 * n) (leaves_of n has) →
    All (λ a. level_of a ≤ 2 * n) (strip_of n has)
levels n has low = All-in (λ a. level_of a ≤ 2 * n) (strip_of n has)
    (λ a i. All-contains (λ b. level_of b ≤ 2 * n) (leaves_of n has) a low
    (Contains-in a (leaves_of n has) (leaf-strip_of n a has i)))

pub strip-requires-clause-leaves : goal.strip-requires-clause-leaves
strip-requires-clause-leaves c =
    let e = c.args.engine.now in
    let small : e.state.grid.n ≤ GREATEST_LEVEL = grind (arith, common_steps) in (
      e.state.grid.n,
      is_split e,
      record { in_grid = small; closed = c.view-view.ensures.closed; is = c.view-view.ensures.leaves },
    )

pub returns-clause-strip : goal.returns-clause-strip
returns-clause-strip c =
    let e = c.args.engine.now in
    let small : e.state.grid.n ≤ GREATEST_LEVEL = grind (arith, common_steps) in
    c.strip.ensures.order e.state.grid.n (is_split e)
    (record { in_grid = small; closed = c.view-view.ensures.closed; is = c.view-view.ensures.leaves })

pub returns-clause-levels : goal.returns-clause-levels
returns-clause-levels c =
    let e = c.args.engine.now in
    let n : ℕ = e.state.grid.n in
    let has : ℕ → Bool = is_split e in
    let P : List ℕ → Type 0 = λ l. All (λ a. level_of a ≤ 2 * n) l in
    let small : n ≤ GREATEST_LEVEL = grind (arith, common_steps) in
    let is = c.strip.ensures.order n has (record {
      in_grid = small;
      closed = c.view-view.ensures.closed;
      is = c.view-view.ensures.leaves;
    }) in
    subst P (sym is) (levels n has (subst P c.view-view.ensures.leaves c.view-view.ensures.levels))
