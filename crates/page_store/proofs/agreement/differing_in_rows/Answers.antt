-- The rows before, and this one.
use Rattle.std.proofs.Common.{◌≡◌, ◌<◌, ◌≤◌, subst, refl, arith, ⊎_elim}
use Rattle.std.proofs.lemmas.Bool.{cases_lt}
use Rattle.mesh_defs.specs.Thickness.{height_of}
use Rattle.page_store.specs.Agreement.{twice, moved_by}
use Rattle.page_store.proofs.agreement.differing_in_rows.Goals as goal

pub loop-row-preserved : goal.loop-row-preserved
loop-row-preserved c = λ d column row. ⊎_elim
    (λ (before : d.y < c.loop-row.row). c.loop-row.invariant d column before)
    (λ (more : c.loop-row.row ≤ d.y).
    let same : c.loop-row.row ≡ d.y = omega arith in
    subst (λ y. height_of c.args.page.now.n c.args.page.now.heights (twice (record { x = d.x; y = y }))
    ≡ height_of c.args.page.now.n c.args.coarser.now.heights (moved_by c.args.corner (record { x = d.x; y = y })))
    same (c.in_default.ensures.none refl d.x column))
    (cases_lt d.y c.loop-row.row)
