use Rattle.std.proofs.Common.{◌≡◌, ℕ, ◌<◌}
use Rattle.mesh_defs.specs.Thickness.{height_of}
use Rattle.page_store.specs.Agreement.{twice, moved_by}
use Rattle.page_store.proofs.agreement.differing_in_row.Given as goal

abbrev pub invariant-loop-k : goal.invariant-loop-k
invariant-loop-k l = (k : ℕ) → k < l.k →
    height_of l.page.n l.page.heights (twice (record { x = k; y = l.row }))
    ≡ height_of l.page.n l.coarser.heights (moved_by l.corner (record { x = k; y = l.row }))
