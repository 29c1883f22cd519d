use Rattle.std.proofs.Common.{◌≡◌, ◌-◌, ◌^◌, ◌<◌, ◌≤◌}
use Rattle.mesh_defs.specs.declared.point.Point.{Point}
use Rattle.mesh_defs.specs.Thickness.{height_of}
use Rattle.page_store.specs.Agreement.{twice, moved_by}
use Rattle.page_store.proofs.agreement.differing_in_rows.Given as goal

abbrev pub invariant-loop-row : goal.invariant-loop-row
invariant-loop-row l = (c : Point) → c.x ≤ 2 ^ (l.page.n - 1) → c.y < l.row →
    height_of l.page.n l.page.heights (twice c) ≡ height_of l.page.n l.coarser.heights (moved_by l.corner c)
