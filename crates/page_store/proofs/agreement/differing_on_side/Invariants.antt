use Rattle.std.proofs.Common.{◌≡◌, ℕ, ◌+◌, ◌%◌, ◌^◌, ◌<◌}
use Rattle.mesh_defs.specs.Thickness.{height_of}
use Rattle.page_store.specs.Agreement.{on_side}
use Rattle.page_store.proofs.agreement.differing_on_side.Given as goal

abbrev pub invariant-loop-k : goal.invariant-loop-k
invariant-loop-k l = (k : ℕ) → k < l.k →
    height_of l.page.n l.page.heights (on_side (2 ^ l.page.n) l.side k)
    ≡ height_of l.page.n l.beside.heights (on_side (2 ^ l.page.n) ((l.side + 2) % 4) k)
