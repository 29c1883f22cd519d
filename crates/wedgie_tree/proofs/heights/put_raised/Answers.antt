use Rattle.std.proofs.Common.{◌≡◌, ℕ, ◌+◌, ◌<◌, length, slice_index, pos, ◌+ℤ◌, subst}
use Rattle.std.proofs.lemmas.Int.{to_z-of_z}
use lib.IntN.{ℤ}
use mir.Syntax.{w32}
use mir.Val.{to_z, of_z}
use Rattle.mesh_defs.specs.HeightField.{height_at}
use Rattle.mesh_defs.specs.State.{clamped}
use Rattle.wedgie_tree.proofs.RowLemmas.{raised-row-bounded, raised-row-there}
use Rattle.wedgie_tree.proofs.heights.put_raised.Goals as goal

pub put_row-requires-clause-bounded : goal.put_row-requires-clause-bounded
put_row-requires-clause-bounded c =
    raised-row-bounded c.args.grid.now.maxval c.maxval.result
    (to_z w32 (of_z w32 c.args.dz)) c.args.row.now c.raise_row.new.row
    c.raise_row.ensures.value c.maxval.ensures.value

pub returns-clause-there : goal.returns-clause-there
returns-clause-there c =
    let Raised : ℤ → Type 0 = λ z. (k : ℕ) → k < length c.args.row.now →
    height_at c.args.grid.now.n c.put_row.new.grid.heights (c.args.x + k) c.args.y
    ≡ clamped c.args.grid.now.maxval (pos (slice_index c.args.row.now k) +ℤ z) in
    subst Raised (to_z-of_z w32 c.args.dz c.ranges.dz)
    (raised-row-there c.args.grid.now.n c.args.grid.now.maxval c.args.x c.args.y c.maxval.result
    (to_z w32 (of_z w32 c.args.dz)) c.args.row.now
    c.raise_row.new.row c.put_row.new.grid.heights c.raise_row.ensures.value c.maxval.ensures.value
    c.put_row.ensures.there)
