use Rattle.std.proofs.Common.{◌≡◌, ℕ, ◌≤◌, pos, ◌+ℤ◌, subst}
use Rattle.std.proofs.lemmas.Int.{to_z-of_z}
use lib.IntN.{ℤ}
use mir.Syntax.{w32}
use mir.Val.{to_z, of_z}
use Rattle.mesh_defs.specs.HeightField.{height_at}
use Rattle.mesh_defs.specs.State.{clamped}
use Rattle.wedgie_tree.proofs.RowLemmas.{raised-row-columns}
use Rattle.wedgie_tree.proofs.heights.raise_one_row.Goals as goal

pub returns-clause-there : goal.returns-clause-there
returns-clause-there c =
    let Raised : ℤ → Type 0 = λ z. (i : ℕ) → c.args.x0 ≤ i → i ≤ c.args.x1 →
    height_at c.args.grid.now.n c.put_raised.new.grid.heights i c.args.y
    ≡ clamped c.args.grid.now.maxval (pos (height_at c.args.grid.now.n c.args.grid.now.heights i c.args.y) +ℤ z) in
    subst Raised (to_z-of_z w32 c.args.dz c.ranges.dz)
    (raised-row-columns c.args.grid.now c.args.x0 c.args.x1 c.args.y
    (to_z w32 (of_z w32 c.args.dz)) c.row_of-row.result.items
    c.as_mut_slice.result.now c.put_raised.new.grid.heights c.as_mut_slice.ensures.value
    c.row_of-row.ensures.count c.row_of-row.ensures.each c.put_raised.ensures.there)
