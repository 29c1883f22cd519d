use Rattle.std.proofs.Common.{◌≡◌, ◌+◌, ap, sym, subst, arith}
use Rattle.std.proofs.lemmas.Int.{to_z-of_z}
use lib.IntN.{ℤ}
use mir.Syntax.{w32}
use mir.Val.{to_z, of_z}
use Rattle.mesh_defs.specs.State as state
use Rattle.wedgie_tree.proofs.RowLemmas.{IsRaisedSoFar, IsRaisedSoFar-none, IsRaisedSoFar-next, IsRaisedSoFar-all}
use Rattle.wedgie_tree.proofs.heights.raise_heights.Goals as goal

pub loop-y-init : goal.loop-y-init
loop-y-init c =
    let P : state.Area → Type 0 =
    λ a. IsRaisedSoFar c.args.grid.now a (to_z w32 (of_z w32 c.args.dz)) c.area.inside.y0 c.args.grid.now in
    subst P c.area.view_is
    (IsRaisedSoFar-none c.args.grid.now _ (to_z w32 (of_z w32 c.args.dz)) c.n-small.ensures.valid)

pub loop-y-preserved : goal.loop-y-preserved
loop-y-preserved c =
    let dz : ℤ = to_z w32 (of_z w32 c.args.dz) in
    let inside : state.Area = record {
      x0 = c.area.inside.x0;
      y0 = c.area.inside.y0;
      x1 = c.area.inside.x1;
      y1 = c.area.inside.y1;
    } in
    let P : state.Area → Type 0 = λ a. IsRaisedSoFar c.args.grid.now a dz (c.loop-y.y + 1) c.raise_one_row.new.grid in
    let Q : state.Area → Type 0 = λ a. IsRaisedSoFar c.args.grid.now a dz c.loop-y.y c.loop-y.grid in
    subst P c.area.view_is
    (IsRaisedSoFar-next c.args.grid.now inside dz c.loop-y.y c.loop-y.grid c.raise_one_row.new.grid
    (omega arith) (omega arith) (subst Q (sym c.area.view_is) c.loop-y.invariant) c.raise_one_row.ensures.n
    c.raise_one_row.ensures.maxval c.raise_one_row.ensures.valid c.raise_one_row.ensures.there
    c.raise_one_row.ensures.others)

pub returns-clause-value : goal.returns-clause-value
returns-clause-value c =
    let Raised : ℤ → Type 0 =
    λ z. c.loop-y.grid ≡ record c.args.grid.now { heights = state.raised_heights c.args.grid.now c.args.area z } in
    subst Raised (to_z-of_z w32 c.args.dz c.ranges.dz)
    (IsRaisedSoFar-all c.args.grid.now c.args.area (to_z w32 (of_z w32 c.args.dz)) c.loop-y.y c.loop-y.grid
    (omega (arith, ap (λ (a : state.Area). a.y1) c.area.view_is)) c.n-small.ensures.valid c.loop-y.invariant)

pub returns-clause-others : goal.returns-clause-others
returns-clause-others c = λ i j i_in j_in out. c.loop-y.invariant.outside i j i_in j_in (λ held _. out held)
