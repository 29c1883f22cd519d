-- A half of the finer page where that is loaded, else a triangle of the page's own grid.
use Rattle.std.proofs.Common.{◌+◌, ◌*◌, ap, sym, ◌∙◌, arith, subst, cond}
use Rattle.mesh_defs.specs.HeightField.{HeightField}
use Rattle.mesh_defs.specs.Triangle.{level_of, corners_of}
use Rattle.mosaic_laws.specs.Tile.{in_tile}
use Rattle.page_wedges.specs.Page.{own_wedge, half_in}
use Rattle.page_store.specs.Store.{IsTable}
use Rattle.page_store.proofs.WalkLemmas.{IsBelow}
use Rattle.page_store.proofs.ChildLemmas.{child-bits, child-above, child-half, child-own, grandchild-level}
use Rattle.page_store.proofs.ValueLemmas.{HalfLaw, thin}
use Rattle.page_store.proofs.table.Table.child.Goals.{After-below-below}
use Rattle.page_store.proofs.table.Table.child.Goals as goal

pub own-requires : goal.own-requires
own-requires c =
    let i : IsTable c.args.self.now = subst IsTable c.self.view_is c.self.invariant in
    let side = (i.placed _ _ _ c.requires.page).side in
    let some = i.some in
    let level = ap level_of c.grandchild-tri.ensures.value ∙ grandchild-level c.args.part.quarter c.args.side
    c.requires.quarter c.requires.side in
    record {
      level = omega arith;
      of_tri = c.corners.ensures.value ∙ ap (λ m. corners_of m c.grandchild-tri.result)
          (c.n.ensures.value ∙ ap (λ (g : HeightField). g.n) c.grid.ensures.value);
    }

pub corners-requires : goal.corners-requires
corners-requires c =
    let i : IsTable c.args.self.now = subst IsTable c.self.view_is c.self.invariant in
    let side = (i.placed _ _ _ c.requires.page).side in
    let some = i.some in
    let n = c.n.ensures.value in
    let low = c.n.ensures.low in
    let high = c.n.ensures.high in
    let level = ap level_of c.grandchild-tri.ensures.value ∙ grandchild-level c.args.part.quarter c.args.side
    c.requires.quarter c.requires.side in
    record { in_grid = (omega arith, omega arith); level = omega arith }

-- what the child's two bits say of the finer square
below : (c : After-below-below) → IsBelow
    (2 * in_tile c.args.cuts c.args.part.square (4 + c.args.part.quarter) + c.args.side) c.args.cuts c.args.part.quarter
    c.args.part.square (2 * c.args.side) c.below-below.result.quarter c.below-below.result.square
below c = record {
  bits-are = child-bits c.args.cuts c.args.part.quarter c.args.side (subst IsTable c.self.view_is c.self.invariant)
      c.requires.coarse c.requires.in_square c.requires.quarter c.requires.side c.requires.page;
  part = c.below-below.ensures.quarter;
  column = c.below-below.ensures.column;
  row = c.below-below.ensures.row;
}

pub returns-in-Some-clause-value : goal.returns-in-Some-clause-value
returns-in-Some-clause-value c =
    let i = subst IsTable c.self.view_is c.self.invariant in
    let law : HalfLaw = record { half = c.terrain_laws.ensures.half } in
    let b = below (goal.at.returns-in-Some-clause-value c).After-below-below in
    let there = sym c.in-Some.ensures.value in
    let above = child-above c.args.cuts c.args.part.quarter c.args.side i c.requires.coarse c.requires.in_square
    c.requires.quarter c.requires.side c.requires.page b in
    c.half.ensures.value
    ∙ ap (λ b. half_in c.in-Some.finer.now (cond b 1 0)) c.is_upper.ensures.value
    ∙ child-half c.args.cuts c.args.part.quarter c.args.side i c.requires.coarse c.requires.in_square c.requires.quarter
    c.requires.side c.requires.page b law there
    (c.requires.joined c.below-below.result.square c.in-Some.finer.now above there)

pub returns-in-Some-clause-thin : goal.returns-in-Some-clause-thin
returns-in-Some-clause-thin c =
    thin (2 * in_tile c.args.cuts c.args.part.square (4 + c.args.part.quarter) + c.args.side)
    (subst IsTable c.self.view_is c.self.invariant) (returns-in-Some-clause-value c)

pub returns-in-None-clause-value : goal.returns-in-None-clause-value
returns-in-None-clause-value c =
    c.own.ensures.value
    ∙ ap (own_wedge c.args.page.now.field) c.grandchild-tri.ensures.value
    ∙ child-own c.args.cuts c.args.part.quarter c.args.side (subst IsTable c.self.view_is c.self.invariant)
    c.requires.coarse c.requires.in_square c.requires.quarter c.requires.side c.requires.page
    (below (goal.at.returns-in-None-clause-value c).After-below-below) (sym c.in-None.ensures.value)
