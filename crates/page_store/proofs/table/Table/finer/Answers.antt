-- The next square, by two bits more.
use Rattle.std.proofs.Common.{◌≡◌, ◌+◌, ◌-◌, ◌*◌, ◌/◌, ◌%◌, ◌^◌, ◌≤◌, ap, sym, ◌∙◌, arith, subst, refl, ℕ}
use Rattle.mesh_defs.specs.declared.point.Point.{Point}
use Rattle.mesh_defs.specs.Triangle.{level_of}
use Rattle.mosaic_laws.specs.Tile.{IsTile}
use Rattle.mosaic_laws.specs.Glue.{quarter_in, square_in, tile_of}
use Rattle.page_store.specs.Store.{IsTable, top_of, page_at}
use Rattle.page_store.proofs.WalkLemmas.{IsBelow, part-next, square-next, tile-small, found-small}
use Rattle.page_store.proofs.table.Table.finer.Goals.{After-below-part}
use Rattle.page_store.proofs.table.Table.finer.Goals as goal

pub below-part-requires : goal.below-part-requires
below-part-requires c =
    let small = found-small (subst IsTable c.self.view_is c.self.invariant) c.requires.found in
    record { quarter = small.quarter; bits = omega arith; column = small.column; row = small.row }

-- the two bits, as the code shifts them out
walked : {x k number level : ℕ} (p : ℕ) {t : Point} {k' : ℕ} {t' : Point} → number ≡ x → level ≡ level_of x →
    k' ≡ quarter_in k (2 * number / 2 ^ (level - 2 * (p + 1)) % 4) →
    t'.x ≡ 2 * t.x + (square_in k (2 * number / 2 ^ (level - 2 * (p + 1)) % 4 / 2)).x →
    t'.y ≡ 2 * t.y + (square_in k (2 * number / 2 ^ (level - 2 * (p + 1)) % 4 / 2)).y →
    IsBelow x p k t (2 * number / 2 ^ (level - 2 * (p + 1)) % 4) k' t'
walked p same deep part column row = record {
  bits-are = rw (same, deep) refl;
  part = part;
  column = column;
  row = row;
}

module _ (c : After-below-part) where
  low : 2 ≤ c.args.tri
  low = omega (arith, c.number.ensures.value, c.number.ensures.low)

  deep : 2 * (c.args.found.cuts + 1) ≤ level_of c.args.tri
  deep = omega (arith, c.if-cuts-level.false, c.level-level.ensures.value)

  below : IsBelow c.args.tri c.args.found.cuts c.args.found.part.quarter c.args.found.part.square
      (2 * c.number.result / 2 ^ (c.level-level.result - 2 * (c.args.found.cuts + 1)) % 4) c.below-part.result.quarter
      c.below-part.result.square
  below = walked c.args.found.cuts c.number.ensures.value c.level-level.ensures.value c.below-part.ensures.quarter
      c.below-part.ensures.column c.below-part.ensures.row

  next : tile_of (c.args.found.cuts + 1) (2 * c.args.tri) ≡ c.below-part.result.square
  next = square-next below low deep c.requires.found.part c.requires.found.square

pub page_in-requires-clause-in_square : goal.page_in-requires-clause-in_square
page_in-requires-clause-in_square c =
    subst (IsTile (2 ^ (c.args.found.cuts + 1)) (2 ^ (c.args.found.cuts + 1)))
    (next (goal.at.page_in-requires-clause-in_square c).After-below-part)
    (tile-small (c.args.found.cuts + 1) (2 * c.args.tri))

pub returns-in_err-page-clause-none : goal.returns-in_err-page-clause-none
returns-in_err-page-clause-none c =
    let h = (goal.at.returns-in_err-page-clause-none c).After-below-part in λ _. record {
      end = λ less deep.
          ap (page_at c.args.self.now (top_of c.args.self.now - (c.args.found.cuts + 1))) (next h)
          ∙ sym c.in_err-page.ensures.value;
    }

pub returns-clause-some : goal.returns-clause-some
returns-clause-some c =
    let h = (goal.at.returns-clause-some c).After-below-part in
    let e : c.self.inside.large - c.self.inside.n ≡ top_of c.args.self.now = ap top_of c.self.view_is in
    record {
      coarse = omega (arith, c.if-cuts-self.false);
      deep = deep h;
      part = part-next (below h) (low h) (deep h) c.requires.found.part c.requires.found.square;
      square = next h;
      loaded = sym c.in_ok-page.ensures.value;
    }
