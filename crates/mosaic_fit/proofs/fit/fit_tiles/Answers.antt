-- Tile by tile, until nobody lacks anything.
use Rattle.std.proofs.Common.{◌≡◌, ℕ, ◌+◌, ◌*◌, ◌^◌, ◌≤◌, refl, sym, ◌∙◌, ap, subst, arith}
use Rattle.std.specs.Prelude.{IsNone}
use Rattle.roam_edge.specs.Fault.{Rose}
use Rattle.mosaic_rounds.specs.Rounds.{splits}
use Rattle.mosaic_fit.proofs.UnderWayLemmas.{under-way-first, under-way-moved, under-way-renamed, lacks-moved}
use Rattle.mosaic_fit.proofs.UnderWayLemmas.{under-way-few, under-way-end, end-moved, few-steps, on_err_from}
use Rattle.mosaic_fit.proofs.fit.fit_tiles.Goals as goal

pub loop-fitted-init : goal.loop-fitted-init
loop-fitted-init g c = (
  under-way-first c.args.rounds.now.columns c.args.rounds.now.rows c.args.rounds.now.n c.args.tolerance
      (splits c.args.rounds.now) (g.T.Tiles.heights c.args.tiles.now)
      (g.T.Tiles.meshes c.args.tiles.now) c.requires.fresh,
  refl,
  refl,
  refl,
  c.requires.fit,
  c.requires.exponent,
  refl,
  λ t. refl,
  refl,
  c.requires.columns,
  c.requires.rows,
)

pub returns-in_default-clause-mosaic : goal.returns-in_default-clause-mosaic
returns-in_default-clause-mosaic g c =
    let i = c.loop-fitted.invariant in
    end-moved c.args.rounds.now c.loop-fitted.rounds i.1 i.2 i.3 c.args.tolerance (g.T.Tiles.heights c.args.tiles.now)
    (g.T.Tiles.meshes c.loop-fitted.tiles)
    (under-way-end c.loop-fitted.rounds.columns c.loop-fitted.rounds.rows c.loop-fitted.rounds.n c.args.tolerance
    c.loop-fitted._fitted (splits c.loop-fitted.rounds) (g.T.Tiles.heights c.args.tiles.now)
    (g.T.Tiles.meshes c.loop-fitted.tiles) i.0 (c.next.ensures.none.0 (subst IsNone (sym c.in_default.is) refl)))

pub returns-in_default-clause-heights : goal.returns-in_default-clause-heights
returns-in_default-clause-heights g c = c.loop-fitted.invariant.7

pub returns-in_default-clause-calm : goal.returns-in_default-clause-calm
returns-in_default-clause-calm g c = c.loop-fitted.invariant.8

pub fit_tile-requires-clause-fit : goal.fit_tile-requires-clause-fit
fit_tile-requires-clause-fit g c = c.loop-fitted.invariant.4 ∙ sym c.next.ensures.n

pub fit_tile-requires-clause-columns : goal.fit_tile-requires-clause-columns
fit_tile-requires-clause-columns g c = c.loop-fitted.invariant.9 ∙ sym c.next.ensures.columns

pub fit_tile-requires-clause-rows : goal.fit_tile-requires-clause-rows
fit_tile-requires-clause-rows g c = c.loop-fitted.invariant.10 ∙ sym c.next.ensures.rows

pub fit_tile-requires-clause-exponent : goal.fit_tile-requires-clause-exponent
fit_tile-requires-clause-exponent g c = c.loop-fitted.invariant.5 ∙ sym c.next.ensures.n

pub fit_tile-requires-clause-room : goal.fit_tile-requires-clause-room
fit_tile-requires-clause-room g c =
    let i = c.loop-fitted.invariant in
    let same : 2 ^ (c.next.new.self.n + 2) ≡ 2 ^ (c.args.rounds.now.n + 2) =
    ap (λ k. 2 ^ (k + 2)) (c.next.ensures.n ∙ i.3) in
    let room = c.requires.room in
    let length_is = i.6 in omega arith

pub returns-in_err-fit_tile-clause-heights : goal.returns-in_err-fit_tile-clause-heights
returns-in_err-fit_tile-clause-heights g c t = c.fit_tile.ensures.heights t ∙ c.loop-fitted.invariant.7 t

pub returns-in_err-fit_tile-clause-failed : goal.returns-in_err-fit_tile-clause-failed
returns-in_err-fit_tile-clause-failed g c =
    on_err_from c.from_residual.result (Rose (g.T.Tiles.faults c.args.tiles.now) (g.T.Tiles.faults c.fit_tile.new.tiles))
    (let rose = c.in_err-fit_tile.ensures.failed in let same = c.loop-fitted.invariant.8 in omega arith)

pub loop-fitted-preserved : goal.loop-fitted-preserved
loop-fitted-preserved g c =
    let i = c.loop-fitted.invariant in
    let w = under-way-moved c.loop-fitted.rounds c.next.new.self c.next.ensures.columns c.next.ensures.rows
    c.next.ensures.n c.args.tolerance c.loop-fitted._fitted (g.T.Tiles.heights c.args.tiles.now)
    (g.T.Tiles.meshes c.loop-fitted.tiles) c.next.ensures.splits i.0 in
    let lacks = lacks-moved c.loop-fitted.rounds c.next.new.self c.next.ensures.columns c.next.ensures.rows
    c.next.ensures.n c.in-Some.t c.next.ensures.splits c.in-Some.ensures.tile.1 in
    let next = c.in_ok-fit_tile.ensures.under_way c.loop-fitted._fitted
    (g.T.Tiles.heights c.args.tiles.now) i.7 lacks w in (
      under-way-renamed c.next.new.self c.fit_tile.new.rounds c.fit_tile.ensures.columns c.fit_tile.ensures.rows
          c.fit_tile.ensures.n c.args.tolerance (c.loop-fitted._fitted + 1) (splits c.fit_tile.new.rounds)
          (g.T.Tiles.heights c.args.tiles.now) (g.T.Tiles.meshes c.fit_tile.new.tiles) next,
      c.fit_tile.ensures.columns ∙ c.next.ensures.columns ∙ i.1,
      c.fit_tile.ensures.rows ∙ c.next.ensures.rows ∙ i.2,
      c.fit_tile.ensures.n ∙ c.next.ensures.n ∙ i.3,
      c.fit_tile.ensures.fit ∙ i.4 ∙ sym c.next.ensures.n ∙ sym c.fit_tile.ensures.n,
      c.fit_tile.ensures.exponent ∙ i.5 ∙ sym c.next.ensures.n ∙ sym c.fit_tile.ensures.n,
      c.fit_tile.ensures.room ∙ i.6,
      λ t. c.fit_tile.ensures.heights t ∙ i.7 t,
      c.in_ok-fit_tile.ensures.calm ∙ i.8,
      c.fit_tile.ensures.tile_columns ∙ i.9 ∙ sym c.next.ensures.columns ∙ sym c.fit_tile.ensures.columns,
      c.fit_tile.ensures.tile_rows ∙ i.10 ∙ sym c.next.ensures.rows ∙ sym c.fit_tile.ensures.rows,
    )

-- the loop never comes to the end of its count
never : (columns rows n steps : ℕ) (P : Type 0) → columns ≤ 65536 → rows ≤ 65536 → n ≤ 14 →
    18446744073709551615 ≤ steps → steps ≤ 2 * 4 ^ n * (columns * rows) → P
never columns rows n steps P wide high deep end few =
    let most = few-steps columns rows n wide high deep in absurd (omega arith)

pub returns-clause-mosaic : goal.returns-clause-mosaic
returns-clause-mosaic g c =
    let i = c.loop-fitted.invariant in
    let columns = i.1 in
    let rows = i.2 in
    let n = i.3 in
    let shape = c.requires.shape in
    never c.loop-fitted.rounds.columns c.loop-fitted.rounds.rows c.loop-fitted.rounds.n c.loop-fitted._fitted _
    (let s = shape.0 in omega arith) (let s = shape.1 in omega arith) (let s = shape.2 in omega arith)
    c.loop-fitted-test.false
    (under-way-few c.loop-fitted.rounds.columns c.loop-fitted.rounds.rows c.loop-fitted.rounds.n c.args.tolerance
    c.loop-fitted._fitted (splits c.loop-fitted.rounds) (g.T.Tiles.heights c.args.tiles.now)
    (g.T.Tiles.meshes c.loop-fitted.tiles) i.0)

pub returns-clause-heights : goal.returns-clause-heights
returns-clause-heights g c = c.loop-fitted.invariant.7

pub returns-clause-calm : goal.returns-clause-calm
returns-clause-calm g c = c.loop-fitted.invariant.8
