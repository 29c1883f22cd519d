-- So many tiles were fitted.
use Rattle.std.proofs.Common.{◌≡◌, length}
use Rattle.mesh_defs.specs.declared.point.Point.{Point}
use Rattle.mosaic_rounds.specs.Rounds.{splits}
use Rattle.mosaic_fit.specs.UnderWay.{IsUnderWay}
use Rattle.mosaic_fit.proofs.fit.fit_tiles.Given as goal

abbrev pub invariant-loop-fitted : goal.invariant-loop-fitted
invariant-loop-fitted g l =
    IsUnderWay l.rounds.columns l.rounds.rows l.rounds.n l.fn.tolerance l._fitted (splits l.rounds)
    (g.T.Tiles.heights l.fn.tiles) (g.T.Tiles.meshes l.tiles)
    × (l.rounds.columns ≡ l.fn.rounds.columns) × (l.rounds.rows ≡ l.fn.rounds.rows) × (l.rounds.n ≡ l.fn.rounds.n)
    × (l.fit.n ≡ l.rounds.n) × (g.T.Tiles.exponent l.tiles ≡ l.rounds.n) × (length l.required ≡ length l.fn.required)
    × ((t : Point) → g.T.Tiles.heights l.tiles t ≡ g.T.Tiles.heights l.fn.tiles t)
    × (g.T.Tiles.faults l.tiles ≡ g.T.Tiles.faults l.fn.tiles)
    × (g.T.Tiles.columns l.tiles ≡ l.rounds.columns) × (g.T.Tiles.rows l.tiles ≡ l.rounds.rows)
