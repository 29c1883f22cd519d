-- A number is that of one tile.
use Rattle.mosaic_rounds.proofs.ShapeLemmas.{turn-tile}
use Rattle.mosaic_rounds.proofs.turn.tile_in_turn.Goals as goal

pub returns-clause-only : goal.returns-clause-only
returns-clause-only c t tile is =
    turn-tile c.args.shape t c.args.turn c.tiles.result tile c.tiles.ensures.value is
