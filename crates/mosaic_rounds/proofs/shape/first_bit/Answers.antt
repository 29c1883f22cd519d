-- There are at most 2 ^ 32 tiles.
use Rattle.std.proofs.Common.{arith}
use Rattle.mosaic_rounds.proofs.ShapeLemmas.{first-small}
use Rattle.mosaic_rounds.proofs.shape.first_bit.Goals as goal

pub returns-clause-small : goal.returns-clause-small
returns-clause-small c =
    let s = c.requires.shape in
    let tile = c.requires.tile in
    let small = first-small c.args.shape.columns c.args.shape.rows c.args.shape.n c.args.t.x c.args.t.y s.columns_high
    s.rows_high s.n_high tile.column tile.row in omega arith
