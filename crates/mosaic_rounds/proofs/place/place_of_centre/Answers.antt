-- The centre is in the square.
use Rattle.std.proofs.Common.{◌^◌, sym, subst}
use Rattle.bintree_laws.specs.Corners.{IsInSquare}
use Rattle.mosaic_rounds.proofs.PlaceAtLemmas.{centre-in}
use Rattle.mosaic_rounds.proofs.place.place_of_centre.Goals as goal

pub place_at-requires-clause-point_in_grid : goal.place_at-requires-clause-point_in_grid
place_at-requires-clause-point_in_grid c =
    subst (IsInSquare (2 ^ c.args.n)) (sym c.centre-centre.ensures.value) (centre-in c.args.n c.args.t)
